use Rattle.std.proofs.Common.{◌≡◌, ◌≤◌, ◌+◌, ◌*◌, drop, length, Some}
use Rattle.std.specs.Prelude.{IfSome}
use Rattle.pdl_kernel.specs.Over.{AreIndicesOver}
use Rattle.pdl_kernel.specs.Scenes.{kinds_of, store_of}
use Rattle.pdl_code.specs.TreeOf.{indices_of, tree_of}
use Rattle.pdl_kernel.proofs.PlacesWalks.{indices_weight, tree_weight, walk}
use Rattle.pdl_kernel.proofs.eval.+eval.Given as goal

-- the indices from here on lead where all lead from the start
abbrev pub invariant-place-loop-entry : goal.invariant-place-loop-entry
invariant-place-loop-entry l = record {
  rest : walk l.resolved.sizes l.loops (store_of l.scene) l.axes (indices_of (drop l.entry-index l.entries)) l.place
      ≡ walk l.resolved.sizes l.loops (store_of l.scene) l.axes (indices_of l.entries) (Some l.argument.start);
  over : AreIndicesOver (kinds_of l.scene) (indices_of (drop l.entry-index l.entries));
  light : indices_weight (indices_of (drop l.entry-index l.entries)) ≤ indices_weight (indices_of l.entries);
  bound : IfSome l.place (λ q. q ≤ 1152921504606846976 + l.entry-index * 4503599627370496);
  few : length l.entries ≤ 8;
}

abbrev pub decreases-value : goal.decreases-value
decreases-value l = 2 * tree_weight (tree_of l.expr.now)

abbrev pub decreases-operand : goal.decreases-operand
decreases-operand l = 2 * tree_weight (tree_of l.expr.now) + 1

abbrev pub decreases-element : goal.decreases-element
decreases-element l = 2 * indices_weight (indices_of l.entries.now) + 1

abbrev pub decreases-place : goal.decreases-place
decreases-place l = 2 * indices_weight (indices_of l.entries.now)
