use Rattle.std.proofs.Common.{◌≡◌, ◌≢◌, ◌∷◌, [], drop}
use Rattle.std.specs.Prelude.{IfSome}
use Rattle.std.specs.List.{list_any}
use Rattle.pdl_flow.specs.Formula.{arrays_in}
use Rattle.pdl_world.specs.Paths.{root_of}
use Rattle.pdl_world.specs.Swept.{is_listed}
use Rattle.pdl_scope.proofs.following.reads_root.Given as goal

-- none of the arrays before this one has the root
abbrev pub invariant-loop-read : goal.invariant-loop-read
invariant-loop-read l = record {
  before : list_any (λ k. is_listed (l.root ∷ []) (root_of l.engine.world k)) (drop l.read-index (arrays_in l.flow.formula))
      ≡ list_any (λ k. is_listed (l.root ∷ []) (root_of l.engine.world k)) (arrays_in l.flow.formula);
  apart : IfSome l.apart (λ k. root_of l.engine.world k ≢ l.root);
}
