use Rattle.std.proofs.Common.{◌≡◌, ℕ, ◌+◌, ◌≤◌, ◌-◌, drop}
use Rattle.std.specs.Prelude.{slice_set}
use Rattle.pdl_sig.specs.Resolution.{size_in}
use Rattle.pdl_kernel.specs.Meaning.{run, turns}
use Rattle.pdl_kernel.specs.Over.{IsCodeOver}
use Rattle.pdl_kernel.specs.Scenes.{kinds_of, rests_of, store_of}
use Rattle.pdl_code.specs.TreeOf.{code_of, step_of}
use Rattle.pdl_kernel.proofs.TreeWeights.{step_weight, code_weight}
use Rattle.pdl_kernel.proofs.steps.+run.Given as goal

-- the turns from here on give what all give from the start
abbrev pub invariant-repeat-loop-i : goal.invariant-repeat-loop-i
invariant-repeat-loop-i l = record {
  turns : turns (λ i now. run l.resolved (slice_set l.loops l.dimension i) (code_of l.body) now) l.i (l.i-end - l.i) (store_of l.scene)
      ≡ turns (λ i now. run l.resolved (slice_set l.loops l.dimension i) (code_of l.body) now) 0 (size_in l.resolved.sizes l.dimension) (store_of l.fn.scene);
  same : rests_of l.scene ≡ rests_of l.fn.scene;
  here : (i : ℕ) → slice_set l.here l.dimension i ≡ slice_set l.loops l.dimension i;
}

-- the statements from here on give what all give from the start
abbrev pub invariant-run-loop-stmt : goal.invariant-run-loop-stmt
invariant-run-loop-stmt l = record {
  rest : run l.resolved l.loops (code_of (drop l.stmt-index l.code)) (store_of l.scene) ≡ run l.resolved l.loops (code_of l.code) (store_of l.fn.scene);
  same : rests_of l.scene ≡ rests_of l.fn.scene;
  over : IsCodeOver (kinds_of l.fn.scene) (code_of (drop l.stmt-index l.code));
  light : code_weight (code_of (drop l.stmt-index l.code)) ≤ code_weight (code_of l.code);
}

-- the statements from here on give what all give from the start
abbrev pub invariant-turn-loop-stmt : goal.invariant-turn-loop-stmt
invariant-turn-loop-stmt l = record {
  rest : run l.resolved l.loops (code_of (drop l.stmt-index l.code)) (store_of l.scene) ≡ run l.resolved l.loops (code_of l.code) (store_of l.fn.scene);
  same : rests_of l.scene ≡ rests_of l.fn.scene;
  over : IsCodeOver (kinds_of l.fn.scene) (code_of (drop l.stmt-index l.code));
  light : code_weight (code_of (drop l.stmt-index l.code)) ≤ code_weight (code_of l.code);
}

abbrev pub decreases-step : goal.decreases-step
decreases-step l = step_weight (step_of l.stmt.now)

abbrev pub decreases-repeat : goal.decreases-repeat
decreases-repeat l = code_weight (code_of l.body.now) + 3

abbrev pub decreases-run : goal.decreases-run
decreases-run l = code_weight (code_of l.code.now) + 1

abbrev pub decreases-step_in_line : goal.decreases-step_in_line
decreases-step_in_line l = step_weight (step_of l.stmt.now) + 1

abbrev pub decreases-turn : goal.decreases-turn
decreases-turn l = code_weight (code_of l.code.now) + 2
