use Rattle.std.proofs.Common.{◌≡◌, ℕ, ◌-◌, ◌≤◌, List, [], ◌∷◌, length, drop}
use Rattle.pdl_nice.specs.declared.looks.Look.{Look}
use Rattle.pdl_nice.specs.declared.looks.Side.{Side}
use Rattle.pdl_nice.specs.Ends.{close_len, behind}
use Rattle.pdl_nice.proofs.brackets.end_behind.Given as goal

-- what is still to be found from a place on is what was to be found at the start
pub record Reached (looks : List Look) (side : Side) (from at : ℕ) : Type 0 where
  pub within : at ≤ length looks
  pub same : behind at (close_len (side ∷ []) (drop at looks)) ≡ behind from (close_len (side ∷ []) (drop from looks))
  pub further : from ≤ at

abbrev pub invariant-loop-at : goal.invariant-loop-at
invariant-loop-at l = Reached l.looks l.side l.from l.at

abbrev pub decreases-loop-at : goal.decreases-loop-at
decreases-loop-at l = length l.looks - l.at
