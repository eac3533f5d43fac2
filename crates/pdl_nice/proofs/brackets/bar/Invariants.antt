use Rattle.std.proofs.Common.{◌≡◌, ℕ, ◌-◌, ◌≤◌, List, [], length, drop}
use Rattle.pdl_nice.specs.declared.looks.Look.{Look}
use Rattle.pdl_nice.specs.Ends.{bar_len, further}
use Rattle.pdl_nice.proofs.brackets.bar.Given as goal

-- what is still to be found from a place on is what was to be found at the start
pub record Reached (looks : List Look) (from at : ℕ) : Type 0 where
  pub behind : from ≤ at
  pub within : at ≤ length looks
  pub same : further at (bar_len [] (drop at looks)) ≡ further from (bar_len [] (drop from looks))

abbrev pub invariant-loop-at : goal.invariant-loop-at
invariant-loop-at l = Reached l.looks l.from l.at

abbrev pub decreases-loop-at : goal.decreases-loop-at
decreases-loop-at l = length l.looks - l.at
