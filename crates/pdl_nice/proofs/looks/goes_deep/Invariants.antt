use Rattle.std.proofs.Common.{◌≡◌, ◌≤◌, ℕ, Bool, drop}
use Rattle.pdl_nice.specs.Ends.{looks_deep, none_open}
use Rattle.pdl_nice.proofs.looks.goes_deep.Given as goal

-- what is left goes deep as the whole does, and no count is above the index
pub record Counted (here all : Bool) (round square index : ℕ) : Type 0 where
  pub same : here ≡ all
  pub round_within : round ≤ index
  pub square_within : square ≤ index

abbrev pub invariant-loop-look : goal.invariant-loop-look
invariant-loop-look l =
    Counted (looks_deep l.counts (drop l.look-index l.looks)) (looks_deep none_open l.looks) l.counts.round l.counts.square l.look-index
