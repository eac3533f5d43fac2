-- The numbers before this one are read.
use Rattle.std.proofs.Common.{◌≡◌, ℕ, ◌<◌, pos, get_or, ◌+ℤ◌, ◌*ℤ◌}
use Rattle.std.specs.Int.RustNames.{unsigned_abs}
use Rattle.pdl_numbers.proofs.reads.read_steps.Given as goal

abbrev pub invariant-loop-j : goal.invariant-loop-j
invariant-loop-j g l = (k : ℕ) → k < l.j → get_or l.into k (pos 0) ≡ get_or l.numbers (unsigned_abs (pos l.place +ℤ l.inc *ℤ pos k)) (pos 0)
