-- The cells before this one are copied.
use Rattle.std.proofs.Common.{◌≡◌, ℕ, ◌<◌, [], pos, get_or, ◌+ℤ◌, ◌*ℤ◌}
use Rattle.std.specs.Int.RustNames.{unsigned_abs}
use Rattle.pdl_numbers.proofs.copies.copy_steps.Given as goal

abbrev pub invariant-loop-j : goal.invariant-loop-j
invariant-loop-j g l = (k : ℕ) → k < l.j → get_or l.cells k [] ≡ get_or l.from (unsigned_abs (pos l.place +ℤ l.inc *ℤ pos k)) []
