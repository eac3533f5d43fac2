-- The numbers before this one are taken in, and the others still stand.
use Rattle.std.proofs.Common.{◌≡◌, ◌<◌, ◌≤◌, ℕ, pos, get_or, ◌+ℤ◌, ◌*ℤ◌}
use Rattle.std.specs.Int.RustNames.{unsigned_abs}
use Rattle.pdl_numbers.proofs.across.take_steps.Given as goal

abbrev pub invariant-loop-j : goal.invariant-loop-j
invariant-loop-j g l = record {
  taken : (m : ℕ) → m < l.j → get_or l.so_far m (pos 0)
      ≡ g.F.Folding.taken (get_or l.initial.so_far m (pos 0)) (get_or l.numbers (unsigned_abs (pos l.place +ℤ l.inc *ℤ pos m)) (pos 0));
  ahead : (m : ℕ) → l.j ≤ m → get_or l.so_far m (pos 0) ≡ get_or l.initial.so_far m (pos 0);
}
