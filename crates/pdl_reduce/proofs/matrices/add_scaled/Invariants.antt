-- The numbers before this one have their sums, and the others still stand.
use Rattle.std.proofs.Common.{◌≡◌, ◌<◌, ◌≤◌, ◌+ℤ◌, ◌*ℤ◌, ℕ, pos, get_or}
use Rattle.std.specs.Int.{int_wrap, w64}
use Rattle.pdl_reduce.proofs.matrices.add_scaled.Given as goal

abbrev pub invariant-loop-j : goal.invariant-loop-j
invariant-loop-j l = record {
  added : (m : ℕ) → m < l.j → get_or l.row m (pos 0) ≡ int_wrap w64 (get_or l.initial.row m (pos 0) +ℤ l.factor *ℤ get_or l.numbers m (pos 0));
  ahead : (m : ℕ) → l.j ≤ m → get_or l.row m (pos 0) ≡ get_or l.initial.row m (pos 0);
}
