-- The numbers before this one have their sums, and the others still stand.
use Rattle.std.proofs.Common.{◌≡◌, ◌<◌, ◌≤◌, ℕ, pos, get_or}
use Rattle.pdl_reduce.specs.Blocks.{plus_four_scaled}
use Rattle.pdl_reduce.proofs.matrices.add_four_scaled.Given as goal

abbrev pub invariant-loop-j : goal.invariant-loop-j
invariant-loop-j l = record {
  added : (m : ℕ) → m < l.j → get_or l.row m (pos 0) ≡ plus_four_scaled (get_or l.initial.row m (pos 0)) l.first (get_or l.a m (pos 0)) l.second (get_or l.b m (pos 0)) l.third (get_or l.c m (pos 0)) l.fourth (get_or l.d m (pos 0));
  ahead : (m : ℕ) → l.j ≤ m → get_or l.row m (pos 0) ≡ get_or l.initial.row m (pos 0);
}
