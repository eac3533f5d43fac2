-- The products before this one are set.
use Rattle.std.proofs.Common.{◌≡◌, ◌<◌, ◌*◌, ◌*ℤ◌, ℕ, pos, length, get_or}
use Rattle.std.specs.Int.{int_wrap, w64}
use Rattle.pdl_reduce.proofs.sums.set_products.Given as goal

abbrev pub invariant-loop-j : goal.invariant-loop-j
invariant-loop-j l = record {
  count : length l.products ≡ length l.initial.products;
  set : (m : ℕ) → m < l.j → get_or l.products m (pos 0) ≡ int_wrap w64 (get_or l.left (m * l.left_step) (pos 0) *ℤ get_or l.right (m * l.right_step) (pos 0));
}
