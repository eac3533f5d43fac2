-- The sums before this one are set.
use Rattle.std.proofs.Common.{◌≡◌, ◌<◌, ◌*◌, ℕ, pos, length, take, drop, get_or}
use Rattle.std.specs.Int.{int_wrap, w64}
use Rattle.pdl_reduce.specs.Blocks.{sum_at}
use Rattle.pdl_reduce.proofs.sums.set_sums.Given as goal

abbrev pub invariant-loop-j : goal.invariant-loop-j
invariant-loop-j l = record {
  count : length l.sums ≡ length l.fn.sums;
  set : (k : ℕ) → k < l.j → get_or l.sums k (pos 0)
      ≡ int_wrap w64 (sum_at l.sizes (take l.sizes.left_depth (drop (k * l.left_step) l.left)) (take l.sizes.right_depth (drop (k * l.right_step) l.right)) l.sizes.depth 0 0);
}
