-- The sum of the products before this one.
use Rattle.std.proofs.Common.{◌≡◌, ◌*ℤ◌, pos, get_or}
use Rattle.std.specs.Int.{int_wrap, w64}
use Rattle.pdl_reduce.specs.Pairings.{sum_below}
use Rattle.pdl_reduce.proofs.matrices.sum_of_products.Given as goal

abbrev pub invariant-loop-k : goal.invariant-loop-k
invariant-loop-k l = l.sum ≡ int_wrap w64 (sum_below l.k (λ k. get_or l.left k (pos 0) *ℤ get_or l.right k (pos 0)))
