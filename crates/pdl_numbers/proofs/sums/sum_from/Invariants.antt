-- The sum of the numbers before this one.
use Rattle.std.proofs.Common.{◌≡◌, ◌+ℤ◌, pos, fold, take, drop}
use Rattle.std.specs.Int.{int_wrap, w64}
use Rattle.pdl_numbers.proofs.sums.sum_from.Given as goal

abbrev pub invariant-loop-j : goal.invariant-loop-j
invariant-loop-j g l = l.sum ≡ int_wrap w64 (fold (λ sum x. sum +ℤ x) (pos 0) (take l.j (drop l.start l.numbers)))
