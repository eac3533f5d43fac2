-- What the numbers before this one come to.
use Rattle.std.proofs.Common.{◌≡◌, fold, take}
use Rattle.pdl_reduce.proofs.folds.fold_block.Given as goal

abbrev pub invariant-loop-number : goal.invariant-loop-number
invariant-loop-number g l = l.so_far ≡ fold g.F.Folding.taken l.start (take l.number-index l.numbers)
