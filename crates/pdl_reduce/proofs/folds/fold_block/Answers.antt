-- One number more.
use Rattle.std.proofs.Common.{pos, arith}
use Rattle.std.proofs.lemmas.Int.{to_z-of_z}
use Rattle.std.proofs.lemmas.List.Sums.{fold_more}
use Rattle.pdl_reduce.proofs.folds.fold_block.Goals as goal

pub loop-number-preserved : goal.loop-number-preserved
loop-number-preserved g c =
    grind (arith, to_z-of_z, c.take-so_far.ensures, fold_more g.F.Folding.taken c.args.start c.args.numbers.now c.loop-number.number-index (pos 0))
