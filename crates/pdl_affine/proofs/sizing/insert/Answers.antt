use Rattle.std.proofs.Common.{arith}
use Rattle.pdl_affine.proofs.ViewSizes.{insert_large}
use Rattle.pdl_affine.proofs.sizing.insert.Goals as goal

pub returns-then-size-from-clause-err : goal.returns-then-size-from-clause-err
returns-then-size-from-clause-err c = insert_large c.args.parent.now c.args.place c.args.size (omega arith) (omega arith) (omega arith)
