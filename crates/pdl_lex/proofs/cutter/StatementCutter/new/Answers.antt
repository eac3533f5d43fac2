use Rattle.std.proofs.Common.{true, false}
use Rattle.pdl_lex.proofs.PiecesCut.{start-pieces}
use Rattle.pdl_lex.proofs.cutter.StatementCutter.new.Goals as goal

pub returns-clause-whole : goal.returns-clause-whole
returns-clause-whole c = rw c.new.ensures.items (start-pieces true)

pub returns-clause-settled : goal.returns-clause-settled
returns-clause-settled c = rw c.new.ensures.items (start-pieces false)
