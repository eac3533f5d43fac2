use Rattle.std.proofs.Common.{true, false}
use Rattle.pdl_lex.proofs.PiecesSettled.{settled-front}
use Rattle.pdl_lex.proofs.laws.settled_laws.Goals as goal

pub returns-clause-begin : goal.returns-clause-begin
returns-clause-begin c = settled-front true

pub returns-clause-stay : goal.returns-clause-stay
returns-clause-stay c = settled-front false
