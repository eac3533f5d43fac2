use Rattle.pdl_syntax.proofs.StatementComplete.{one_statement_lem}
use Rattle.pdl_syntax.proofs.laws.one_statement.Goals as goal

pub returns : goal.returns
returns c = one_statement_lem c.lists_are_their_grammar.ensures
