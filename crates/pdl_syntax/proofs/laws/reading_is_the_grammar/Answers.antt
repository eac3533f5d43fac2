use Rattle.pdl_syntax.proofs.StatementComplete.{statement_found, statement_spelled}
use Rattle.pdl_syntax.proofs.laws.reading_is_the_grammar.Goals as goal

pub returns : goal.returns
returns c source ts s =
    let lists = c.lists_are_their_grammar.ensures in
    (statement_spelled lists source ts s, statement_found lists source ts s)
