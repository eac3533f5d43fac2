use Rattle.std.proofs.Common.{◌∙◌}
use Rattle.pdl_lex.proofs.TokensLongest.{read-longest}
use Rattle.pdl_lex.proofs.lexer.token_at.Goals as goal

pub returns-clause-longest : goal.returns-clause-longest
returns-clause-longest c = c.read_at.ensures.read ∙ read-longest c.args.text.now
