use Rattle.pdl_lex.proofs.TokenSpans.{toks-meaning}
use Rattle.pdl_lex.proofs.laws.token_meaning.Goals as goal

pub returns : goal.returns
returns c = toks-meaning
