use Rattle.pdl_lex.proofs.TokenSpans.{toks-spans}
use Rattle.pdl_lex.proofs.laws.tokens_are_spans.Goals as goal

pub returns : goal.returns
returns c = toks-spans
