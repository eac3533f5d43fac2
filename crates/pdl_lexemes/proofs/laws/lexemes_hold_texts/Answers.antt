use Rattle.pdl_lexemes.proofs.TextLemmas.{lexemes_hold}
use Rattle.pdl_lexemes.proofs.laws.lexemes_hold_texts.Goals as goal

pub returns : goal.returns
returns c = lexemes_hold c.token_meaning.ensures
