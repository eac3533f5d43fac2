use Rattle.pdl_lexemes.proofs.TextLemmas.{type_words}
use Rattle.pdl_lexemes.proofs.laws.type_words_are_words.Goals as goal

pub returns : goal.returns
returns c = type_words
