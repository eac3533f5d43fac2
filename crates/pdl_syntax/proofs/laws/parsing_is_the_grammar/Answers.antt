use Rattle.pdl_syntax.proofs.ParsedAnswers.{parsed_means}
use Rattle.pdl_syntax.proofs.laws.parsing_is_the_grammar.Goals as goal

pub returns : goal.returns
returns c = parsed_means c.lists_are_their_grammar.ensures c.lists_are_arrays.ensures c.ragged_is_scanned.ensures
