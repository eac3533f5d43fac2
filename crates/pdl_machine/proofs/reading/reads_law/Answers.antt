use Rattle.pdl_machine.proofs.ReadMeanings.{reads_means, means_one, plain_means_one, plain_texts_stay}
use Rattle.pdl_machine.proofs.reading.reads_law.Goals as goal

pub returns-clause-means : goal.returns-clause-means
returns-clause-means c = reads_means c.parsing_is_the_grammar.ensures c.plain_meaning.ensures.texts

pub returns-clause-one : goal.returns-clause-one
returns-clause-one c = means_one c.parsing_is_the_grammar.ensures c.plain_meaning.ensures.texts

pub returns-clause-plain : goal.returns-clause-plain
returns-clause-plain c = plain_means_one c.parsing_is_the_grammar.ensures

pub returns-clause-stays : goal.returns-clause-stays
returns-clause-stays c =
    plain_texts_stay c.parsing_is_the_grammar.ensures c.plain_meaning.ensures.texts c.texts_stay.ensures c.brackets_are_counted.ensures
