use Rattle.pdl_reread.proofs.TreeSpelling.{lines_are_read}
use Rattle.pdl_reread.proofs.lines_are_read.Goals as goal

pub returns : goal.returns
returns c = lines_are_read (record {
  read = c.written_laws.ensures.read;
  longest = c.written_laws.ensures.longest;
  strings = c.written_laws.ensures.strings;
  types = c.type_words_are_words.ensures;
  parsed_law = c.parsing_is_the_grammar.ensures;
  scan = c.ragged_is_scanned.ensures;
})
