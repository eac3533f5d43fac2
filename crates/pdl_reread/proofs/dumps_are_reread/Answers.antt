use Rattle.pdl_reread.proofs.RereadingLemmas as proof
use Rattle.pdl_reread.proofs.dumps_are_reread.Goals as goal

pub returns : goal.returns
returns c = proof.dumps_are_reread
    (record {
      sizes = c.shape_laws.ensures.sizes;
      wraps = c.wrapping_laws.ensures;
      texts = c.written_slices.ensures;
      shown = c.dumpable_laws.ensures.shown;
    })
    (record {
      read = c.written_laws.ensures.read;
      longest = c.written_laws.ensures.longest;
      strings = c.written_laws.ensures.strings;
      types = c.type_words_are_words.ensures;
      lines = c.lines_are_read.ensures;
      stays = c.reads_law.ensures.stays;
    })
    c.lines_are_statements.ensures
