use Rattle.pdl_slices.proofs.WrittenTexts.{written_texts_are_read}
use Rattle.pdl_slices.proofs.written_slices.Goals as goal

pub returns : goal.returns
returns c = written_texts_are_read c.slice_meaning.ensures
