use Rattle.pdl_slices.proofs.MeaningLemmas.{slice_meaning_lem}
use Rattle.pdl_slices.proofs.slice_meaning.Goals as goal

pub returns : goal.returns
returns c = slice_meaning_lem
