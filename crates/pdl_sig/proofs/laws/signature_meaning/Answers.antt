use Rattle.pdl_sig.proofs.MeaningLemmas.{one_meaning}
use Rattle.pdl_sig.proofs.laws.signature_meaning.Goals as goal

pub returns : goal.returns
returns c = one_meaning
