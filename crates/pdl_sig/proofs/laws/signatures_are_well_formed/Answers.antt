use Rattle.pdl_sig.proofs.RefusalWellFormed.{well_formed}
use Rattle.pdl_sig.proofs.laws.signatures_are_well_formed.Goals as goal

pub returns : goal.returns
returns c = well_formed
