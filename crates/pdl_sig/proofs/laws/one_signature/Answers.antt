use Rattle.pdl_sig.proofs.RefusalAnswers.{only_one}
use Rattle.pdl_sig.proofs.laws.one_signature.Goals as goal

pub returns : goal.returns
returns c = only_one
