use Rattle.pdl_code.proofs.MeaningSpellings.{one_meaning}
use Rattle.pdl_code.proofs.laws.code_meaning.Goals as goal

pub returns : goal.returns
returns c = one_meaning
