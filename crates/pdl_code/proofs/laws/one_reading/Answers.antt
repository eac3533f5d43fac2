use Rattle.pdl_code.proofs.MeaningSpellings.{one_reading}
use Rattle.pdl_code.proofs.laws.one_reading.Goals as goal

pub returns : goal.returns
returns c = one_reading
