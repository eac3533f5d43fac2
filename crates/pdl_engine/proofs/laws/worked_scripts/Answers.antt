use Rattle.std.proofs.Common.{refl}
use Rattle.pdl_engine.proofs.laws.worked_scripts.Goals as goal

pub returns : goal.returns
returns c = refl
