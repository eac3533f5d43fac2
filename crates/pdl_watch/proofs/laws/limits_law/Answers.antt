use Rattle.std.proofs.Common.{refl}
use Rattle.pdl_watch.proofs.laws.limits_law.Goals as goal

pub returns : goal.returns
returns c = refl
