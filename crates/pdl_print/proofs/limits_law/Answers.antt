use Rattle.std.proofs.Common.{refl}
use Rattle.pdl_print.proofs.limits_law.Goals as goal

pub returns : goal.returns
returns c = refl
