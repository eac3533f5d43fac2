use Rattle.std.proofs.Common.{refl}
use Rattle.pdl_machine.proofs.laws.limits_law.Goals as goal

pub returns : goal.returns
returns c = record { names = refl; kernels = refl }
