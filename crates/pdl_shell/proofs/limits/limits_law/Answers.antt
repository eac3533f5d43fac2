use Rattle.std.proofs.Common.{refl}
use Rattle.pdl_shell.proofs.limits.limits_law.Goals as goal

pub returns : goal.returns
returns c = record { rounds = refl; read = refl }
