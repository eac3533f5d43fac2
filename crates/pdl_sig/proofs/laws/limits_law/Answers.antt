use Rattle.std.proofs.Common.{refl}
use Rattle.pdl_sig.proofs.laws.limits_law.Goals as goal

pub returns : goal.returns
returns c = record { args = refl; dim_names = refl; work = refl }
