use Rattle.std.proofs.Common.{refl}
use Rattle.pdl_slices.proofs.limits_law.Goals as goal

pub returns : goal.returns
returns c = record { args = refl; sizes = refl }
