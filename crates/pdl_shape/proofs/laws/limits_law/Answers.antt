use Rattle.std.proofs.Common.{refl}
use Rattle.pdl_shape.proofs.laws.limits_law.Goals as goal

pub returns : goal.returns
returns c = record { count = refl; largest = refl }
