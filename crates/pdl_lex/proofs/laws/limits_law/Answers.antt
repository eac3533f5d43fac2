use Rattle.std.proofs.Common.{refl}
use Rattle.pdl_lex.proofs.laws.limits_law.Goals as goal

pub returns : goal.returns
returns c = record { statement = refl; script = refl; brackets = refl }
