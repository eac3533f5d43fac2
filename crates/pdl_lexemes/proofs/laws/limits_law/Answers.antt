use Rattle.std.proofs.Common.{refl}
use Rattle.pdl_lexemes.proofs.laws.limits_law.Goals as goal

pub returns : goal.returns
returns c = record { squares = refl; operators = refl; numbers = refl; longs = refl }
