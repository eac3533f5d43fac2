use Rattle.std.proofs.Common.{refl}
use Rattle.pdl_assign.proofs.laws.worked_blocks.Goals as goal

pub returns-clause-repeats : goal.returns-clause-repeats
returns-clause-repeats c = record { whole = refl; blocks = refl }

pub returns-clause-siblings : goal.returns-clause-siblings
returns-clause-siblings c = record { whole = refl; blocks = refl }
