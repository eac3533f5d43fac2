use Rattle.std.proofs.Common.{refl}
use Rattle.pdl_slices.specs.Meaning.{slice_of, read_on}
use Rattle.pdl_machine.proofs.laws.worked_scripts.Goals as goal

pub returns-clause-through : goal.returns-clause-through
unfolding slice_of read_on
returns-clause-through c = refl

pub returns-clause-within : goal.returns-clause-within
unfolding slice_of read_on
returns-clause-within c = refl
