-- They compute.
use Rattle.std.proofs.Common.{refl}
use Rattle.std.specs.Fmt.{digits}
use Rattle.pdl_slices.specs.Meaning.{slice_of, read_on}
use Rattle.pdl_machine.proofs.dumping.worked_dumps.Goals as goal

pub returns : goal.returns
unfolding digits slice_of read_on
returns c = record { indexed = refl; view_alone = refl; nothing = refl; watched = refl }
