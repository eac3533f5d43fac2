use Rattle.std.proofs.Common.{refl}
use Rattle.std.specs.Fmt.{digits}
use Rattle.pdl_slices.specs.Meaning.{slice_of, read_on}
use Rattle.pdl_machine.specs.NiceCalls.{filled_in}
use Rattle.pdl_machine.proofs.laws.worked_nice.Goals as goal

pub returns-clause-filled_in : goal.returns-clause-filled_in
unfolding filled_in digits
returns-clause-filled_in c = record { two = refl; none = refl; fewer = refl; more = refl }

pub returns-clause-slices : goal.returns-clause-slices
unfolding slice_of read_on filled_in digits
returns-clause-slices c = record { through = refl; kept = refl; dropped = refl }

pub returns-clause-values : goal.returns-clause-values
unfolding slice_of read_on filled_in digits
returns-clause-values c = record { two = refl; none = refl; one = refl }

pub returns-clause-faults : goal.returns-clause-faults
unfolding slice_of read_on filled_in digits
returns-clause-faults c =
    record { fewer = refl; more = refl; not_one = refl; dropped = refl; bad = refl; no_step = refl; below = refl; outside = refl }
