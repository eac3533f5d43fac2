use Rattle.std.proofs.Common.{refl}
use Rattle.pdl_slices.specs.Meaning.{slice_of, read_on}
use Rattle.pdl_machine.proofs.laws.worked_cuts.Goals as goal

pub returns-clause-views : goal.returns-clause-views
unfolding slice_of read_on
returns-clause-views c = record { parent = refl; array = refl }

pub returns-clause-places : goal.returns-clause-places
unfolding slice_of read_on
returns-clause-places c = record { before = refl; array = refl; view = refl }

pub returns-clause-clump : goal.returns-clause-clump
unfolding slice_of read_on
returns-clause-clump c = refl

pub returns-clause-bound : goal.returns-clause-bound
unfolding slice_of read_on
returns-clause-bound c = record { parent = refl; array = refl; live = refl }

pub returns-clause-given_up : goal.returns-clause-given_up
unfolding slice_of read_on
returns-clause-given_up c = record { view = refl; name = refl; parent_stays = refl; both_go = refl; parent_goes = refl; bound_alone = refl; unknown = refl }

pub returns-clause-dimensions : goal.returns-clause-dimensions
unfolding slice_of read_on
returns-clause-dimensions c = record { more = refl; fewer = refl; cut = refl; runs_over = refl; deeper = refl }

pub returns-clause-refused : goal.returns-clause-refused
unfolding slice_of read_on
returns-clause-refused c = record { name = refl; sizes_first = refl; arguments = refl; below = refl; many = refl; large = refl; breaks = refl; new_view = refl; gone = refl }
