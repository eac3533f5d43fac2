use Rattle.std.proofs.Common.{refl}
use Rattle.pdl_slices.specs.Meaning.{slice_of, read_on}
use Rattle.pdl_machine.proofs.laws.worked_watches.Goals as goal

pub returns-clause-view : goal.returns-clause-view
unfolding slice_of read_on
returns-clause-view c = record { told = refl; array = refl }

pub returns-clause-kept : goal.returns-clause-kept
unfolding slice_of read_on
returns-clause-kept c = record { both = refl; kept = refl; live = refl; rebound = refl; second_alone = refl }

pub returns-clause-given_up : goal.returns-clause-given_up
unfolding slice_of read_on
returns-clause-given_up c = record { slots = refl; behind = refl; told = refl }

pub returns-clause-refused : goal.returns-clause-refused
unfolding slice_of read_on
returns-clause-refused c = record { name = refl; no_slot = refl; empty_slot = refl; attached_slot = refl; free_slot = refl; given_up = refl; again = refl; dimensions = refl; below = refl; breaks_first = refl; aside = refl }
