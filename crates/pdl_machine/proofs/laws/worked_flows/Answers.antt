use Rattle.std.proofs.Common.{refl}
use Rattle.pdl_slices.specs.Meaning.{slice_of, read_on}
use Rattle.pdl_machine.proofs.laws.worked_flows.Goals as goal

pub returns-clause-follow : goal.returns-clause-follow
unfolding slice_of read_on
returns-clause-follow c = record { shown = refl; told = refl; kept = refl; given_up = refl }

pub returns-clause-flows : goal.returns-clause-flows
unfolding slice_of read_on
returns-clause-flows c = record { view = refl; cut = refl; bound = refl }

pub returns-clause-view : goal.returns-clause-view
unfolding slice_of read_on
returns-clause-view c = record { shown = refl; live = refl; ended = refl }

pub returns-clause-refused : goal.returns-clause-refused
unfolding slice_of read_on
returns-clause-refused c = record { target = refl; through = refl; dimensions = refl; read = refl; below = refl; dumped = refl; name = refl }
