use Rattle.std.proofs.Common.{refl}
use Rattle.pdl_session.proofs.WorkedBoundLemmas.{late_writes_move_little}
use Rattle.pdl_session.proofs.laws.worked_bounds.Goals as goal

pub returns-clause-late : goal.returns-clause-late
returns-clause-late c = late_writes_move_little

pub returns-clause-refused : goal.returns-clause-refused
returns-clause-refused c = (refl, refl)

pub returns-clause-flows : goal.returns-clause-flows
returns-clause-flows c = record { followed = refl; refused = refl }
