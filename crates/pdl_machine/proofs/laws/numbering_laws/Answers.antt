use Rattle.pdl_machine.proofs.StateSteps.{steps_are_alike, new_arrays_are_unseen}
use Rattle.pdl_machine.proofs.TidyLemmas.{letting_go_is_unseen, settling_is_unseen, sweep_again}
use Rattle.pdl_machine.proofs.laws.numbering_laws.Goals as goal

pub returns-clause-alike : goal.returns-clause-alike
returns-clause-alike c = steps_are_alike

pub returns-clause-unseen : goal.returns-clause-unseen
returns-clause-unseen c = new_arrays_are_unseen

pub returns-clause-gone : goal.returns-clause-gone
returns-clause-gone c = letting_go_is_unseen

pub returns-clause-again : goal.returns-clause-again
returns-clause-again c = sweep_again

pub returns-clause-settled : goal.returns-clause-settled
returns-clause-settled c = settling_is_unseen
