use Rattle.pdl_machine.proofs.FlowsTidied.{paths_reach}
use Rattle.pdl_machine.proofs.StateNeeds.{kept_are_needed, needed_flows_stay}
use Rattle.pdl_machine.proofs.StateSteps.{steps_leave_reached, tidying_shows_the_same}
use Rattle.pdl_machine.proofs.laws.reaching_laws.Goals as goal

pub returns-clause-needed : goal.returns-clause-needed
returns-clause-needed c = kept_are_needed c.sweep_laws.ensures.kept c.sweep_laws.ensures.reached

pub returns-clause-stay : goal.returns-clause-stay
returns-clause-stay c = needed_flows_stay

pub returns-clause-reached : goal.returns-clause-reached
returns-clause-reached c = steps_leave_reached

pub returns-clause-shown : goal.returns-clause-shown
returns-clause-shown c = tidying_shows_the_same

pub returns-clause-paths : goal.returns-clause-paths
returns-clause-paths c = paths_reach
