use Rattle.pdl_world.proofs.WorldBreaks.{reshapes_leave_others, reshapes_leave_numbers, soundness_decides}
use Rattle.pdl_world.proofs.WorldReplaces.{is_fitted}
use Rattle.pdl_world.proofs.CutSevers.{reshaped_is_seen, views_are_found}
use Rattle.pdl_world.proofs.BreakLawViews.{views_are_seen}
use Rattle.pdl_world.proofs.reshape_laws.Goals as goal

pub returns-clause-fitted : goal.returns-clause-fitted
returns-clause-fitted c = λ n es. is_fitted n es

pub returns-clause-seen : goal.returns-clause-seen
returns-clause-seen c = reshaped_is_seen

pub returns-clause-derived : goal.returns-clause-derived
returns-clause-derived c = views_are_seen

pub returns-clause-others : goal.returns-clause-others
returns-clause-others c = reshapes_leave_others

pub returns-clause-decides : goal.returns-clause-decides
returns-clause-decides c = soundness_decides c.wrapping_laws.ensures

pub returns-clause-numbers : goal.returns-clause-numbers
returns-clause-numbers c = reshapes_leave_numbers

pub returns-clause-views : goal.returns-clause-views
returns-clause-views c = views_are_found
