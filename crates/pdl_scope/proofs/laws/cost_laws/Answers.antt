use Rattle.pdl_scope.proofs.CostsDearer.{growing}
use Rattle.pdl_scope.proofs.FlowCostLemmas.{growing_flows}
use Rattle.pdl_scope.proofs.CostNewest.{none_lost, roots_are_ready, roots_move, views_add, views_cost}
use Rattle.pdl_scope.proofs.CostWaits.{unwritten}
use Rattle.pdl_scope.proofs.laws.cost_laws.Goals as goal

pub returns-clause-older : goal.returns-clause-older
returns-clause-older c = growing

pub returns-clause-flows : goal.returns-clause-flows
returns-clause-flows c = growing_flows

pub returns-clause-roots : goal.returns-clause-roots
returns-clause-roots c = roots_are_ready

pub returns-clause-views : goal.returns-clause-views
returns-clause-views c = views_cost

pub returns-clause-made : goal.returns-clause-made
returns-clause-made c = roots_move

pub returns-clause-shown : goal.returns-clause-shown
returns-clause-shown c = views_add

pub returns-clause-grown : goal.returns-clause-grown
returns-clause-grown c = none_lost

pub returns-clause-unwritten : goal.returns-clause-unwritten
returns-clause-unwritten c = unwritten c.hold_laws.ensures.waiting
