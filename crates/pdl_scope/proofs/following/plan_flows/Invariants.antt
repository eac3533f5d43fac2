use Rattle.std.proofs.Common.{◌≡◌, ◌+◌, ◌≤◌, []}
use Rattle.pdl_machine.specs.Flows.{affected}
use Rattle.pdl_scope.specs.Costs.{ReadsNoDearer}
use Rattle.pdl_scope.specs.Plans.{roots_in, values_in}
use Rattle.pdl_scope.proofs.PlanFlows.{IsOn, steps_from}
use Rattle.pdl_scope.proofs.following.plan_flows.Given as goal

-- the flows before this one follow the plan; where none is to, nothing is changed
abbrev pub invariant-loop-flow : goal.invariant-loop-flow
invariant-loop-flow g l = record {
  on : IsOn l.fn.engine l.flows l.fn.plan.items l.fn.runs l.flow-index l.engine l.plan.items l.runs;
  paid : l.steps + values_in l.plan.items + steps_from l.fn.engine l.flows l.flow-index l.plan.items ≤ l.fn.steps + values_in l.fn.plan.items + steps_from l.fn.engine l.flows 0 l.fn.plan.items;
  costs : ReadsNoDearer l.fn.engine l.engine;
  alone : affected l.fn.engine.world l.flows (roots_in l.fn.plan.items) ≡ [] → (l.plan ≡ l.fn.plan) × (l.engine ≡ l.fn.engine) × (l.steps ≡ l.fn.steps);
}
