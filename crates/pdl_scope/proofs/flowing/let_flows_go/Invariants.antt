use Rattle.std.proofs.Common.{ℕ, List, ◌≤◌, length}
use Rattle.pdl_engine.specs.State.{State as Engine}
use Rattle.pdl_scope.specs.LetGo.{GoesOn, HasFlows}
use Rattle.pdl_scope.proofs.LetGoNeeds.{AreAsked}
use Rattle.pdl_scope.proofs.flowing.let_flows_go.Given as goal

-- the flows from this place on were asked
abbrev pub invariant-going : goal.invariant-going
invariant-going g l = record {
  within : l.left ≤ length l.fn.flows.items;
  asked : (staying : List ℕ) (first : Engine) → HasFlows l.fn.engine l.fn.flows.items staying first → AreAsked staying first l.fn.flows.items l.left l.engine l.flows.items;
  goes_on : GoesOn l.fn.engine l.engine l.fn.steps l.steps;
}

abbrev pub decreases-going : goal.decreases-going
decreases-going g l = l.left
