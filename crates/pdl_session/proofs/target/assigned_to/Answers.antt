use Rattle.std.specs.Prelude.{map}
use Rattle.pdl_syntax.specs.StatementTree.{view_of}
use Rattle.pdl_machine.specs.Step.{target, unless_flow}
use Rattle.pdl_machine.specs.Value.{value_of}
use Rattle.pdl_engine.specs.State.{ready_steps}
use Rattle.pdl_scope.specs.Scope.{engine_of}
use Rattle.pdl_session.specs.Came.{evaluated}
use Rattle.pdl_session.specs.Costs.{named_steps}
use Rattle.pdl_session.proofs.CostExpressions.{pays_fault}
use Rattle.pdl_session.proofs.ScopeFacts.{first_fault, hands_on}
use Rattle.pdl_session.proofs.target.assigned_to.Goals as goal

pub returns-in_err-id-clause-value : goal.returns-in_err-id-clause-value
returns-in_err-id-clause-value g c =
    let s = c.args.scope.now in
    let to = target c.args.to.now.name (map view_of c.args.to.now.views.items) in
    let f = c.in_err-id.field-0.0 in
    hands_on _ c.target.new.scope f c.from_residual.result c.from_residual.ensures.1
    (first_fault (value_of s.names s.arrays to) (unless_flow s.flows) f c.in_err-id.ensures.value)

pub returns-in_err-id-clause-within : goal.returns-in_err-id-clause-within
returns-in_err-id-clause-within g c =
    let s = c.args.scope.now in
    let to = target c.args.to.now.name (map view_of c.args.to.now.views.items) in
    let new = c.target.new.scope in
    pays_fault (ready_steps (engine_of new)) (named_steps s to) s new (evaluated s.names s.arrays to) c.args.steps.now c.target.new.steps c.in_err-id.field-0.0 c.from_residual.result c.from_residual.ensures.1 c.in_err-id.ensures.within
