use Rattle.std.proofs.Common.{arith, ap, sym, subst, ◌∙◌, Result}
use Rattle.pdl_machine.specs.declared.fault.Fault.{Fault}
use Rattle.pdl_machine.specs.Outcome.{Outcome as Placed}
use Rattle.pdl_scope.specs.Answers.{AnswersAs}
use Rattle.pdl_session.specs.Arguments.{outcome_of}
use Rattle.pdl_engine.specs.Reading.{read_steps}
use Rattle.pdl_scope.specs.Scope.{engine_of}
use Rattle.pdl_session.proofs.CostCalls.{two_costs}
use Rattle.pdl_session.proofs.ArgumentShapes.{ranged, range_is}
use Rattle.pdl_session.proofs.views.choices.range.Goals as goal

pub returns-in-Some-clause-value : goal.returns-in-Some-clause-value
returns-in-Some-clause-value g c =
    let a = c.args.scope.now.arrays in
    let is = range_is a c.args.given.now ∙ ap (ranged a) (sym c.in-Some.ensures.shape) in
    subst (λ (x : Result Placed Fault). AnswersAs outcome_of x c.windows_at.result) (sym is) c.windows_at.ensures.value

pub returns-in-Some-clause-counted : goal.returns-in-Some-clause-counted
returns-in-Some-clause-counted g c =
    let less = two_costs (read_steps (engine_of c.args.scope.now)) c.args.given.now c.in-Some.ind c.in-Some.rest.now (sym c.in-Some.ensures.shape) in
    omega (arith, less, c.windows_at.ensures.counted)
