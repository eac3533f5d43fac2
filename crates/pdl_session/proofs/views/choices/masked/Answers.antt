use Rattle.std.proofs.Common.{sym, arith}
use Rattle.pdl_engine.specs.Reading.{read_steps}
use Rattle.pdl_scope.specs.Scope.{engine_of}
use Rattle.pdl_session.proofs.CostCalls.{second_costs}
use Rattle.pdl_session.proofs.views.choices.masked.Goals as goal

pub returns-in_ok-places-in-Some-clause-counted : goal.returns-in_ok-places-in-Some-clause-counted
returns-in_ok-places-in-Some-clause-counted g c =
    let less = second_costs (read_steps (engine_of c.args.scope.now)) c.args.given.now c.in-Some.id (sym c.in-Some.ensures.shape) in
    omega (arith, less, c.set_positions.ensures.counted)

pub returns-in_err-places-in-Some-clause-counted : goal.returns-in_err-places-in-Some-clause-counted
returns-in_err-places-in-Some-clause-counted g c =
    let less = second_costs (read_steps (engine_of c.args.scope.now)) c.args.given.now c.in-Some.id (sym c.in-Some.ensures.shape) in
    omega (arith, less, c.set_positions.ensures.counted)
