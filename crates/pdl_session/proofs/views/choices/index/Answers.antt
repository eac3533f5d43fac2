use Rattle.std.proofs.Common.{sym, arith}
use Rattle.pdl_engine.specs.Reading.{read_steps}
use Rattle.pdl_scope.specs.Scope.{engine_of}
use Rattle.pdl_session.proofs.CostCalls.{second_costs}
use Rattle.pdl_session.proofs.views.choices.index.Goals as goal

pub returns-in-Some-clause-counted : goal.returns-in-Some-clause-counted
returns-in-Some-clause-counted g c =
    let less = second_costs (read_steps (engine_of c.args.scope.now)) c.args.given.now c.in-Some.id (sym c.in-Some.ensures.shape) in
    omega (arith, less, c.looked_up.ensures.counted)
