use Rattle.std.proofs.Common.{arith}
use Rattle.pdl_engine.specs.Reading.{read_steps}
use Rattle.pdl_scope.specs.Scope.{engine_of}
use Rattle.pdl_session.proofs.CostCalls.{one_costs}
use Rattle.pdl_session.proofs.views.nice.nice_by.Goals as goal

pub returns-in-Some-clause-counted : goal.returns-in-Some-clause-counted
returns-in-Some-clause-counted g c =
    let less = one_costs (read_steps (engine_of c.args.scope.now)) c.args.rest.now c.in-Some.id c.in-Some.ensures.found in
    omega (arith, less, c.looked_up.ensures.counted)
