use Rattle.std.proofs.Common.{sym, arith}
use Rattle.pdl_engine.specs.Reading.{read_steps}
use Rattle.pdl_scope.specs.Scope.{engine_of}
use Rattle.pdl_session.proofs.CostCalls.{behind_costs}
use Rattle.pdl_session.proofs.inquiry.dim.Goals as goal

pub returns-in-Some-2-clause-counted : goal.returns-in-Some-2-clause-counted
returns-in-Some-2-clause-counted g c =
    let less = behind_costs (read_steps (engine_of c.args.scope.now)) c.args.given.now c.in-Some.id c.in-Some.place (sym c.in-Some.ensures.shape) in
    omega (arith, less, c.number_in.ensures.counted)

pub returns-in-None-2-clause-counted : goal.returns-in-None-2-clause-counted
returns-in-None-2-clause-counted g c =
    let less = behind_costs (read_steps (engine_of c.args.scope.now)) c.args.given.now c.in-Some.id c.in-Some.place (sym c.in-Some.ensures.shape) in
    omega (arith, less, c.number_in.ensures.counted)

pub returns-in_err-number-in-Some-clause-counted : goal.returns-in_err-number-in-Some-clause-counted
returns-in_err-number-in-Some-clause-counted g c =
    let less = behind_costs (read_steps (engine_of c.args.scope.now)) c.args.given.now c.in-Some.id c.in-Some.place (sym c.in-Some.ensures.shape) in
    omega (arith, less, c.number_in.ensures.counted)
