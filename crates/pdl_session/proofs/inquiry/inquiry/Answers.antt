use Rattle.std.proofs.Common.{sym, arith}
use Rattle.pdl_engine.specs.Reading.{read_steps}
use Rattle.pdl_scope.specs.Scope.{engine_of}
use Rattle.pdl_session.specs.Costs.{reads_elements}
use Rattle.pdl_session.proofs.CostCalls.{told_costs}
use Rattle.pdl_session.proofs.inquiry.inquiry.Goals as goal

pub returns-in-Ok-clause-counted : goal.returns-in-Ok-clause-counted
returns-in-Ok-clause-counted g c =
    let less = told_costs (read_steps (engine_of c.args.scope.now)) c.args.given.now c.in-Some.id (reads_elements c.args.inquiry) (sym c.in-Some.ensures.shape) in
    omega (arith, less, c.told.ensures.counted)

pub returns-in-Err-clause-counted : goal.returns-in-Err-clause-counted
returns-in-Err-clause-counted g c =
    let less = told_costs (read_steps (engine_of c.args.scope.now)) c.args.given.now c.in-Some.id (reads_elements c.args.inquiry) (sym c.in-Some.ensures.shape) in
    omega (arith, less, c.told.ensures.counted)
