use Rattle.std.proofs.Common.{sym, arith}
use Rattle.pdl_engine.specs.Reading.{read_steps}
use Rattle.pdl_scope.specs.Scope.{engine_of}
use Rattle.pdl_reduce.specs.Reductions.{whole_reduced}
use Rattle.pdl_machine.specs.Arrays.{array_in}
use Rattle.pdl_machine.specs.Refused.{reduce_fault, or_named}
use Rattle.pdl_session.proofs.CostCalls.{one_costs}
use Rattle.pdl_session.proofs.ArgumentReductions.{one_given}
use Rattle.pdl_session.proofs.reducing.reduced_whole.Goals as goal

pub returns-in-Some-clause-value : goal.returns-in-Some-clause-value
returns-in-Some-clause-value g c =
    let kind = c.args.kind in
    let a = c.args.scope.now.arrays in
    one_given (whole_reduced kind) a c.args.given.now c.in-Some.id c.new_array.result c.in-Some.ensures.shape (c.new_array.ensures.value (or_named reduce_fault (whole_reduced kind (array_in a c.in-Some.id))) c.reduced_whole.ensures.value)

pub returns-in-Some-clause-counted : goal.returns-in-Some-clause-counted
returns-in-Some-clause-counted g c =
    let less = one_costs (read_steps (engine_of c.args.scope.now)) c.args.given.now c.in-Some.id (sym c.in-Some.ensures.shape) in
    omega (arith, less, c.reduced_whole.ensures.counted)
