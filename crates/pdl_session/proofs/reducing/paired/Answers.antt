use Rattle.std.proofs.Common.{sym, arith}
use Rattle.pdl_engine.specs.Reading.{read_steps}
use Rattle.pdl_scope.specs.Scope.{engine_of}
use Rattle.pdl_reduce.specs.Pairings.{paired}
use Rattle.pdl_machine.specs.Arrays.{array_in}
use Rattle.pdl_machine.specs.Refused.{reduce_fault, or_named}
use Rattle.pdl_session.proofs.CostCalls.{both_cost}
use Rattle.pdl_session.proofs.ArgumentReductions.{two_given}
use Rattle.pdl_session.proofs.reducing.paired.Goals as goal

pub returns-in-Some-clause-value : goal.returns-in-Some-clause-value
returns-in-Some-clause-value g c =
    let kind = c.args.kind in
    let a = c.args.scope.now.arrays in
    two_given (paired kind) a c.args.given.now (c.in-Some.left, c.in-Some.right) c.new_array.result c.in-Some.ensures.shape (c.new_array.ensures.value (or_named reduce_fault (paired kind (array_in a c.in-Some.left) (array_in a c.in-Some.right))) c.paired.ensures.value)

pub returns-in-Some-clause-counted : goal.returns-in-Some-clause-counted
returns-in-Some-clause-counted g c =
    let less = both_cost (read_steps (engine_of c.args.scope.now)) c.args.given.now c.in-Some.left c.in-Some.right (sym c.in-Some.ensures.shape) in
    omega (arith, less, c.paired.ensures.counted)
