use Rattle.std.proofs.Common.{◌≡◌, ◌+◌, arith}
use Rattle.pdl_numbers.specs.Typed.{count_moved}
use Rattle.pdl_machine.specs.Calls.{only_root}
use Rattle.pdl_session.specs.Came.{came}
use Rattle.pdl_session.proofs.CameGained.{only_came, size_in}
use Rattle.pdl_session.proofs.CostExpressions.{root_within}
use Rattle.pdl_session.proofs.call.only_root.Goals as goal

pub returns-in-len1-clause-within : goal.returns-in-len1-clause-within
returns-in-len1-clause-within g c =
    let a = c.args.scope.now.arrays in
    let one : size_in (came (only_root a c.args.outputs.now) a) ≡ count_moved c.made-item.result.elems + size_in a = only_came a c.args.outputs.now c.made-item.result (omega (arith, c.in-len1.len_at_least, c.in-len1.len_below)) c.made-item.is in
    root_within c.cost_laws.ensures.roots c.cost_laws.ensures.made c.args.scope.now c.make_like-made.new.self (came (only_root c.args.scope.now.arrays c.args.outputs.now) c.args.scope.now.arrays) c.made-item.result 0 c.args.steps.now c.make_like-made.new.steps c.make_like-made.result
    c.in_order.ensures c.make_like-made.ensures.value (omega (arith, c.make_like-made.ensures.counted)) (omega (arith, one))
