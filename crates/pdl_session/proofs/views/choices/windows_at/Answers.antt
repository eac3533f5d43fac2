use Rattle.pdl_machine.specs.Arrays.{array_in}
use Rattle.pdl_session.proofs.CostCalls.{read_then, reads_cost}
use Rattle.pdl_session.proofs.views.choices.windows_at.Goals as goal

pub returns-in-Err-clause-value : goal.returns-in-Err-clause-value
returns-in-Err-clause-value g c = c.in-Err.ensures.value (array_in c.args.scope.now.arrays c.args.ind)

pub returns-in_err-numbers-clause-counted : goal.returns-in_err-numbers-clause-counted
returns-in_err-numbers-clause-counted g c =
    let s = c.args.scope.now in
    let mid = c.window_parts.new.scope in
    read_then s mid c.args.rest.now c.args.ind c.args.steps.now c.window_parts.new.steps c.numbers.new.steps c.requires.ind
    (reads_cost c.cost_laws.ensures.older s mid c.in_order.ensures c.in_order-2.ensures c.window_parts.ensures.same) c.window_parts.ensures.counted c.numbers.ensures.counted

pub returns-clause-counted : goal.returns-clause-counted
returns-clause-counted g c =
    let s = c.args.scope.now in
    let mid = c.window_parts.new.scope in
    read_then s mid c.args.rest.now c.args.ind c.args.steps.now c.window_parts.new.steps c.numbers.new.steps c.requires.ind
    (reads_cost c.cost_laws.ensures.older s mid c.in_order.ensures c.in_order-2.ensures c.window_parts.ensures.same) c.window_parts.ensures.counted c.numbers.ensures.counted
