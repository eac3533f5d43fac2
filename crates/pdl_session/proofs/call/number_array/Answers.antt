use Rattle.std.proofs.Common.{rules, ◌+◌, ◌≤◌, arith}
use Rattle.pdl_buf.specs.declared.made.Made.{Made}
use Rattle.pdl_numbers.specs.Typed.{count_moved}
use Rattle.pdl_machine.specs.Outcome.{new_root}
use Rattle.pdl_machine.specs.Value.{number_made}
use Rattle.pdl_scope.specs.Answers.{Evaluates}
use Rattle.pdl_session.specs.Came.{came}
use Rattle.pdl_session.proofs.CostExpressions.{root_within}
use Rattle.pdl_session.proofs.call.number_array.Goals as goal

pub returns-clause-within : goal.returns-clause-within
returns-clause-within g c =
    let s = c.args.scope.now in
    let m : Made = number_made c.args.number in
    let value : Evaluates (new_root s.arrays m) c.make-made.new.self c.make-made.result = search rules in
    let counted : c.make-made.new.steps ≤ c.args.steps.now + count_moved m.elems = search rules in
    root_within c.cost_laws.ensures.roots c.cost_laws.ensures.made s c.make-made.new.self (came (new_root s.arrays m) s.arrays) m 0 c.args.steps.now c.make-made.new.steps c.make-made.result c.in_order.ensures value (omega (arith, counted)) (omega arith)
