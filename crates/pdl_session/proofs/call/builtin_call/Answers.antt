use Rattle.std.proofs.Common.{◌≡◌, ◌+◌, ◌≤◌, Bool, false, drop, arith, Result, Ok, Err, refl, ap, subst, ◌∙◌}
use Rattle.pdl_machine.specs.declared.fault.Fault.{Fault}
use Rattle.pdl_machine.specs.Outcome.{Valued, new_root, view_placed, Outcome as Placed, made, viewed}
use Rattle.pdl_machine.specs.Arrays.{Arrays}
use Rattle.pdl_session.specs.declared.outcome.Outcome.{Outcome}
use Rattle.pdl_session.specs.Arguments.{all_seen_of, arguments, outcome_of}
use Rattle.pdl_scope.specs.Answers.{Evaluates}
use Rattle.pdl_session.proofs.ArgumentsSeen.{evaluates, call_fault, value_is}
use Rattle.std.specs.Prelude.{if◌then◌else◌}
use Rattle.pdl_numbers.specs.Typed.{count_moved}
use Rattle.pdl_machine.specs.Calls.{builtin_value, outcome}
use Rattle.pdl_scope.specs.Growth.{grows_trans, reads_grow}
use Rattle.pdl_engine.specs.State.{ready_steps}
use Rattle.pdl_scope.specs.Scope.{engine_of, Grows}
use Rattle.pdl_session.specs.Costs.{read_all, reads_first, ready_all}
use Rattle.pdl_session.specs.Came.{came}
use Rattle.pdl_session.proofs.CameGained.{builtin_came, size_in}
use Rattle.pdl_session.proofs.CostExpressions.{by_le, reading_refused, root_within, view_within, views_read_others}
use Rattle.pdl_session.proofs.call.builtin_call.Goals as goal

placed : Outcome → Result Placed Fault
placed o = Ok (outcome_of o)

pub returns-in-Ok-New-clause-value : goal.returns-in-Ok-New-clause-value
unfolding placed
returns-in-Ok-New-clause-value g c =
    let m = c.in-Ok-New.made in
    evaluates c.args.builtin c.args.scope.now.arrays c.args.given.now (made m) c.adopt-made.new.self c.adopt-made.result (c.in-Ok-New.ensures.value ∙ ap placed c.in-Ok-New.field-0-is)
    (subst (λ (a : Arrays). Evaluates (new_root a m) c.adopt-made.new.self c.adopt-made.result) c.outcome.ensures.same.arrays c.adopt-made.ensures.value)

pub returns-in-Ok-View-clause-value : goal.returns-in-Ok-View-clause-value
unfolding placed
returns-in-Ok-View-clause-value g c =
    evaluates c.args.builtin c.args.scope.now.arrays c.args.given.now (viewed c.in-Ok-View.trans) c.view_first-made.new.scope c.view_first-made.result (c.in-Ok-View.ensures.value ∙ ap placed c.in-Ok-View.field-0-is)
    (subst (λ (a : Arrays). Evaluates (view_placed a (arguments c.args.given.now) c.in-Ok-View.trans) c.view_first-made.new.scope c.view_first-made.result) c.outcome.ensures.same.arrays c.view_first-made.ensures.value)

pub returns-in-Err-clause-value : goal.returns-in-Err-clause-value
returns-in-Err-clause-value g c = call_fault c.args.builtin c.args.scope.now.arrays c.args.given.now c.in-Err.fault c.in-Err.ensures.value

pub returns-in-Ok-New-clause-within : goal.returns-in-Ok-New-clause-within
unfolding placed
returns-in-Ok-New-clause-within g c =
    let s = c.args.scope.now in
    let m = c.in-Ok-New.made in
    let less = by_le s c.args.builtin c.args.given.now in
    let counted : c.adopt-made.new.steps ≤ c.args.steps.now + (ready_all s c.args.given.now + count_moved m.elems) = (let a = c.outcome.ensures.counted in let b = c.adopt-made.ensures.counted in omega (arith, less, a, b)) in
    let is : builtin_value c.args.builtin s.arrays (arguments c.args.given.now) ≡ new_root s.arrays m = value_is c.args.builtin s.arrays c.args.given.now (made m) (c.in-Ok-New.ensures.value ∙ ap placed c.in-Ok-New.field-0-is) in
    let late = came (builtin_value c.args.builtin s.arrays (arguments c.args.given.now)) s.arrays in
    let size : size_in late ≡ count_moved m.elems + size_in s.arrays = ap (λ (v : Valued). size_in (came v s.arrays)) is in
    root_within c.cost_laws.ensures.roots c.cost_laws.ensures.made s c.adopt-made.new.self late m (ready_all s c.args.given.now) c.args.steps.now c.adopt-made.new.steps c.adopt-made.result c.in_order-in-Ok-New.ensures
    (subst (λ (a : Arrays). Evaluates (new_root a m) c.adopt-made.new.self c.adopt-made.result) c.outcome.ensures.same.arrays c.adopt-made.ensures.value) counted (omega (arith, size))

pub returns-in-Ok-View-clause-within : goal.returns-in-Ok-View-clause-within
unfolding placed
returns-in-Ok-View-clause-within g c =
    let s = c.args.scope.now in
    let given = c.args.given.now in
    let is : outcome c.args.builtin (all_seen_of s.arrays given) ≡ Ok (viewed c.in-Ok-View.trans) = c.in-Ok-View.ensures.value ∙ ap placed c.in-Ok-View.field-0-is in
    let others : reads_first c.args.builtin ≡ false = views_read_others c.args.builtin (all_seen_of s.arrays given) c.in-Ok-View.trans is in
    let P : Bool → Type 0 = λ b. c.outcome.new.steps ≤ c.args.steps.now + read_all s (if b then given else drop 1 given) in
    let grown : Grows s c.view_first-made.new.scope = grows_trans s c.outcome.new.scope c.view_first-made.new.scope (reads_grow s c.outcome.new.scope c.outcome.ensures.same) c.view_first-made.ensures.grown in
    let late = came (builtin_value c.args.builtin s.arrays (arguments given)) s.arrays in
    view_within c.cost_laws.ensures.views c.cost_laws.ensures.shown s c.view_first-made.new.scope late given c.in-Ok-View.trans c.args.steps.now c.outcome.new.steps c.view_first-made.result c.in_order-in-Ok-View.ensures
    (c.cost_laws.ensures.older s c.view_first-made.new.scope c.in_order.ensures c.in_order-in-Ok-View.ensures grown) c.requires
    (subst (λ (a : Arrays). Evaluates (view_placed a (arguments given) c.in-Ok-View.trans) c.view_first-made.new.scope c.view_first-made.result) c.outcome.ensures.same.arrays c.view_first-made.ensures.value) (subst P others c.outcome.ensures.counted)
    (builtin_came c.args.builtin s.arrays (arguments given))

pub returns-in-Err-clause-within : goal.returns-in-Err-clause-within
returns-in-Err-clause-within g c =
    let s = c.args.scope.now in
    let new = c.outcome.new.scope in
    let less = by_le s c.args.builtin c.args.given.now in
    let seen = arguments c.args.given.now in
    reading_refused (ready_steps (engine_of new)) s new (came (builtin_value c.args.builtin s.arrays seen) s.arrays) (ready_all s c.args.given.now) c.args.steps.now c.outcome.new.steps (Err c.in-Err.fault) c.in-Err.fault refl
    (omega (arith, less, c.outcome.ensures.counted)) (builtin_came c.args.builtin s.arrays seen)

pub returns-in-Ok-View-clause-grown : goal.returns-in-Ok-View-clause-grown
returns-in-Ok-View-clause-grown g c =
    grows_trans c.args.scope.now c.outcome.new.scope c.view_first-made.new.scope (reads_grow c.args.scope.now c.outcome.new.scope c.outcome.ensures.same) c.view_first-made.ensures.grown
