use Rattle.std.proofs.Common.{◌≡◌, None, Some, sym, ap, subst, ◌∙◌, arith}
use Rattle.pdl_machine.specs.Builtin.{builtin_of}
use Rattle.pdl_machine.specs.Calls.{only_root, outputs_of, call_value}
use Rattle.pdl_machine.specs.Outcome.{Valued}
use Rattle.pdl_machine.specs.Arrays.{Arrays}
use Rattle.pdl_machine.specs.Then.{and_then}
use Rattle.pdl_scope.specs.Answers.{IsFault, Evaluates}
use Rattle.pdl_session.specs.Arguments.{arguments, all_seen_of}
use Rattle.pdl_session.proofs.ArgumentCallees.{builtin_called, kernel_called}
use Rattle.pdl_session.proofs.ScopeFacts.{hands_on, first_fault}
use Rattle.pdl_engine.specs.State.{ready_steps}
use Rattle.pdl_scope.specs.Scope.{engine_of}
use Rattle.pdl_session.specs.Costs.{EvaluatesWithin, ready_all}
use Rattle.pdl_session.specs.Came.{came}
use Rattle.pdl_session.proofs.CameGained.{call_came, size_in}
use Rattle.pdl_session.proofs.CostExpressions.{after_reading, read_all_le, reading_refused}
use Rattle.pdl_session.proofs.call.call.Goals as goal

pub returns-in_err-outputs-in-None-clause-value : goal.returns-in_err-outputs-in-None-clause-value
returns-in_err-outputs-in-None-clause-value g c =
    let names = c.args.scope.now.names in
    let f = c.args.name.now in
    let a = c.args.scope.now.arrays in
    let fault = c.in_err-outputs-in-None.field-0.0 in
    let none : builtin_of f ≡ None = ap builtin_of (sym c.bytes.ensures) ∙ sym c.builtin_named.ensures ∙ c.in-None.is in
    hands_on _ c.kernel_outputs.new.scope fault c.from_residual.result c.from_residual.ensures.1
    (subst (λ (v : Valued). IsFault v fault) (sym (kernel_called names f a c.args.given.now none)) (first_fault (outputs_of names f 1 (all_seen_of a c.args.given.now)) (only_root a) fault c.in_err-outputs-in-None.ensures.value))

pub returns-in_ok-outputs-in-None-clause-value : goal.returns-in_ok-outputs-in-None-clause-value
returns-in_ok-outputs-in-None-clause-value g c =
    let names = c.args.scope.now.names in
    let f = c.args.name.now in
    let a = c.args.scope.now.arrays in
    let ms = c.deref.result.now in
    let none : builtin_of f ≡ None = ap builtin_of (sym c.bytes.ensures) ∙ sym c.builtin_named.ensures ∙ c.in-None.is in
    let is : call_value names f a (arguments c.args.given.now) ≡ only_root c.kernel_outputs.new.scope.arrays ms =
    kernel_called names f a c.args.given.now none ∙ ap (λ o. and_then o (only_root a)) c.in_ok-outputs-in-None.ensures.value ∙ ap (only_root a) (sym c.deref.ensures.value)
    ∙ ap (λ (a : Arrays). only_root a ms) (sym c.kernel_outputs.ensures.same.arrays) in
    subst (λ (v : Valued). Evaluates v c.only_root.new.scope c.only_root.result) (sym is) c.only_root.ensures.value

pub returns-in_err-outputs-in-None-clause-within : goal.returns-in_err-outputs-in-None-clause-within
returns-in_err-outputs-in-None-clause-within g c =
    let s = c.args.scope.now in
    let new = c.kernel_outputs.new.scope in
    let most = ready_all s c.args.given.now in
    let less = read_all_le s c.args.given.now in
    let seen = arguments c.args.given.now in
    reading_refused (ready_steps (engine_of new)) s new (came (call_value s.names c.args.name.now s.arrays seen) s.arrays) most c.args.steps.now c.kernel_outputs.new.steps c.from_residual.result c.in_err-outputs-in-None.field-0.0 c.from_residual.ensures.1
    (omega (arith, less, c.kernel_outputs.ensures.counted)) (call_came s.names c.args.name.now s.arrays seen)

pub returns-in_ok-outputs-in-None-clause-within : goal.returns-in_ok-outputs-in-None-clause-within
returns-in_ok-outputs-in-None-clause-within g c =
    let s = c.args.scope.now in
    let mid = c.kernel_outputs.new.scope in
    let most = ready_all s c.args.given.now in
    let less = read_all_le s c.args.given.now in
    let seen = arguments c.args.given.now in
    let ms = c.deref.result.now in
    let late = came (call_value s.names c.args.name.now s.arrays seen) s.arrays in
    let none : builtin_of c.args.name.now ≡ None = ap builtin_of (sym c.bytes.ensures) ∙ sym c.builtin_named.ensures ∙ c.in-None.is in
    let is : call_value s.names c.args.name.now s.arrays seen ≡ only_root mid.arrays ms =
    kernel_called s.names c.args.name.now s.arrays c.args.given.now none ∙ ap (λ o. and_then o (only_root s.arrays)) c.in_ok-outputs-in-None.ensures.value ∙ ap (only_root s.arrays) (sym c.deref.ensures.value)
    ∙ ap (λ (a : Arrays). only_root a ms) (sym c.kernel_outputs.ensures.same.arrays) in
    let same : came (call_value s.names c.args.name.now s.arrays seen) s.arrays ≡ came (only_root mid.arrays ms) mid.arrays = ap (λ (v : Valued). came v s.arrays) is ∙ ap (came (only_root mid.arrays ms)) (sym c.kernel_outputs.ensures.same.arrays) in
    let size : size_in late ≡ size_in (came (only_root mid.arrays ms) mid.arrays) = ap size_in same in
    after_reading s mid c.only_root.new.scope (came (only_root mid.arrays ms) mid.arrays) late most c.args.steps.now c.kernel_outputs.new.steps c.only_root.new.steps c.only_root.result
    (omega (arith, less, c.kernel_outputs.ensures.counted)) c.kernel_outputs.ensures.same.arrays (omega (arith, size)) c.only_root.ensures.within

pub returns-in-Some-clause-within : goal.returns-in-Some-clause-within
returns-in-Some-clause-within g c =
    let s = c.args.scope.now in
    let seen = arguments c.args.given.now in
    let some : builtin_of c.args.name.now ≡ Some c.in-Some.builtin = ap builtin_of (sym c.bytes.ensures) ∙ sym c.builtin_named.ensures ∙ c.in-Some.is in
    subst (λ (v : Valued). EvaluatesWithin (ready_all s c.args.given.now) s c.builtin_call.new.scope (came v s.arrays) c.args.steps.now c.builtin_call.new.steps c.builtin_call.result) (sym (builtin_called s.names c.args.name.now s.arrays c.args.given.now c.in-Some.builtin some)) c.builtin_call.ensures.within
