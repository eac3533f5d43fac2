use Rattle.std.proofs.Common.{List, [], arith, length, refl, subst}
use Rattle.pdl_buf.specs.declared.made.Made.{Made}
use Rattle.pdl_machine.specs.Step.{roots_bound}
use Rattle.pdl_scope.specs.Scope.{machine}
use Rattle.pdl_scope.specs.Growth.{reads_grow}
use Rattle.pdl_scope.specs.Answers.{Runs}
use Rattle.pdl_scope.specs.Costs.{MovesUpTo, arrays_after}
use Rattle.pdl_session.specs.Arguments.{arguments}
use Rattle.pdl_session.specs.Costs.{ready_all}
use Rattle.pdl_session.proofs.CostExpressions.{read_all_le}
use Rattle.pdl_session.proofs.ScopeFacts.{ends_at}
use Rattle.pdl_session.proofs.MoveLemmas.{output_refused_within, output_within, outputs_refused_within, outputs_within}
use Rattle.pdl_session.proofs.PerformedStatements.{runs_output, output_refused, runs_several, several_read, several_refused}
use Rattle.pdl_session.proofs.statement.bind_outputs.Goals as goal

pub returns-in_err-outputs-clause-runs : goal.returns-in_err-outputs-clause-runs
returns-in_err-outputs-clause-runs g c =
    let s = c.args.scope.now in
    let xs = c.args.bound.now in
    let f = c.in_err-outputs.field-0.0 in
    ends_at _ _ _ _ f c.from_residual.result c.from_residual.ensures.1
    (several_refused (machine s) xs c.args.function.now c.args.given.now (length xs) f c.if-bound-ne1.true refl c.in_err-outputs.ensures.value)
    (reads_grow s c.several.new.scope c.several.ensures.same)

pub returns-then-bound-ne1-clause-runs : goal.returns-then-bound-ne1-clause-runs
returns-then-bound-ne1-clause-runs g c =
    let s = c.args.scope.now in
    let xs = c.args.bound.now in
    runs_several c.bind_roots.result s c.several.new.scope c.bind_roots.new.self xs c.args.function.now c.args.given.now (length xs) c.in_ok-outputs.outputs.items c.if-bound-ne1.true refl
    c.in_ok-outputs.ensures.value c.several.ensures.same (subst (λ (ms : List Made). Runs (roots_bound (machine c.several.new.scope) xs ms) c.several.new.scope c.bind_roots.new.self [] [] c.bind_roots.result) c.deref.ensures.value c.bind_roots.ensures.runs)

pub returns-in_err-id-clause-runs : goal.returns-in_err-id-clause-runs
returns-in_err-id-clause-runs g c =
    let s = c.args.scope.now in
    let given = arguments c.args.given.now in
    let f = c.in_err-id.field-0.0 in
    ends_at _ _ _ _ f c.from_residual-in_err-id.result c.from_residual-in_err-id.ensures.1
    (output_refused (machine s) c.args.bound.now c.args.function.now given f c.if-bound-ne1.false c.in_err-id.ensures.value) c.call.ensures.grown

pub returns-clause-runs : goal.returns-clause-runs
returns-clause-runs g c =
    runs_output c.bind.result c.args.scope.now c.call.new.scope c.bind.new.self c.args.bound.now c.index-bound-0.result c.args.function.now (arguments c.args.given.now) c.in_ok-id.id
    c.if-bound-ne1.false c.index-bound-0.is c.in_ok-id.ensures.value.0 c.in_ok-id.ensures.grown c.bind.ensures.runs

pub returns-in_err-outputs-clause-within : goal.returns-in_err-outputs-clause-within
returns-in_err-outputs-clause-within g c =
    let s = c.args.scope.now in
    let less = read_all_le s c.args.given.now in
    outputs_refused_within s c.args.bound.now c.args.function.now (arguments c.args.given.now) (ready_all s c.args.given.now) c.args.steps.now c.several.new.steps (omega (arith, less, c.several.ensures.counted))

pub returns-then-bound-ne1-clause-within : goal.returns-then-bound-ne1-clause-within
returns-then-bound-ne1-clause-within g c =
    let s = c.args.scope.now in
    let mid = c.several.new.scope in
    let xs = c.args.bound.now in
    let ms = c.in_ok-outputs.outputs.items in
    let less = read_all_le s c.args.given.now in
    let is = several_read s mid xs c.args.function.now c.args.given.now (length xs) ms c.if-bound-ne1.true refl c.in_ok-outputs.ensures.value c.several.ensures.same in
    let W : List Made → Type 0 = λ outputs. MovesUpTo 0 mid (arrays_after (roots_bound (machine mid) xs outputs) mid.arrays) c.several.new.steps c.bind_roots.new.steps in
    outputs_within s mid xs c.args.function.now c.args.given.now ms (ready_all s c.args.given.now) c.args.steps.now c.several.new.steps c.bind_roots.new.steps
    c.if-bound-ne1.true is (omega (arith, less, c.several.ensures.counted)) c.several.ensures.same.arrays (subst W c.deref.ensures.value c.bind_roots.ensures.within)

pub returns-in_err-id-clause-within : goal.returns-in_err-id-clause-within
returns-in_err-id-clause-within g c =
    let s = c.args.scope.now in
    output_refused_within s c.args.bound.now c.args.function.now (arguments c.args.given.now) (ready_all s c.args.given.now) c.args.steps.now c.call.new.steps c.if-bound-ne1.false c.in_err-id.ensures.within

pub returns-clause-within : goal.returns-clause-within
returns-clause-within g c =
    let s = c.args.scope.now in
    output_within s c.call.new.scope c.args.bound.now c.args.function.now (arguments c.args.given.now) (ready_all s c.args.given.now) c.args.steps.now c.call.new.steps c.in_ok-id.id
    c.if-bound-ne1.false c.in_ok-id.ensures.value.0 c.in_ok-id.ensures.within
