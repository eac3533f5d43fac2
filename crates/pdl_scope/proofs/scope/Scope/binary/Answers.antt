use Rattle.std.proofs.Common.{◌≡◌, ◌+◌, ◌≤◌, Result, sym, ap, subst, ◌∙◌}
use Rattle.pdl_buf.specs.declared.made.Made.{Made}
use Rattle.pdl_machine.specs.declared.fault.Fault.{Fault}
use Rattle.pdl_machine.specs.Arrays.{Arrays, array_in}
use Rattle.pdl_machine.specs.Operators.{binary_each}
use Rattle.pdl_machine.specs.Outcome.{new_root}
use Rattle.pdl_machine.specs.Then.{and_then}
use Rattle.pdl_scope.specs.Answers.{IsFault, Evaluates}
use Rattle.pdl_engine.specs.Reading.{read_steps}
use Rattle.pdl_scope.specs.Costs.{make_steps}
use Rattle.pdl_scope.specs.Scope.{arrays_of, engine_of, Scope as Seen}
use Rattle.pdl_scope.proofs.CostLemmas.{read_alone, read_and_made}
use Rattle.pdl_scope.proofs.FaultLemmas.{not_made}
use Rattle.pdl_scope.proofs.ScopeGrowing.{readied_arrays}
use Rattle.pdl_scope.proofs.scope.Scope.binary.Goals as goal

pub returns-in-Ok-clause-value : goal.returns-in-Ok-clause-value
returns-in-Ok-clause-value g c =
    let a = arrays_of c.ready_two.new.engine in
    let same : a ≡ c.args.self.now.arrays = readied_arrays c.self.inside.engine c.ready_two.new.engine c.ready_two.ensures.same ∙ ap (λ (s : Seen). s.arrays) c.self.view_is in
    let P : Arrays → Type 0 = λ b. Evaluates (and_then (binary_each c.args.op (array_in b c.args.left) (array_in b c.args.right)) (new_root b)) c.adopt.new.self c.adopt.result in
    let Q : Result Made Fault → Type 0 = λ x. Evaluates (and_then x (new_root a)) c.adopt.new.self c.adopt.result in
    subst P same (subst Q (sym c.in-Ok.ensures.value) c.adopt.ensures.value)

pub returns-in-Err-clause-value : goal.returns-in-Err-clause-value
returns-in-Err-clause-value g c =
    let a = arrays_of c.ready_two.new.engine in
    let same : a ≡ c.args.self.now.arrays = readied_arrays c.self.inside.engine c.ready_two.new.engine c.ready_two.ensures.same ∙ ap (λ (s : Seen). s.arrays) c.self.view_is in
    let P : Arrays → Type 0 = λ b. IsFault (and_then (binary_each c.args.op (array_in b c.args.left) (array_in b c.args.right)) (new_root b)) c.in-Err.fault in
    subst P same (not_made (binary_each c.args.op (array_in a c.args.left) (array_in a c.args.right)) a c.in-Err.fault c.in-Err.ensures.value)

pub returns-in-Ok-clause-counted : goal.returns-in-Ok-clause-counted
returns-in-Ok-clause-counted g c =
    let a = arrays_of c.ready_two.new.engine in
    let e = c.self.inside.engine in
    let wanted : Arrays → Result Made Fault = λ b. binary_each c.args.op (array_in b c.args.left) (array_in b c.args.right) in
    let same : arrays_of e ≡ a = sym (readied_arrays e c.ready_two.new.engine c.ready_two.ensures.same) in
    let P : Seen → Type 0 = λ s.
    c.adopt.new.steps ≤ c.args.steps.now + (read_steps (engine_of s) c.args.left + read_steps (engine_of s) c.args.right + make_steps (wanted s.arrays)) in
    subst P c.self.view_is
    (read_and_made c.args.steps.now c.ready_two.new.steps c.adopt.new.steps _ _ _ c.ready_two.ensures.counted c.adopt.ensures.counted
    (sym (ap (λ b. make_steps (wanted b)) same ∙ ap make_steps c.in-Ok.ensures.value)))

pub returns-in_err-ready_two-clause-counted : goal.returns-in_err-ready_two-clause-counted
returns-in_err-ready_two-clause-counted g c =
    let P : Seen → Type 0 = λ s.
    c.ready_two.new.steps ≤ c.args.steps.now
    + (read_steps (engine_of s) c.args.left + read_steps (engine_of s) c.args.right + make_steps (binary_each c.args.op (array_in s.arrays c.args.left) (array_in s.arrays c.args.right))) in
    subst P c.self.view_is (read_alone c.args.steps.now c.ready_two.new.steps _ _ c.ready_two.ensures.counted)

pub returns-in-Err-clause-counted : goal.returns-in-Err-clause-counted
returns-in-Err-clause-counted g c =
    let P : Seen → Type 0 = λ s.
    c.ready_two.new.steps ≤ c.args.steps.now
    + (read_steps (engine_of s) c.args.left + read_steps (engine_of s) c.args.right + make_steps (binary_each c.args.op (array_in s.arrays c.args.left) (array_in s.arrays c.args.right))) in
    subst P c.self.view_is (read_alone c.args.steps.now c.ready_two.new.steps _ _ c.ready_two.ensures.counted)
