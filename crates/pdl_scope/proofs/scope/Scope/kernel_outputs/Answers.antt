use Rattle.std.proofs.Common.{◌+◌, ◌≤◌, List, map, Option, Result, Vec, Global, subst, sym}
use Rattle.std.specs.Prelude.{sum_by}
use Rattle.pdl_buf.specs.declared.made.Made.{Made}
use Rattle.pdl_machine.specs.declared.fault.Fault.{Fault}
use Rattle.pdl_machine.specs.declared.fault.Fault.TheVariants.{UnknownFunction, WrongArguments}
use Rattle.pdl_machine.specs.Calls.{outputs_of}
use Rattle.pdl_kernel.specs.Kernels.{Kernel}
use Rattle.pdl_machine.specs.Kernels.{kernel_of, outputs_by, kernel_outputs}
use Rattle.pdl_machine.specs.Names.{KernelTexts}
use Rattle.pdl_machine.specs.Then.{and_then, or_fault}
use Rattle.pdl_engine.specs.Reading.{read_steps}
use Rattle.pdl_scope.specs.Scope.{Scope as Seen, engine_of, arrays_of, arrays_seen, made_in}
use Rattle.pdl_scope.proofs.ScopeKernels.{all_arrays}
use Rattle.pdl_scope.specs.Answers.{AnswersAs}
use Rattle.pdl_scope.proofs.scope.Scope.kernel_outputs.Goals as goal

pub returns-in-Some-clause-value : goal.returns-in-Some-clause-value
returns-in-Some-clause-value g c =
    let items : Vec Made Global → List Made = λ ms. ms.items in
    let seen = arrays_seen (arrays_of c.self.inside.engine) c.args.ids.now in
    let P : Seen → Type 0 = λ s. AnswersAs items (outputs_of s.names c.args.name.now c.args.wanted (arrays_seen s.arrays c.args.ids.now)) c.kernel_outputs.result in
    let Q : Option KernelTexts → Type 0 = λ k. AnswersAs items (and_then (or_fault UnknownFunction k) (λ k. kernel_outputs k c.args.wanted seen)) c.kernel_outputs.result in
    let given = map (made_in c.self.inside.engine) c.args.ids.now in
    let R : Result Kernel Fault → Type 0 = λ k. AnswersAs items (and_then k (outputs_by c.args.wanted given)) c.kernel_outputs.result in
    let S : Option (List Made) → Type 0 = λ o. AnswersAs items (and_then (or_fault WrongArguments o) (λ arrays. and_then (kernel_of c.in-Some.defined.now) (outputs_by c.args.wanted arrays))) c.kernel_outputs.result in
    let by_texts = subst R (sym c.kernel.ensures) c.kernel_outputs.ensures.value in
    subst P c.self.view_is (subst Q c.in-Some.ensures (subst S (sym (all_arrays (made_in c.self.inside.engine) c.args.ids.now)) by_texts))

pub returns-in-Some-clause-counted : goal.returns-in-Some-clause-counted
returns-in-Some-clause-counted g c =
    let P : Seen → Type 0 = λ s. c.kernel_outputs.new.steps ≤ c.args.steps.now + sum_by (read_steps (engine_of s)) c.args.ids.now in
    subst P c.self.view_is c.kernel_outputs.ensures.counted
