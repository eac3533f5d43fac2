use Rattle.std.proofs.Common.{arith, ◌≡◌, Bool, Some, None, Err, sym, ap, ◌∙◌}
use Rattle.std.specs.Prelude.{option_map, if◌then◌else◌}
use Rattle.pdl_machine.specs.declared.fault.Fault.{Fault}
use Rattle.pdl_machine.specs.declared.fault.Fault.TheVariants.{WrongArguments, UnknownFunction}
use Rattle.pdl_machine.specs.Then.{all_of}
use Rattle.pdl_session.specs.Arguments.{array_number}
use Rattle.pdl_session.proofs.ArgumentArrays.{numbers_live, outputs_given, none_given}
use Rattle.pdl_engine.specs.Reading.{read_steps}
use Rattle.pdl_scope.specs.Scope.{engine_of}
use Rattle.pdl_session.proofs.CostCalls.{numbers_cost}
use Rattle.pdl_session.proofs.call.kernel_outputs.Goals as goal

abbrev fault_of : Bool → Fault
fault_of is_kernel = if is_kernel then WrongArguments else UnknownFunction

pub kernel_outputs-requires : goal.kernel_outputs-requires
kernel_outputs-requires g c =
    let all : all_of array_number c.args.given.now ≡ Some c.deref.result.now = sym c.in_ok-ids.ensures ∙ ap (option_map (λ v. v.items)) c.in-Some.is ∙ ap Some (sym c.deref.ensures.value) in
    numbers_live c.args.scope.now.arrays.world c.args.given.now c.deref.result.now c.requires all

pub returns-in-Some-clause-value : goal.returns-in-Some-clause-value
returns-in-Some-clause-value g c =
    let all : all_of array_number c.args.given.now ≡ Some c.deref.result.now = sym c.in_ok-ids.ensures ∙ ap (option_map (λ v. v.items)) c.in-Some.is ∙ ap Some (sym c.deref.ensures.value) in
    outputs_given c.args.scope.now.names c.args.name.now c.args.wanted c.args.scope.now.arrays c.args.given.now c.deref.result.now c.kernel_outputs.result all c.kernel_outputs.ensures.value

pub returns-in-None-clause-value : goal.returns-in-None-clause-value
returns-in-None-clause-value g c =
    let none : all_of array_number c.args.given.now ≡ None = sym c.in_ok-ids.ensures ∙ ap (option_map (λ v. v.items)) c.in-None.is in
    none_given c.args.scope.now.names c.args.name.now c.args.wanted c.args.scope.now.arrays c.args.given.now none
    ∙ ap Err (sym (c.not_arrays.ensures ∙ ap fault_of c.has_kernel.ensures))

pub returns-in-Some-clause-counted : goal.returns-in-Some-clause-counted
returns-in-Some-clause-counted g c =
    let all : all_of array_number c.args.given.now ≡ Some c.deref.result.now = sym c.in_ok-ids.ensures ∙ ap (option_map (λ v. v.items)) c.in-Some.is ∙ ap Some (sym c.deref.ensures.value) in
    let same = numbers_cost (read_steps (engine_of c.args.scope.now)) c.args.given.now c.deref.result.now all in
    omega (arith, same, c.kernel_outputs.ensures.counted)
