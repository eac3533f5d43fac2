use Rattle.std.proofs.Common.{◌≡◌, ◌+◌, ◌≤◌, ◌∷◌, ◌++◌, [], ℕ, List, true, false, refl, sym, ap, subst, ◌∙◌}
use Rattle.std.specs.Prelude.{if◌then◌else◌, is_some}
use Rattle.pdl_flow.specs.Inputs.{input_of}
use Rattle.pdl_flow.specs.Inputs.{Given}
use Rattle.pdl_world.specs.Swept.{is_listed}
use Rattle.pdl_machine.specs.Arrays.{Arrays}
use Rattle.pdl_scope.specs.FlowCosts.{input_steps}
use Rattle.pdl_scope.specs.Plans.{AreShown, AreSingle, KeepInputs, input_at, met_by, planned}
use Rattle.pdl_scope.specs.Scope.{arrays_of}
use Rattle.pdl_scope.proofs.FlowCostLemmas.{met_is, met_more}
use Rattle.pdl_scope.proofs.PlanInputs.{input_there, inputs_kept, shown_more, single_more}
use Rattle.pdl_scope.proofs.following.add_input.Goals as goal

pub returns-clause-shown : goal.returns-clause-shown
returns-clause-shown g c =
    let a : Arrays = planned (arrays_of c.args.engine.now) c.args.plan.now in
    let i : Given = c.in_ok-input.input in
    let own : i ≡ input_at a c.args.id = c.in_ok-input.ensures.input in
    let at : i ≡ input_at a i.array = own ∙ ap (input_at a) (sym (ap (λ (x : Given). x.array) own)) in
    subst (AreShown a) (sym c.in_ok-push.ensures.items) (shown_more a c.args.inputs.now.items i c.requires.shown at)

pub returns-clause-here : goal.returns-clause-here
returns-clause-here g c =
    let a : Arrays = planned (arrays_of c.args.engine.now) c.args.plan.now in
    let i : Given = c.in_ok-input.input in
    let is : List Given = c.args.inputs.now.items in
    let own : i ≡ input_at a c.args.id = c.in_ok-input.ensures.input in
    subst (λ (xs : List Given). is_some (input_of xs c.args.id) ≡ true) (sym c.in_ok-push.ensures.items)
    (subst (λ (k : ℕ). is_some (input_of (is ++ i ∷ []) k) ≡ true) (ap (λ (x : Given). x.array) own) (input_there is i))

pub returns-clause-kept : goal.returns-clause-kept
returns-clause-kept g c =
    subst (KeepInputs c.args.inputs.now.items) (sym c.in_ok-push.ensures.items) (inputs_kept c.args.inputs.now.items c.in_ok-input.input)

pub returns-clause-single : goal.returns-clause-single
returns-clause-single g c =
    let i : Given = c.in_ok-input.input in
    let is : List Given = c.args.inputs.now.items in
    let own : i.array ≡ c.args.id = ap (λ (x : Given). x.array) c.in_ok-input.ensures.input in
    let none : is_some (input_of is c.args.id) ≡ false = ap (λ (xs : List Given). is_some (input_of xs c.args.id)) (sym c.deref.ensures.value) ∙ sym c.has_input.ensures ∙ c.if-has_input.false in
    subst AreSingle (sym c.in_ok-push.ensures.items) (single_more is i c.requires.single (ap (λ (k : ℕ). is_some (input_of is k)) own ∙ none))

pub returns-clause-met : goal.returns-clause-met
returns-clause-met g c =
    let i : Given = c.in_ok-input.input in
    let is : List Given = c.args.inputs.now.items in
    let own : i.array ≡ c.args.id = ap (λ (x : Given). x.array) c.in_ok-input.ensures.input in
    let none : is_some (input_of is c.args.id) ≡ false = ap (λ (xs : List Given). is_some (input_of xs c.args.id)) (sym c.deref.ensures.value) ∙ sym c.has_input.ensures ∙ c.if-has_input.false in
    rw (met_is is c.args.id ∙ none) (ap met_by c.in_ok-push.ensures.items ∙ met_more is i c.args.id own)

pub returns-then-has_input-clause-met : goal.returns-then-has_input-clause-met
returns-then-has_input-clause-met g c =
    let is : List Given = c.args.inputs.now.items in
    let some : is_some (input_of is c.args.id) ≡ true = ap (λ (xs : List Given). is_some (input_of xs c.args.id)) (sym c.deref.ensures.value) ∙ sym c.has_input.ensures ∙ c.if-has_input.true in
    rw (met_is is c.args.id ∙ some) refl

pub returns-clause-counted : goal.returns-clause-counted
returns-clause-counted g c =
    let is : List Given = c.args.inputs.now.items in
    let none : is_some (input_of is c.args.id) ≡ false = ap (λ (xs : List Given). is_some (input_of xs c.args.id)) (sym c.deref.ensures.value) ∙ sym c.has_input.ensures ∙ c.if-has_input.false in
    rw (met_is is c.args.id ∙ none) c.input_planned.ensures.counted

pub returns-in_err-push-clause-counted : goal.returns-in_err-push-clause-counted
returns-in_err-push-clause-counted g c =
    let is : List Given = c.args.inputs.now.items in
    let none : is_some (input_of is c.args.id) ≡ false = ap (λ (xs : List Given). is_some (input_of xs c.args.id)) (sym c.deref.ensures.value) ∙ sym c.has_input.ensures ∙ c.if-has_input.false in
    rw (met_is is c.args.id ∙ none) c.input_planned.ensures.counted

pub returns-in_err-input-clause-counted : goal.returns-in_err-input-clause-counted
returns-in_err-input-clause-counted g c =
    let is : List Given = c.args.inputs.now.items in
    let none : is_some (input_of is c.args.id) ≡ false = ap (λ (xs : List Given). is_some (input_of xs c.args.id)) (sym c.deref.ensures.value) ∙ sym c.has_input.ensures ∙ c.if-has_input.false in
    rw (met_is is c.args.id ∙ none) c.input_planned.ensures.counted
