use Rattle.std.proofs.Common.{◌≡◌, ◌+◌, ◌≤◌, ◌∙◌, ℕ, ℤ, List, [], ◌∷◌, Some, None, arith, refl, sym, ap, subst}
use Rattle.std.proofs.lemmas.Result.{IfOk-weaker}
use Rattle.pdl_elem.specs.declared.Ty.{Ty}
use Rattle.pdl_buf.specs.Made.{IsMade}
use Rattle.pdl_flow.specs.Inputs.{Given}
use Rattle.pdl_numbers.specs.Typed.{count_moved}
use Rattle.pdl_world.specs.World.{World, assign, dims_in, elements, ty_in}
use Rattle.pdl_engine.specs.Foresights.{IsForeseen}
use Rattle.pdl_engine.specs.State.{State as Engine}
use Rattle.pdl_machine.specs.Arrays.{Arrays}
use Rattle.pdl_scope.specs.FlowCosts.{input_steps}
use Rattle.pdl_scope.specs.Plans.{input_at, listed, planned}
use Rattle.pdl_scope.specs.Scope.{arrays_of}
use Rattle.pdl_scope.proofs.FlowCostLemmas.{input_taken, moved_once}
use Rattle.pdl_scope.proofs.ScopeGrowing.{readied_arrays}
use Rattle.pdl_scope.proofs.PlanInputs.{after_made, input_of, input_shown, inputs_same, values_shown}
use Rattle.pdl_scope.proofs.following.input_after.Goals as goal

pub returns-then-id-change-2-clause-input : goal.returns-then-id-change-2-clause-input
returns-then-id-change-2-clause-input g c =
    let e = c.args.engine.now in
    let d = c.args.change.now in
    let id = c.args.id in
    let a : Arrays = arrays_of e in
    let t = c.if-id-change.true in
    let r = c.if-id-change-2.true in
    let at : id ≡ d.target = omega (arith, t) in
    let own : id ≡ d.root = omega (arith, r) in
    let shows = values_shown c.cut_laws.ensures.rooted c.cut_laws.ensures.uncut c.assignment_laws.ensures.back e d id c.resting_law.ensures.sound c.requires.own at own in
    let w : World = e.world in
    IfOk-weaker c.input_of_values.result (λ (i : Given). i ≡ input_of d.target (ty_in w d.target) (dims_in w d.target) (listed d.values)) (λ (i : Given). i ≡ input_at (planned a (d ∷ [])) id)
    (λ i is. is ∙ ap (λ (k : ℕ). input_of k (ty_in w k) (dims_in w k) (listed d.values)) (sym at) ∙ input_shown c.assignment_laws.ensures.looks a (d ∷ []) id (listed d.values) shows) c.input_of_values.ensures.input

pub new-requires : goal.new-requires
new-requires g c =
    let e = c.args.engine.now in
    let w : World = e.world in
    let d = c.args.change.now in
    let id = c.args.id in
    let es : List ℤ = c.deref.result.now in
    let same = c.foresee.ensures.same.world in
    let found : IsForeseen w d.target (listed d.values) id (Some c.in-Some.foreseen) = subst (IsForeseen w d.target (listed d.values) id) c.in-Some.is c.in_ok-foreseen.ensures.value in
    let made : IsMade (ty_in w id) (dims_in w id) es =
    after_made c.dumpable_laws.ensures.shown c.assignment_laws.ensures.sound c.assignment_laws.ensures.looks e d id es c.resting_law.ensures.sound c.requires.own c.requires.live (c.deref.ensures.value ∙ found.1) in
    let ty_is : ty_in w id ≡ c.ty.result = sym (c.ty.ensures ∙ ap (λ (x : World). ty_in x id) same) in
    let dims_are : dims_in w id ≡ c.dims.result.now = sym (c.dims.ensures.now ∙ ap (λ (x : World). dims_in x id) same) in
    subst (λ (ty : Ty). IsMade ty c.dims.result.now es) ty_is (subst (λ (ds : List ℕ). IsMade (ty_in w id) ds es) dims_are made)

pub returns-in-Some-clause-input : goal.returns-in-Some-clause-input
returns-in-Some-clause-input g c =
    let e = c.args.engine.now in
    let w : World = e.world in
    let d = c.args.change.now in
    let id = c.args.id in
    let a : Arrays = arrays_of e in
    let es : List ℤ = c.deref.result.now in
    let same = c.foresee.ensures.same.world in
    let found : IsForeseen w d.target (listed d.values) id (Some c.in-Some.foreseen) = subst (IsForeseen w d.target (listed d.values) id) c.in-Some.is c.in_ok-foreseen.ensures.value in
    let ty_is : c.ty.result ≡ ty_in w id = c.ty.ensures ∙ ap (λ (x : World). ty_in x id) same in
    let dims_are : c.dims.result.now ≡ dims_in w id = c.dims.ensures.now ∙ ap (λ (x : World). dims_in x id) same in
    let shows : es ≡ elements (assign w d.target (listed d.values)) id = c.deref.ensures.value ∙ found.1 in
    IfOk-weaker c.new.result (λ (i : Given). i ≡ input_of id c.ty.result c.dims.result.now es) (λ (i : Given). i ≡ input_at (planned a (d ∷ [])) id)
    (λ i is. is ∙ inputs_same id ty_is dims_are refl ∙ input_shown c.assignment_laws.ensures.looks a (d ∷ []) id es shows) c.new.ensures.input

pub returns-in-None-clause-input : goal.returns-in-None-clause-input
returns-in-None-clause-input g c =
    let e = c.args.engine.now in
    let w : World = e.world in
    let d = c.args.change.now in
    let id = c.args.id in
    let a : Arrays = arrays_of e in
    let t = c.foresee.new.engine in
    let stays : IsForeseen w d.target (listed d.values) id None = subst (IsForeseen w d.target (listed d.values) id) c.in-None.is c.in_ok-foreseen.ensures.value in
    IfOk-weaker c.input_now.result (λ (i : Given). i ≡ input_at (arrays_of t) id) (λ (i : Given). i ≡ input_at (planned a (d ∷ [])) id)
    (λ i is. is ∙ ap (λ (b : Arrays). input_at b id) (readied_arrays e t c.foresee.ensures.same) ∙ input_shown c.assignment_laws.ensures.looks a (d ∷ []) id (elements w id) (sym stays)) c.input_now.ensures.input

pub returns-then-id-change-2-clause-counted : goal.returns-then-id-change-2-clause-counted
returns-then-id-change-2-clause-counted g c =
    let e = c.args.engine.now in
    let d = c.args.change.now in
    let id = c.args.id in
    let t = c.if-id-change.true in
    let r = c.if-id-change-2.true in
    let at : id ≡ d.target = omega (arith, t) in
    let own : id ≡ d.root = omega (arith, r) in
    let shows = values_shown c.cut_laws.ensures.rooted c.cut_laws.ensures.uncut c.assignment_laws.ensures.back e d id c.resting_law.ensures.sound c.requires.own at own in
    input_taken e (planned (arrays_of e) (d ∷ [])) id (listed d.values) c.args.steps.now c.args.steps.now c.input_of_values.new.steps shows (omega arith) c.input_of_values.ensures.counted

pub returns-in-Some-clause-counted : goal.returns-in-Some-clause-counted
returns-in-Some-clause-counted g c =
    let e = c.args.engine.now in
    let w : World = e.world in
    let d = c.args.change.now in
    let id = c.args.id in
    let es : List ℤ = c.deref.result.now in
    let found : IsForeseen w d.target (listed d.values) id (Some c.in-Some.foreseen) = subst (IsForeseen w d.target (listed d.values) id) c.in-Some.is c.in_ok-foreseen.ensures.value in
    let shows : es ≡ elements (assign w d.target (listed d.values)) id = c.deref.ensures.value ∙ found.1 in
    input_taken e (planned (arrays_of e) (d ∷ [])) id es c.args.steps.now c.foresee.new.steps c.new.new.steps shows c.foresee.ensures.counted (moved_once c.new.result c.foresee.new.steps c.new.new.steps (count_moved es) c.new.ensures.counted c.new.ensures.err)

pub returns-in-None-clause-counted : goal.returns-in-None-clause-counted
returns-in-None-clause-counted g c =
    let e = c.args.engine.now in
    let w : World = e.world in
    let d = c.args.change.now in
    let id = c.args.id in
    let t = c.foresee.new.engine in
    let stays : IsForeseen w d.target (listed d.values) id None = subst (IsForeseen w d.target (listed d.values) id) c.in-None.is c.in_ok-foreseen.ensures.value in
    let apart = c.in_ok-foreseen.ensures.apart c.in-None.is in
    let took : c.input_now.new.steps ≤ c.args.steps.now + input_steps e (arrays_of e) id =
    subst (λ (n : ℕ). c.input_now.new.steps ≤ n + input_steps e (arrays_of e) id) apart.1 (subst (λ (x : Engine). c.input_now.new.steps ≤ c.foresee.new.steps + input_steps x (arrays_of x) id) apart.0 c.input_now.ensures.counted) in
    let same : count_moved (elements w id) ≡ count_moved (elements (assign w d.target (listed d.values)) id) = ap count_moved (sym stays) in
    omega (arith, took, same)
