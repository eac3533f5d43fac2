use Rattle.std.proofs.Common.{◌≡◌, ◌+◌, ◌≤◌, [], arith, ℕ, ℤ, List, map, Option, None, Result, Ok, refl, sym, ap, subst, ◌∙◌}
use Rattle.pdl_ops.specs.Answers.{refusal_named}
use Rattle.std.specs.Prelude.{sum_by}
use Rattle.pdl_flow.specs.Formula.{FormulaTree, arrays_in, tree_of}
use Rattle.pdl_flow.specs.Steps.{steps_in}
use Rattle.pdl_flow.specs.Inputs.{AreInputs, value_in}
use Rattle.pdl_flow.specs.Meaning.{meaning}
use Rattle.pdl_flow.specs.Inputs.{Given}
use Rattle.pdl_world.specs.Sound.{IsSound}
use Rattle.pdl_world.specs.World.{World, assign, dims_in, ty_in}
use Rattle.pdl_machine.specs.Arrays.{Arrays, array_in}
use Rattle.pdl_machine.specs.Following.{follow}
use Rattle.pdl_machine.specs.State.{AreLive}
use Rattle.pdl_scope.specs.FlowCosts.{input_steps, once}
use Rattle.pdl_scope.specs.Plans.{all_assigned, planned}
use Rattle.pdl_scope.specs.Scope.{arrays_of}
use Rattle.pdl_scope.proofs.FlowCostLemmas.{found_within}
use Rattle.pdl_scope.proofs.FlowFollowers.{IsFormed, ShowAll, are_inputs, follows_by, formed, inputs_show, made_at, of_inputs, older_live, unrefused}
use Rattle.pdl_scope.proofs.CostForeseen.{rested}
use Rattle.pdl_scope.proofs.ScopeGrowing.{still_live}
use Rattle.pdl_scope.proofs.PlanLemmas.{sound_after}
use Rattle.pdl_scope.proofs.PlanAssignments.{live_after, looks_after}
use Rattle.pdl_scope.proofs.following.elements_of_flow.Goals as goal

pub inputs_planned-requires-clause-live : goal.inputs_planned-requires-clause-live
inputs_planned-requires-clause-live g c =
    let w = c.args.engine.now.world in
    let f = c.args.flow.now in
    subst (AreLive w) (sym c.reads.ensures) (older_live w f.root (arrays_in f.formula) c.requires.flow.older)

pub evaluate-requires-clause-inputs : goal.evaluate-requires-clause-inputs
evaluate-requires-clause-inputs g c =
    let e = c.args.engine.now in
    let plan = c.args.plan.now in
    let f = c.args.flow.now in
    let ks = arrays_in f.formula in
    let b : Arrays = planned (arrays_of e) plan in
    let looks = c.assignment_laws.ensures.looks in
    let is : ShowAll b c.deref.result.now ks = inputs_show b c.in_ok-inputs.inputs.items c.deref.result.now c.reads.result.now ks c.deref.ensures.value c.reads.ensures c.in_ok-inputs.ensures.inputs in
    let sound : IsSound b.world = sound_after c.assignment_laws.ensures.sound looks e.world e plan (λ v. refl) c.requires.plan.can c.resting_law.ensures.sound in
    let live : AreLive b.world ks = still_live e.world b.world (λ v there. live_after looks e.world plan v there) ks (older_live e.world f.root ks c.requires.flow.older) in
    subst (AreInputs c.deref.result.now) (sym c.formula.ensures) (are_inputs c.dumpable_laws.ensures.shown b f c.deref.result.now sound live is)

pub returns-in-Ok-clause-follows : goal.returns-in-Ok-clause-follows
returns-in-Ok-clause-follows g c =
    let b : Arrays = planned (arrays_of c.args.engine.now) c.args.plan.now in
    let f = c.args.flow.now in
    let is : ShowAll b c.deref.result.now (arrays_in f.formula) = inputs_show b c.in_ok-inputs.inputs.items c.deref.result.now c.reads.result.now (arrays_in f.formula) c.deref.ensures.value c.reads.ensures c.in_ok-inputs.ensures.inputs in
    let value : meaning (array_in b) f.formula ≡ Ok c.in-Ok.made =
    sym (of_inputs c.meaning_laws.ensures b f c.deref.result.now is) ∙ ap (meaning (value_in c.deref.result.now)) (sym c.formula.ensures) ∙ c.in-Ok.ensures.value in
    follows_by b f c.in-Ok.made c.in-Ok.made.elems value refl

pub returns-in-Ok-clause-made : goal.returns-in-Ok-clause-made
returns-in-Ok-clause-made g c =
    let a : Arrays = arrays_of c.args.engine.now in
    let b : Arrays = planned a c.args.plan.now in
    let f = c.args.flow.now in
    let is : ShowAll b c.deref.result.now (arrays_in f.formula) = inputs_show b c.in_ok-inputs.inputs.items c.deref.result.now c.reads.result.now (arrays_in f.formula) c.deref.ensures.value c.reads.ensures c.in_ok-inputs.ensures.inputs in
    let value : meaning (array_in b) f.formula ≡ Ok c.in-Ok.made =
    sym (of_inputs c.meaning_laws.ensures b f c.deref.result.now is) ∙ ap (meaning (value_in c.deref.result.now)) (sym c.formula.ensures) ∙ c.in-Ok.ensures.value in
    let form : IsFormed a b f (meaning (array_in b) f.formula) = formed c.meaning_laws.ensures a b f c.requires.flow (looks_after c.assignment_laws.ensures.looks a.world c.args.plan.now) in
    made_at a b f c.in-Ok.made c.in-Ok.made.elems form value c.in-Ok.ensures.made refl

pub out_of_memory-requires : goal.out_of_memory-requires
out_of_memory-requires g c =
    let a : Arrays = arrays_of c.args.engine.now in
    let b : Arrays = planned a c.args.plan.now in
    let f = c.args.flow.now in
    let is : ShowAll b c.deref.result.now (arrays_in f.formula) = inputs_show b c.in_ok-inputs.inputs.items c.deref.result.now c.reads.result.now (arrays_in f.formula) c.deref.ensures.value c.reads.ensures c.in_ok-inputs.ensures.inputs in
    let form : IsFormed a b f (meaning (array_in b) f.formula) = formed c.meaning_laws.ensures a b f c.requires.flow (looks_after c.assignment_laws.ensures.looks a.world c.args.plan.now) in
    unrefused (meaning (value_in c.deref.result.now) (tree_of c.formula.result.now)) form.made (refusal_named c.in-Err.fault)
    (ap (meaning (value_in c.deref.result.now)) c.formula.ensures ∙ of_inputs c.meaning_laws.ensures b f c.deref.result.now is ∙ form.is) c.in-Err.ensures.value

pub returns-in-Ok-clause-counted : goal.returns-in-Ok-clause-counted
returns-in-Ok-clause-counted g c =
    let e = c.args.engine.now in
    let b : Arrays = planned (arrays_of e) c.args.plan.now in
    let f = c.args.flow.now in
    let inputs = c.deref.result.now in
    let is : ShowAll b inputs (arrays_in f.formula) = inputs_show b c.in_ok-inputs.inputs.items inputs c.reads.result.now (arrays_in f.formula) c.deref.ensures.value c.reads.ensures c.in_ok-inputs.ensures.inputs in
    let read = subst (λ (ks : List ℕ). c.inputs_planned.new.steps ≤ c.args.steps.now + sum_by (input_steps e b) (once [] ks)) c.reads.ensures c.inputs_planned.ensures.counted in
    let moved = subst (λ (x : FormulaTree). c.evaluate.new.steps ≤ c.inputs_planned.new.steps + steps_in (value_in inputs) x) c.formula.ensures c.evaluate.ensures.at_most in
    found_within c.meaning_laws.ensures e b f inputs c.args.steps.now c.inputs_planned.new.steps c.evaluate.new.steps is read moved

pub returns-clause-counted : goal.returns-clause-counted
returns-clause-counted g c =
    let e = c.args.engine.now in
    let b : Arrays = planned (arrays_of e) c.args.plan.now in
    let f = c.args.flow.now in
    let inputs = c.deref.result.now in
    let is : ShowAll b inputs (arrays_in f.formula) = inputs_show b c.in_ok-inputs.inputs.items inputs c.reads.result.now (arrays_in f.formula) c.deref.ensures.value c.reads.ensures c.in_ok-inputs.ensures.inputs in
    let read = subst (λ (ks : List ℕ). c.inputs_planned.new.steps ≤ c.args.steps.now + sum_by (input_steps e b) (once [] ks)) c.reads.ensures c.inputs_planned.ensures.counted in
    let moved = subst (λ (x : FormulaTree). c.evaluate.new.steps ≤ c.inputs_planned.new.steps + steps_in (value_in inputs) x) c.formula.ensures c.evaluate.ensures.at_most in
    found_within c.meaning_laws.ensures e b f inputs c.args.steps.now c.inputs_planned.new.steps c.evaluate.new.steps is read moved

pub returns-in_err-inputs-clause-counted : goal.returns-in_err-inputs-clause-counted
returns-in_err-inputs-clause-counted g c =
    let e = c.args.engine.now in
    let b : Arrays = planned (arrays_of e) c.args.plan.now in
    let read = subst (λ (ks : List ℕ). c.inputs_planned.new.steps ≤ c.args.steps.now + sum_by (input_steps e b) (once [] ks)) c.reads.ensures c.inputs_planned.ensures.counted in
    omega (arith, read)

pub returns-in-Ok-clause-costs : goal.returns-in-Ok-clause-costs
returns-in-Ok-clause-costs g c =
    (rested c.args.engine.now c.inputs_planned.new.engine c.resting_law.ensures c.resting_law-2.ensures c.inputs_planned.ensures.same c.inputs_planned.ensures.stay).reads
