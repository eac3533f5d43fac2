use Rattle.std.proofs.Common.{◌≡◌, ◌+◌, ◌∷◌, [], ℕ, Some, None, sym, ap, subst, ◌∙◌, arith}
use Rattle.std.specs.Prelude.{IfOk}
use Rattle.pdl_numbers.specs.Typed.{count_moved}
use Rattle.pdl_flow.specs.Inputs.{Given}
use Rattle.pdl_world.specs.Paths.{root_of}
use Rattle.pdl_engine.specs.Reading.{read_steps}
use Rattle.pdl_engine.specs.State.{State as Engine}
use Rattle.pdl_machine.specs.Arrays.{Arrays}
use Rattle.pdl_scope.specs.FlowCosts.{input_steps}
use Rattle.pdl_scope.specs.Plans.{change_to, input_at, planned}
use Rattle.pdl_scope.specs.Scope.{arrays_of}
use Rattle.pdl_scope.proofs.PlanInputs.{input_found, input_kept}
use Rattle.pdl_scope.proofs.PlanAssignments.{Laws, found_change}
use Rattle.pdl_scope.proofs.following.input_planned.Goals as goal

pub input_after-requires-clause-own : goal.input_after-requires-clause-own
input_after-requires-clause-own g c =
    let e = c.args.engine.now in
    let plan = c.args.plan.now in
    let r = root_of e.world c.args.id in
    found_change e plan r c.in-Some.change.now c.requires.plan (ap (change_to plan) (sym c.root.ensures) ∙ sym c.in-Some.ensures)

pub returns-in-Some-clause-input : goal.returns-in-Some-clause-input
returns-in-Some-clause-input g c =
    let a : Arrays = arrays_of c.args.engine.now in
    let plan = c.args.plan.now in
    let id = c.args.id in
    let d = c.in-Some.change.now in
    let laws : Laws = record { looks = c.assignment_laws.ensures.looks; reads = c.assignment_laws.ensures.reads; wholes = c.part_laws.ensures.wholes; others = c.part_laws.ensures.others } in
    let found : change_to plan (root_of a.world id) ≡ Some d = ap (change_to plan) (sym c.root.ensures) ∙ sym c.in-Some.ensures in
    subst (λ (x : Given). IfOk c.input_after.result (λ i. i ≡ x)) (input_found laws a plan id d c.requires.plan.foretold c.requires.live found) c.input_after.ensures.input

pub returns-in-None-clause-input : goal.returns-in-None-clause-input
returns-in-None-clause-input g c =
    let a : Arrays = arrays_of c.args.engine.now in
    let plan = c.args.plan.now in
    let id = c.args.id in
    let laws : Laws = record { looks = c.assignment_laws.ensures.looks; reads = c.assignment_laws.ensures.reads; wholes = c.part_laws.ensures.wholes; others = c.part_laws.ensures.others } in
    let none : change_to plan (root_of a.world id) ≡ None = ap (change_to plan) (sym c.root.ensures) ∙ sym c.in-None.ensures in
    subst (λ (x : Given). IfOk c.input_now.result (λ i. i ≡ x)) (input_kept laws a plan id c.requires.plan.foretold none) c.input_now.ensures.input

-- what an array's input takes where the array shows the same
same_taken : (e : Engine) (a b : Arrays) (k : ℕ) → input_at a k ≡ input_at b k → input_steps e a k ≡ input_steps e b k
same_taken e a b k same = ap (λ (i : Given). read_steps e k + count_moved i.value.elems) same

pub returns-in-Some-clause-counted : goal.returns-in-Some-clause-counted
returns-in-Some-clause-counted g c =
    let e = c.args.engine.now in
    let a : Arrays = arrays_of e in
    let plan = c.args.plan.now in
    let id = c.args.id in
    let d = c.in-Some.change.now in
    let laws : Laws = record { looks = c.assignment_laws.ensures.looks; reads = c.assignment_laws.ensures.reads; wholes = c.part_laws.ensures.wholes; others = c.part_laws.ensures.others } in
    let found : change_to plan (root_of a.world id) ≡ Some d = ap (change_to plan) (sym c.root.ensures) ∙ sym c.in-Some.ensures in
    let took = c.input_after.ensures.counted in
    let same = same_taken e (planned a (d ∷ [])) (planned a plan) id (input_found laws a plan id d c.requires.plan.foretold c.requires.live found) in
    omega (arith, took, same)

pub returns-in-None-clause-counted : goal.returns-in-None-clause-counted
returns-in-None-clause-counted g c =
    let e = c.args.engine.now in
    let a : Arrays = arrays_of e in
    let plan = c.args.plan.now in
    let id = c.args.id in
    let laws : Laws = record { looks = c.assignment_laws.ensures.looks; reads = c.assignment_laws.ensures.reads; wholes = c.part_laws.ensures.wholes; others = c.part_laws.ensures.others } in
    let none : change_to plan (root_of a.world id) ≡ None = ap (change_to plan) (sym c.root.ensures) ∙ sym c.in-None.ensures in
    let took = c.input_now.ensures.counted in
    let same = same_taken e a (planned a plan) id (input_kept laws a plan id c.requires.plan.foretold none) in
    omega (arith, took, same)
