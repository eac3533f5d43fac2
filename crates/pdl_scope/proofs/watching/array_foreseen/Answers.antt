use Rattle.std.proofs.Common.{◌≡◌, ℤ, List, Some, None, sym, ap, subst, ◌∙◌}
use Rattle.std.specs.Prelude.{IfOk}
use Rattle.pdl_world.specs.Paths.{root_of}
use Rattle.pdl_world.specs.World.{elements}
use Rattle.pdl_watch.specs.Changes.{changes}
use Rattle.pdl_scope.specs.Plans.{change_to}
use Rattle.pdl_scope.proofs.PlanAssignments.{Laws, found_change, found_listed, shown_found, shown_kept}
use Rattle.pdl_scope.proofs.watching.array_foreseen.Goals as goal

pub returns-in-Some-clause-told : goal.returns-in-Some-clause-told
returns-in-Some-clause-told g c =
    let w = c.args.engine.now.world in
    let plan = c.args.plan.now in
    let id = c.args.seen in
    let d = c.in-Some.change.now in
    let laws : Laws = record { looks = c.assignment_laws.ensures.looks; reads = c.assignment_laws.ensures.reads; wholes = c.part_laws.ensures.wholes; others = c.part_laws.ensures.others } in
    let found : change_to plan (root_of w id) ≡ Some d = ap (change_to plan) (sym c.root.ensures) ∙ sym c.in-Some.ensures in
    subst (λ (xs : List ℤ). IfOk c.changes_foreseen.result (λ ns. ns.items ≡ changes c.args.number (elements w id) xs)) (sym (shown_found laws w plan id d c.requires.plan.foretold c.requires.live found))
    c.changes_foreseen.ensures.told

pub changes_foreseen-requires-clause-own : goal.changes_foreseen-requires-clause-own
changes_foreseen-requires-clause-own g c =
    let e = c.args.engine.now in
    let plan = c.args.plan.now in
    found_change e plan (root_of e.world c.args.seen) c.in-Some.change.now c.requires.plan (ap (change_to plan) (sym c.root.ensures) ∙ sym c.in-Some.ensures)

pub returns-in-Some-clause-apart : goal.returns-in-Some-clause-apart
returns-in-Some-clause-apart g c = λ none.
    let w = c.args.engine.now.world in
    let plan = c.args.plan.now in
    let found : change_to plan (root_of w c.args.seen) ≡ Some c.in-Some.change.now = ap (change_to plan) (sym c.root.ensures) ∙ sym c.in-Some.ensures in
    let t = found_listed plan (root_of w c.args.seen) c.in-Some.change.now found in
    cc

pub returns-in-None-clause-told : goal.returns-in-None-clause-told
returns-in-None-clause-told g c =
    let w = c.args.engine.now.world in
    let plan = c.args.plan.now in
    let id = c.args.seen in
    let laws : Laws = record { looks = c.assignment_laws.ensures.looks; reads = c.assignment_laws.ensures.reads; wholes = c.part_laws.ensures.wholes; others = c.part_laws.ensures.others } in
    let none : change_to plan (root_of w id) ≡ None = ap (change_to plan) (sym c.root.ensures) ∙ sym c.in-None.ensures in
    c.new.ensures.items ∙ sym (ap (changes c.args.number (elements w id)) (shown_kept laws w plan id c.requires.plan.foretold none) ∙ c.change_laws.ensures c.args.number (elements w id))
