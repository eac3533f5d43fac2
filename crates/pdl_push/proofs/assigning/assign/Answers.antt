use Rattle.std.proofs.Common.{◌≡◌, ℕ, refl, sym, ◌∙◌, ap, subst}
use Rattle.std.proofs.lemmas.Bool.{eqb-true}
use Rattle.pdl_nodes.specs.Changes.{mark_in}
use Rattle.pdl_nodes.specs.Put.{IsWrite, put_in}
use Rattle.pdl_nodes.specs.Rows.{Rows, each, row_at}
use Rattle.pdl_nodes.specs.declared.node.Goal.TheVariants.{Root}
use Rattle.pdl_nodes.specs.declared.node.Shown.{Shown}
use Rattle.pdl_push.specs.Targets.{IsAssigned, WaitsTarget}
use Rattle.pdl_push.proofs.LateAssignments.{at_root}
use Rattle.pdl_push.proofs.TargetLemmas.{target_root}
use Rattle.pdl_push.proofs.assigning.assign.Goals as goal

pub returns-in-None-clause-assigned : goal.returns-in-None-clause-assigned
returns-in-None-clause-assigned g c = (at_root c.row_laws.ensures c.args.table.now c.put_root.new.self c.args.id c.args.first c.args.values.now c.requires (target_root c.args.table.now c.args.id c.args.id c.args.id (eqb-true (row_at c.args.table.now c.args.id).root c.args.id (sym c.in-None.ensures.root)) (c.row_laws.ensures.seen.root_own c.args.table.now c.args.id c.requires.order.still (c.requires.live, (eqb-true (row_at c.args.table.now c.args.id).root c.args.id (sym c.in-None.ensures.root)))) refl ∙ sym (eqb-true (row_at c.args.table.now c.args.id).root c.args.id (sym c.in-None.ensures.root))) (c.in-None.ensures.put ∙ ap (λ x. each (mark_in x x) (each (put_in Root c.args.table.now c.args.id c.args.first c.args.values.now) c.args.table.now)) (sym (eqb-true (row_at c.args.table.now c.args.id).root c.args.id (sym c.in-None.ensures.root))))).0

pub returns-in-None-clause-waits : goal.returns-in-None-clause-waits
returns-in-None-clause-waits g c = (at_root c.row_laws.ensures c.args.table.now c.put_root.new.self c.args.id c.args.first c.args.values.now c.requires (target_root c.args.table.now c.args.id c.args.id c.args.id (eqb-true (row_at c.args.table.now c.args.id).root c.args.id (sym c.in-None.ensures.root)) (c.row_laws.ensures.seen.root_own c.args.table.now c.args.id c.requires.order.still (c.requires.live, (eqb-true (row_at c.args.table.now c.args.id).root c.args.id (sym c.in-None.ensures.root)))) refl ∙ sym (eqb-true (row_at c.args.table.now c.args.id).root c.args.id (sym c.in-None.ensures.root))) (c.in-None.ensures.put ∙ ap (λ x. each (mark_in x x) (each (put_in Root c.args.table.now c.args.id c.args.first c.args.values.now) c.args.table.now)) (sym (eqb-true (row_at c.args.table.now c.args.id).root c.args.id (sym c.in-None.ensures.root))))).1

pub assign_at_target-requires-clause-write : goal.assign_at_target-requires-clause-write
assign_at_target-requires-clause-write g c =
    let id : c.in-Some.at.id ≡ c.args.id = ap (λ (s : Shown). s.id) c.in-Some.ensures.view in
    subst (λ (rs : Rows). IsWrite rs c.in-Some.at.id c.args.first c.args.values.now) (sym c.in-Some.ensures.put)
    (subst (λ (v : ℕ). IsWrite c.args.table.now v c.args.first c.args.values.now) (sym id) c.requires)

pub returns-in-Some-clause-assigned : goal.returns-in-Some-clause-assigned
returns-in-Some-clause-assigned g c =
    let id : c.in-Some.at.id ≡ c.args.id = ap (λ (s : Shown). s.id) c.in-Some.ensures.view in
    subst (λ (rs : Rows). IsAssigned rs c.args.id c.args.first c.args.values.now c.assign_at_target.new.table) c.in-Some.ensures.put
    (subst (λ (v : ℕ). IsAssigned c.put_root.new.self v c.args.first c.args.values.now c.assign_at_target.new.table) id c.assign_at_target.ensures.assigned)

pub returns-in-Some-clause-waits : goal.returns-in-Some-clause-waits
returns-in-Some-clause-waits g c =
    let id : c.in-Some.at.id ≡ c.args.id = ap (λ (s : Shown). s.id) c.in-Some.ensures.view in
    subst (λ (rs : Rows). WaitsTarget rs c.args.id c.assign_at_target.new.table) c.in-Some.ensures.put
    (subst (λ (v : ℕ). WaitsTarget c.put_root.new.self v c.assign_at_target.new.table) id c.assign_at_target.ensures.waits)
