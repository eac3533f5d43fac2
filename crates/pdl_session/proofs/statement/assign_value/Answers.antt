use Rattle.std.proofs.Common.{◌≡◌, ◌+◌, ◌≤◌, List, length, ap, subst, ◌∙◌}
use Rattle.std.specs.Prelude.{map, ◌==◌}
use Rattle.pdl_shape.specs.Shape.{size_of}
use Rattle.pdl_world.specs.World.{dims_in}
use Rattle.pdl_machine.specs.Flows.{Flows, followers}
use Rattle.pdl_scope.specs.FlowCosts.{following_steps}
use Rattle.pdl_scope.specs.Scope.{engine_of}
use Rattle.pdl_syntax.specs.TreeOf.{tree_of}
use Rattle.pdl_syntax.specs.declared.tree.ViewCall.{ViewCall}
use Rattle.pdl_syntax.specs.StatementTree.{view_of}
use Rattle.pdl_machine.specs.Step.{target, assigned}
use Rattle.pdl_session.proofs.EvaluationAffected.{assigned_affected, flows_within, late_unflowed}
use Rattle.pdl_session.proofs.BoundLemmas.{bare_noted, no_views_of, target_refused, value_refused, assigned_plainly, assigned_readable}
use Rattle.pdl_session.proofs.ScopeFacts.{ends_at, grows_trans}
use Rattle.pdl_session.proofs.ScopeAssignments.{assigned_told}
use Rattle.pdl_session.proofs.CostExpressions.{names_less, names_live}
use Rattle.pdl_session.proofs.MoveLemmas.{assigned_within, target_left, value_left}
use Rattle.pdl_session.proofs.PerformedStatements.{runs_assigned, assigned_refused}
use Rattle.pdl_session.proofs.statement.assign_value.Goals as goal

pub returns-clause-runs : goal.returns-clause-runs
returns-clause-runs g c =
    runs_assigned c.assign.result c.args.scope.now c.assigned_to.new.scope c.eval.new.scope c.assign.new.self (target c.args.to.now.name (map view_of c.args.to.now.views.items)) (tree_of c.args.value.now) c.args.sign c.in_ok-to.to c.in_ok-from.from
    c.in_ok-to.ensures.value.0 c.in_ok-from.ensures.value.0 c.assigned_to.ensures.grown c.eval.ensures.grown c.assign.ensures.runs

pub returns-in_err-from-clause-runs : goal.returns-in_err-from-clause-runs
returns-in_err-from-clause-runs g c =
    let s = c.args.scope.now in
    let to = target c.args.to.now.name (map view_of c.args.to.now.views.items) in
    let f = c.in_err-from.field-0.0 in
    ends_at _ _ _ _ f c.from_residual-in_err-from.result c.from_residual-in_err-from.ensures.1
    (assigned_refused s c.assigned_to.new.scope to (tree_of c.args.value.now) c.args.sign c.in_ok-to.to f c.in_ok-to.ensures.value.0 c.in_err-from.ensures.value c.assigned_to.ensures.grown)
    (grows_trans s c.assigned_to.new.scope c.eval.new.scope c.assigned_to.ensures.grown c.eval.ensures.grown)

pub returns-clause-told : goal.returns-clause-told
returns-clause-told g c =
    assigned_told c.assign.result c.args.number c.args.scope.now c.eval.new.scope c.assign.new.self (assigned c.args.sign c.eval.new.scope.arrays c.in_ok-to.to c.in_ok-from.from)
    c.watching_laws.ensures.growing c.in_order.ensures.whole c.in_order-3.ensures.whole (grows_trans c.args.scope.now c.assigned_to.new.scope c.eval.new.scope c.assigned_to.ensures.grown c.eval.ensures.grown)
    c.assign.ensures.runs c.assign.ensures.told

pub returns-in_err-to-clause-moves : goal.returns-in_err-to-clause-moves
returns-in_err-to-clause-moves g c =
    target_refused c.args.to.now.name (map view_of c.args.to.now.views.items) c.args.sign (tree_of c.args.value.now) c.args.scope.now c.assigned_to.new.scope c.args.steps.now c.assigned_to.new.steps c.assigned_to.result
    (λ none. c.assigned_to.ensures.bare (no_views_of c.args.to.now.views.items none))

pub returns-in_err-from-clause-moves : goal.returns-in_err-from-clause-moves
returns-in_err-from-clause-moves g c =
    value_refused c.args.to.now.name (map view_of c.args.to.now.views.items) c.args.sign (tree_of c.args.value.now) c.args.scope.now c.assigned_to.new.scope c.eval.new.scope c.args.steps.now c.assigned_to.new.steps c.eval.new.steps c.assigned_to.result c.eval.result
    (λ none. c.assigned_to.ensures.bare (no_views_of c.args.to.now.views.items none)) c.eval.ensures.plain

pub returns-clause-moves : goal.returns-clause-moves
returns-clause-moves g c =
    assigned_plainly c.growth_laws.ensures.older c.args.to.now.name (map view_of c.args.to.now.views.items) c.args.sign (tree_of c.args.value.now) c.args.scope.now c.assigned_to.new.scope c.eval.new.scope c.assign.new.self c.args.steps.now c.assigned_to.new.steps c.eval.new.steps c.assign.new.steps c.in_ok-to.to c.in_ok-from.from
    (λ none. c.in_ok-to.ensures.bare (no_views_of c.args.to.now.views.items none)) c.in_ok-to.ensures.value.1 c.in_ok-from.ensures.plain c.eval.ensures.grown c.in_order-2.ensures.whole c.in_order-3.ensures.whole c.assign.ensures.at_once c.assign.ensures.views

pub returns-clause-readable : goal.returns-clause-readable
returns-clause-readable g c =
    let bare : c.is_empty-is_bare.result ≡ (length c.args.to.now.views.items == 0) = subst (λ (vs : List ViewCall). c.is_empty-is_bare.result ≡ (length vs == 0)) c.deref-views.ensures.value c.is_empty-is_bare.ensures in
    assigned_readable c.assign.result c.args.to.now.name (map view_of c.args.to.now.views.items) c.args.sign (tree_of c.args.value.now) c.args.scope.now c.assigned_to.new.scope c.assign.new.self c.args.steps.now c.assigned_to.new.steps c.in_ok-to.to
    (λ none. c.in_ok-to.ensures.bare (no_views_of c.args.to.now.views.items none))
    (λ none. c.assign.ensures.warm (bare ∙ ap (λ (vs : List ViewCall). length vs == 0) (no_views_of c.args.to.now.views.items none)))

pub returns-in_err-to-clause-within : goal.returns-in_err-to-clause-within
returns-in_err-to-clause-within g c =
    target_left c.args.scope.now (target c.args.to.now.name (map view_of c.args.to.now.views.items)) c.args.sign (tree_of c.args.value.now) c.args.steps.now c.assigned_to.new.steps c.in_err-to.ensures.within

pub returns-in_err-from-clause-within : goal.returns-in_err-from-clause-within
returns-in_err-from-clause-within g c =
    let s = c.args.scope.now in
    let mid = c.assigned_to.new.scope in
    let tree = tree_of c.args.value.now in
    let costs = c.cost_laws.ensures.older s mid c.in_order.ensures c.in_order-2.ensures c.assigned_to.ensures.grown in
    value_left s mid (target c.args.to.now.name (map view_of c.args.to.now.views.items)) c.args.sign tree c.args.steps.now c.assigned_to.new.steps c.eval.new.steps c.in_ok-to.to
    c.in_ok-to.ensures.value.0 c.assigned_to.ensures.grown.names c.in_ok-to.ensures.within (names_less s mid c.assigned_to.ensures.grown.names (names_live s c.in_order.ensures.whole) costs tree)
    c.in_err-from.ensures.within

pub returns-clause-within : goal.returns-clause-within
returns-clause-within g c =
    let s = c.args.scope.now in
    let to = target c.args.to.now.name (map view_of c.args.to.now.views.items) in
    let mid = c.assigned_to.new.scope in
    let late = c.eval.new.scope in
    let tree = tree_of c.args.value.now in
    let all = grows_trans s mid late c.assigned_to.ensures.grown c.eval.ensures.grown in
    let first = c.cost_laws.ensures.older s mid c.in_order.ensures c.in_order-2.ensures c.assigned_to.ensures.grown in
    let next = c.cost_laws.ensures.older mid late c.in_order-2.ensures c.in_order-3.ensures c.eval.ensures.grown in
    let both = c.cost_laws.ensures.older s late c.in_order.ensures c.in_order-3.ensures all in
    let v = c.in_ok-to.to in
    let u = c.in_ok-from.from in
    let flows = flows_within c.cost_laws.ensures.flows c.growth_laws.ensures.older s mid late to c.args.sign tree v u c.in_order.ensures c.in_order-2.ensures c.in_order-3.ensures c.in_ok-to.ensures.value.0 c.in_ok-to.ensures.value.1 c.in_ok-from.ensures.value.0 c.assigned_to.ensures.grown c.eval.ensures.grown all in
    assigned_within c.growth_laws.ensures.older s mid late to c.args.sign tree c.args.steps.now c.assigned_to.new.steps c.eval.new.steps c.assign.new.steps v u
    (following_steps (engine_of late) (followers late.arrays.world late.flows v) (size_of (dims_in late.arrays.world v)) (assigned c.args.sign late.arrays v u))
    c.in_order.ensures.whole c.in_order-3.ensures.whole c.in_ok-to.ensures.value.0 c.in_ok-to.ensures.value.1 c.in_ok-from.ensures.value.0 c.assigned_to.ensures.grown c.eval.ensures.grown all next both
    c.in_ok-to.ensures.within (names_less s mid c.assigned_to.ensures.grown.names (names_live s c.in_order.ensures.whole) first tree) c.in_ok-from.ensures.within c.assign.ensures.counted flows

pub assign-requires-clause-unflowed : goal.assign-requires-clause-unflowed
assign-requires-clause-unflowed g c =
    late_unflowed c.growth_laws.ensures.older c.assigned_to.new.scope c.eval.new.scope c.in_ok-to.to c.eval.ensures.grown c.in_order-3.ensures.whole c.in_ok-to.ensures.value.1 c.in_ok-to.ensures.unflowed

pub returns-clause-flowing : goal.returns-clause-flowing
returns-clause-flowing g c =
    let s = c.args.scope.now in
    let mid = c.assigned_to.new.scope in
    let late = c.eval.new.scope in
    let to = target c.args.to.now.name (map view_of c.args.to.now.views.items) in
    subst (λ (fs : Flows). c.assign.new.runs ≤ c.args.runs.now + length fs)
    (assigned_affected c.growth_laws.ensures.older s mid late to c.in_ok-to.to c.in_ok-to.ensures.value.0 c.in_ok-to.ensures.value.1 c.assigned_to.ensures.grown c.eval.ensures.grown c.in_order-2.ensures.whole c.in_order-3.ensures.whole)
    c.assign.ensures.affected

pub returns-clause-bare : goal.returns-clause-bare
returns-clause-bare g c =
    let bare : c.is_empty-is_bare.result ≡ (length c.args.to.now.views.items == 0) = subst (λ (vs : List ViewCall). c.is_empty-is_bare.result ≡ (length vs == 0)) c.deref-views.ensures.value c.is_empty-is_bare.ensures in
    bare_noted c.assign.result c.args.to.now.views.items c.args.to.now.name c.args.sign (tree_of c.args.value.now) c.args.scope.now c.assigned_to.new.scope c.args.steps.now c.assigned_to.new.steps c.in_ok-to.to
    c.is_empty-is_bare.result c.then_some.result bare c.in_ok-to.ensures.bare c.then_some.ensures
