use Rattle.std.proofs.Common.{refl, ◌≡◌, ◌<◌, ◌+◌, List, Ok, get_or, length, take, sym, ap, subst, ◌∙◌, arith}
use Rattle.std.specs.Prelude.{map}
use Rattle.std.proofs.lemmas.List.{length-map, get_or-map}
use Rattle.pdl_syntax.specs.declared.tree.ViewCall.{ViewCall}
use Rattle.pdl_syntax.specs.WellMade.{AreArgArrays}
use Rattle.pdl_syntax.specs.StatementTree.{View, view_of}
use Rattle.pdl_machine.specs.declared.fault.Fault.TheVariants.{UnknownName}
use Rattle.pdl_machine.specs.Names.{Names}
use Rattle.pdl_machine.specs.Step.{target}
use Rattle.pdl_machine.specs.Value.{known, value_of}
use Rattle.pdl_scope.specs.declared.fault.ScopeFault.TheVariants.{Script}
use Rattle.pdl_scope.specs.Answers.{IsFault}
use Rattle.pdl_session.proofs.ScopeFacts.{hands_on, grows_trans}
use Rattle.pdl_scope.specs.Growth.{grows_refl}
use Rattle.pdl_session.proofs.CostExpressions.{args_less, names_live, pays_fault, unmoved_within}
use Rattle.pdl_session.proofs.MoveLemmas.{named_ready, view_refused, viewed_more, views_part}
use Rattle.pdl_engine.specs.State.{ready_steps}
use Rattle.pdl_scope.specs.Scope.{engine_of}
use Rattle.pdl_scope.specs.Costs.{MovesUpTo}
use Rattle.pdl_session.specs.Came.{evaluated}
use Rattle.pdl_session.specs.Costs.{argued_steps, named_steps}
use Rattle.pdl_session.proofs.ArgumentTargets.{called, target_more, fault_at}
use Rattle.pdl_session.proofs.target.target.Goals as goal

pub returns-in-None-clause-value : goal.returns-in-None-clause-value
returns-in-None-clause-value g c =
    fault_at c.args.scope.now.names c.args.scope.now.arrays c.args.target.now.name c.args.target.now.views.items 0 (Script UnknownName) (ap (known c.args.scope.now.arrays) (sym c.number_of.ensures.number ∙ c.in-None.is))

pub call_on-requires-clause-made : goal.call_on-requires-clause-made
call_on-requires-clause-made g c =
    let vs = c.args.target.now.views.items in
    let i = c.loop-view.view-index in
    let v = c.view-item.result in
    let lt : i < length vs = omega arith in
    let within : i < length (map view_of vs) = (let n : length (map view_of vs) ≡ length vs = length-map vs view_of in omega arith) in
    let at : c.view-item.result ≡ get_or c.args.target.now.views.items c.loop-view.view-index c.view-item.result = subst (λ (l : List ViewCall). c.view-item.result ≡ get_or l c.loop-view.view-index c.view-item.result) c.deref-view-items.ensures.value c.view-item.is in
    subst (λ (w : View). AreArgArrays w.1) (get_or-map view_of vs i v (view_of v) lt ∙ ap view_of (sym at)) (c.requires i (view_of v) within)

pub returns-in_err-id-clause-value : goal.returns-in_err-id-clause-value
returns-in_err-id-clause-value g c =
    let names = c.args.scope.now.names in
    let a = c.args.scope.now.arrays in
    let x = c.args.target.now.name in
    let vs = c.args.target.now.views.items in
    let i = c.loop-view.view-index in
    let f = c.in_err-id.field-0.0 in
    let so_far = target x (map view_of (take i vs)) in
    let at : c.view-item.result ≡ get_or c.args.target.now.views.items c.loop-view.view-index c.view-item.result = subst (λ (l : List ViewCall). c.view-item.result ≡ get_or l c.loop-view.view-index c.view-item.result) c.deref-view-items.ensures.value c.view-item.is in
    let here : IsFault (value_of names a (called so_far (view_of c.view-item.result))) f =
    subst (λ (n : Names). IsFault (value_of n a (called so_far (view_of c.view-item.result))) f) c.loop-view.invariant.grown.names (c.in_err-id.ensures.value a so_far (subst (λ (n : Names). value_of n a so_far ≡ Ok (c.loop-view.scope.arrays, c.loop-view.id)) (sym c.loop-view.invariant.grown.names) c.loop-view.invariant.so_far)) in
    let more : target x (map view_of (take (i + 1) vs)) ≡ called so_far (view_of c.view-item.result) = target_more x vs i c.view-item.result (omega arith) at in
    let h : IsFault (value_of names a (target x (map view_of vs))) f = fault_at names a x vs (i + 1) f (rw more here) in
    hands_on _ c.call_on.new.scope f c.from_residual.result c.from_residual.ensures.1 h

pub loop-view-preserved : goal.loop-view-preserved
loop-view-preserved g c =
    let names = c.args.scope.now.names in
    let a = c.args.scope.now.arrays in
    let x = c.args.target.now.name in
    let vs = c.args.target.now.views.items in
    let i = c.loop-view.view-index in
    let so_far = target x (map view_of (take i vs)) in
    let costs = c.cost_laws.ensures.older c.args.scope.now c.loop-view.scope c.in_order.ensures c.in_order-in-loop-view.ensures c.loop-view.invariant.grown in
    let fewer = args_less c.args.scope.now c.loop-view.scope c.loop-view.invariant.grown.names (names_live c.args.scope.now c.in_order.ensures.whole) costs (view_of c.view-item.result).1 in
    let at : c.view-item.result ≡ get_or c.args.target.now.views.items c.loop-view.view-index c.view-item.result = subst (λ (l : List ViewCall). c.view-item.result ≡ get_or l c.loop-view.view-index c.view-item.result) c.deref-view-items.ensures.value c.view-item.is in
    let N : Names → Type 0 = λ n. value_of n a so_far ≡ Ok (c.loop-view.scope.arrays, c.loop-view.id) in
    let here : value_of names a (called so_far (view_of c.view-item.result)) ≡ Ok (c.call_on.new.scope.arrays, c.in_ok-id.id) =
    subst (λ (n : Names). value_of n a (called so_far (view_of c.view-item.result)) ≡ Ok (c.call_on.new.scope.arrays, c.in_ok-id.id)) c.loop-view.invariant.grown.names (c.in_ok-id.ensures.value a so_far (subst N (sym c.loop-view.invariant.grown.names) c.loop-view.invariant.so_far)).0 in
    let more : target x (map view_of (take (i + 1) vs)) ≡ called so_far (view_of c.view-item.result) = target_more x vs i c.view-item.result (omega arith) at in
    record {
      so_far = ap (value_of names a) more ∙ here;
      grown = grows_trans c.args.scope.now c.loop-view.scope c.call_on.new.scope c.loop-view.invariant.grown c.call_on.ensures.grown;
      live = (c.in_ok-id.ensures.value a so_far (subst N (sym c.loop-view.invariant.grown.names) c.loop-view.invariant.so_far)).1;
      within = viewed_more c.args.scope.now c.loop-view.scope c.call_on.new.scope x vs i c.view-item.result c.args.steps.now c.loop-view.steps c.call_on.new.steps c.loop-view.id c.in_ok-id.id (omega arith) at fewer c.loop-view.invariant.within (c.in_ok-id.ensures.within a so_far (subst N (sym c.loop-view.invariant.grown.names) c.loop-view.invariant.so_far));
      begun = λ none. absurd (omega (arith, none));
    }

pub returns-in-None-clause-bare : goal.returns-in-None-clause-bare
returns-in-None-clause-bare g c = λ none. record { same = refl; unmoved = refl; is = tt }

pub returns-in_err-id-clause-bare : goal.returns-in_err-id-clause-bare
returns-in_err-id-clause-bare g c = λ none.
    let count : length c.args.target.now.views.items ≡ 0 = ap length none in
    absurd (omega (arith, count))

pub returns-clause-bare : goal.returns-clause-bare
returns-clause-bare g c = λ none.
    let count : length c.args.target.now.views.items ≡ 0 = ap length none in
    c.loop-view.invariant.begun (omega (arith, count))

pub loop-view-init : goal.loop-view-init
loop-view-init g c =
    let s = c.args.scope.now in
    let known_as = sym c.number_of.ensures.number ∙ c.in-Some.is in
    record {
      so_far = ap (known s.arrays) known_as;
      grown = grows_refl s;
      live = c.in-Some.ensures.live;
      within = named_ready s c.args.target.now.name c.in-Some.id c.args.steps.now known_as;
      begun = λ none. record { same = refl; unmoved = refl; is = known_as };
    }

pub returns-in-None-clause-within : goal.returns-in-None-clause-within
returns-in-None-clause-within g c =
    let s = c.args.scope.now in
    let all = target c.args.target.now.name (map view_of c.args.target.now.views.items) in
    unmoved_within s.names s all (named_steps s all) c.args.steps.now

pub returns-in_err-id-clause-within : goal.returns-in_err-id-clause-within
returns-in_err-id-clause-within g c =
    let s = c.args.scope.now in
    let mid = c.loop-view.scope in
    let new = c.call_on.new.scope in
    let x = c.args.target.now.name in
    let vs = c.args.target.now.views.items in
    let v = c.view-item.result in
    let at : v ≡ get_or vs c.loop-view.view-index v = subst (λ (l : List ViewCall). v ≡ get_or l c.loop-view.view-index v) c.deref-view-items.ensures.value c.view-item.is in
    let costs = c.cost_laws.ensures.older s mid c.in_order.ensures c.in_order-in-loop-view.ensures c.loop-view.invariant.grown in
    let same = c.loop-view.invariant.grown.names in
    let fewer = args_less s mid same (names_live s c.in_order.ensures.whole) costs (view_of v).1 in
    let so_far = target x (map view_of (take c.loop-view.view-index vs)) in
    let all = target x (map view_of vs) in
    let valued : value_of mid.names s.arrays so_far ≡ Ok (mid.arrays, c.loop-view.id) = subst (λ (n : Names). value_of n s.arrays so_far ≡ Ok (mid.arrays, c.loop-view.id)) (sym same) c.loop-view.invariant.so_far in
    let N : Names → Type 0 = λ n. MovesUpTo (argued_steps mid (view_of v).1 + ready_steps (engine_of mid) c.loop-view.id) mid (evaluated n s.arrays (called so_far (view_of v))) c.loop-view.steps c.call_on.new.steps in
    pays_fault (ready_steps (engine_of new)) (named_steps s all) s new (evaluated s.names s.arrays all) c.args.steps.now c.call_on.new.steps c.in_err-id.field-0.0 c.from_residual.result c.from_residual.ensures.1
    (view_refused s mid x vs c.loop-view.view-index v c.args.steps.now c.loop-view.steps c.call_on.new.steps c.loop-view.id (omega arith) at fewer c.loop-view.invariant.within (subst N same (c.in_err-id.ensures.within s.arrays so_far valued)))

pub returns-clause-within : goal.returns-clause-within
returns-clause-within g c =
    let part = views_part c.args.scope.now c.args.target.now.name c.args.target.now.views.items c.loop-view.view-index in
    omega (arith, c.loop-view.invariant.within, part)
