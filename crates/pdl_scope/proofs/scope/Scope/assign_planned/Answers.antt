use Rattle.std.proofs.Common.{◌≡◌, ◌+◌, ◌≤◌, ℕ, Bool, true, false, refl, List, [], ◌∷◌, Ok, sym, ap, subst, ◌∙◌, arith}
use Rattle.std.specs.Prelude.{sum_by}
use Rattle.pdl_shape.specs.Shape.{size_of}
use Rattle.pdl_world.specs.Paths.{root_of}
use Rattle.pdl_world.specs.Sound.{IsSound}
use Rattle.pdl_world.specs.World.{World, assign, dims_in}
use Rattle.pdl_engine.specs.Reading.{KeepsViews, read_steps}
use Rattle.pdl_engine.specs.State.{State as Engine}
use Rattle.pdl_machine.specs.Flows.{Flows, affected, followers, is_flow}
use Rattle.pdl_machine.specs.State.{State, with_arrays, AreLive}
use Rattle.pdl_machine.specs.Step.{assigned, flowed}
use Rattle.pdl_machine.specs.Then.{and_then}
use Rattle.pdl_machine.specs.Watches.{Watches, attached}
use Rattle.pdl_scope.specs.Answers.{Prints}
use Rattle.pdl_scope.specs.FlowCosts.{following_steps}
use Rattle.pdl_scope.specs.Plans.{AllCanAssign, IsPlan, all_assigned, values_in}
use Rattle.pdl_scope.specs.Scope.{arrays_of, engine_of, machine, names_in, state_in, IsHeld, Scope as Seen}
use Rattle.pdl_scope.specs.declared.following.Change.{Change}
use Rattle.pdl_scope.proofs.LetGoBounds.{read_views}
use Rattle.pdl_scope.proofs.CostLemmas.{all_no_dearer, never_dearer}
use Rattle.pdl_scope.proofs.FlowCostLemmas.{following_readied}
use Rattle.pdl_scope.proofs.ScopeFlowed.{Laws, flows_after, held_planned, plan_followed, planned_views, values_flowed}
use Rattle.pdl_scope.proofs.ScopeGrowing.{readied}
use Rattle.pdl_scope.proofs.HoldingLemmas.{numbers, held_readied}
use Rattle.pdl_scope.proofs.PlanLemmas.{planned_kept}
use Rattle.pdl_scope.proofs.ScopeWatches.{live_back}
use Rattle.pdl_scope.proofs.scope.Scope.assign_planned.Goals as goal

pub planned-requires-clause-watched : goal.planned-requires-clause-watched
planned-requires-clause-watched g c =
    let ws = c.self.inside.watches.items in
    let w = c.self.inside.engine.world in
    let L : World → Type 0 = λ u. AreLive u (attached ws) in
    let W : Watches → Type 0 = λ us. AreLive c.written-found.new.engine.world (attached us) in
    subst W (sym c.deref.ensures.value) (subst L (sym c.written-found.ensures.same.world) (live_back w (numbers c.self.inside.names.entries) (attached ws) c.self.invariant.whole.live))

-- where none follows that was found
not_found : (b : Bool) → (b ≡ true → ⊥) → b ≡ false
not_found true none = absurd (none refl)
not_found false none = refl

pub planned-requires-clause-read : goal.planned-requires-clause-read
planned-requires-clause-read g c = λ none.
    let v = c.args.target in
    let t = c.written-found.new.engine in
    let fs = c.self.inside.flows.items in
    let here : affected t.world fs (root_of t.world v ∷ []) ≡ [] = ap (λ (gs : Flows). affected t.world gs (root_of t.world v ∷ [])) (sym c.deref-2.ensures.value) ∙ none in
    let asked : affected c.self.inside.engine.world fs (root_of c.self.inside.engine.world v ∷ []) ≡ [] = ap (λ (w : World). affected w fs (root_of w v ∷ [])) (sym c.written-found.ensures.same.world) ∙ here in
    not_found c.has_followers-is_read.result (λ t. c.has_followers-is_read.ensures t (subst (λ (s : Seen). followers s.arrays.world s.flows v ≡ []) c.self.view_is asked))

pub foreseen-requires-clause-watched : goal.foreseen-requires-clause-watched
foreseen-requires-clause-watched g c =
    let ws = c.self.inside.watches.items in
    let w = c.self.inside.engine.world in
    let L : World → Type 0 = λ u. AreLive u (attached ws) in
    let W : Watches → Type 0 = λ us. AreLive c.planned.new.engine.world (attached us) in
    subst W (sym c.deref-4.ensures.value) (subst L (sym (c.planned.ensures.same.world ∙ c.written-found.ensures.same.world)) (live_back w (numbers c.self.inside.names.entries) (attached ws) c.self.invariant.whole.live))

pub assign_all-requires-clause-can : goal.assign_all-requires-clause-can
assign_all-requires-clause-can g c =
    let e = c.foreseen.new.engine in
    (planned_kept c.planned.new.engine e c.foreseen.ensures.same c.foreseen.ensures.stay c.in_ok-plan.plan.items c.in_ok-plan.ensures.plan.made).can

pub invariant_of-self-2 : goal.invariant_of-self-2
invariant_of-self-2 g c =
    let laws : Laws = record {
      plans = record { looks = c.assign_elements_laws.ensures.looks; reads = c.assign_elements_laws.ensures.reads; wholes = c.assign_elements_laws.ensures.wholes; others = c.assign_elements_laws.ensures.others };
      paths = c.assign_elements_laws.ensures.paths;
      numbers = c.assign_elements_laws.ensures.numbers;
      sound = c.assign_elements_laws.ensures.sound;
      keeps = c.assign_elements_laws.ensures.keeps;
      follow = c.assign_elements_laws.ensures.follow;
      only = c.assign_elements_laws.ensures.affected;
    } in
    let names = names_in c.self.inside.names.entries c.self.inside.kernels in
    let ws = c.self.inside.watches.items in
    let fs = c.self.inside.flows.items in
    let e = c.self.inside.engine in
    let t = c.written-found.new.engine in
    let n = c.assign_all.new.engine in
    let v = c.args.target in
    let vs = c.in-Ok.values in
    let cs = c.in_ok-plan.plan.items in
    let leaving = c.self.inside.leaving.items in
    let held : IsHeld (state_in names ws fs t) t.holds leaving = held_readied names ws fs e t leaving c.written-found.ensures.same c.self.invariant in
    let plan : IsPlan t fs v vs c.planned.new.engine cs = subst (λ (gs : Flows). IsPlan t gs v vs c.planned.new.engine cs) c.deref-2.ensures.value c.in_ok-plan.ensures.plan in
    let none : is_flow fs (root_of t.world v) ≡ false = ap (λ (w : World). is_flow fs (root_of w v)) c.written-found.ensures.same.world ∙ subst (λ (s : Seen). is_flow s.flows (root_of s.arrays.world v) ≡ false) (sym c.self.view_is) c.requires.unflowed in
    let sound : IsSound (assign t.world v vs) = c.assign_elements_laws.ensures.sound t.world v vs held.whole.sound c.in-Ok.ensures.made.in_range in
    let world : n.world ≡ all_assigned t.world cs = c.assign_all.ensures.world ∙ ap (λ (w : World). all_assigned w cs) (c.foreseen.ensures.same.world ∙ c.planned.ensures.same.world) in
    let holds : n.holds ≡ t.holds = c.assign_all.ensures.holds ∙ c.foreseen.ensures.same.holds ∙ c.planned.ensures.same.holds in
    let next : n.next ≡ t.next = c.assign_all.ensures.next ∙ c.foreseen.ensures.same.next ∙ c.planned.ensures.same.next in
    let is = plan_followed laws names ws fs t n c.planned.new.engine v vs cs held.whole sound none plan world next in
    held_planned laws names ws fs t n cs leaving held world holds next c.assign_all.ensures.sound (flows_after laws names ws fs t n v vs held.whole sound is)

pub returns-clause-runs : goal.returns-clause-runs
returns-clause-runs g c =
    let laws : Laws = record {
      plans = record { looks = c.assign_elements_laws.ensures.looks; reads = c.assign_elements_laws.ensures.reads; wholes = c.assign_elements_laws.ensures.wholes; others = c.assign_elements_laws.ensures.others };
      paths = c.assign_elements_laws.ensures.paths;
      numbers = c.assign_elements_laws.ensures.numbers;
      sound = c.assign_elements_laws.ensures.sound;
      keeps = c.assign_elements_laws.ensures.keeps;
      follow = c.assign_elements_laws.ensures.follow;
      only = c.assign_elements_laws.ensures.affected;
    } in
    let names = names_in c.self.inside.names.entries c.self.inside.kernels in
    let ws = c.self.inside.watches.items in
    let fs = c.self.inside.flows.items in
    let e = c.self.inside.engine in
    let t = c.written-found.new.engine in
    let n = c.assign_all.new.engine in
    let v = c.args.target in
    let vs = c.in-Ok.values in
    let cs = c.in_ok-plan.plan.items in
    let leaving = c.self.inside.leaving.items in
    let held : IsHeld (state_in names ws fs t) t.holds leaving = held_readied names ws fs e t leaving c.written-found.ensures.same c.self.invariant in
    let plan : IsPlan t fs v vs c.planned.new.engine cs = subst (λ (gs : Flows). IsPlan t gs v vs c.planned.new.engine cs) c.deref-2.ensures.value c.in_ok-plan.ensures.plan in
    let none : is_flow fs (root_of t.world v) ≡ false = ap (λ (w : World). is_flow fs (root_of w v)) c.written-found.ensures.same.world ∙ subst (λ (s : Seen). is_flow s.flows (root_of s.arrays.world v) ≡ false) (sym c.self.view_is) c.requires.unflowed in
    let sound : IsSound (assign t.world v vs) = c.assign_elements_laws.ensures.sound t.world v vs held.whole.sound c.in-Ok.ensures.made.in_range in
    let world : n.world ≡ all_assigned t.world cs = c.assign_all.ensures.world ∙ ap (λ (w : World). all_assigned w cs) (c.foreseen.ensures.same.world ∙ c.planned.ensures.same.world) in
    let holds : n.holds ≡ t.holds = c.assign_all.ensures.holds ∙ c.foreseen.ensures.same.holds ∙ c.planned.ensures.same.holds in
    let next : n.next ≡ t.next = c.assign_all.ensures.next ∙ c.foreseen.ensures.same.next ∙ c.planned.ensures.same.next in
    let is = plan_followed laws names ws fs t n c.planned.new.engine v vs cs held.whole sound none plan world next in
    let same = readied names ws fs e t c.written-found.ensures.same ∙ ap machine c.self.view_is in
    let P : State → Type 0 = λ s. Prints (and_then (assigned c.args.sign s.arrays v c.args.value) (λ a. Ok (flowed (with_arrays s a), []))) (state_in names ws fs n) [] [] in
    subst P same (values_flowed c.args.sign names ws fs t n v c.args.value vs c.in-Ok.ensures.value is)

pub returns-clause-views : goal.returns-clause-views
returns-clause-views g c =
    let e = c.self.inside.engine in
    let t = c.written-found.new.engine in
    let p = c.planned.new.engine in
    let late = c.foreseen.new.engine in
    let P : Seen → Type 0 = λ s. KeepsViews c.assign_all.new.engine.world s.arrays.world in
    subst P c.self.view_is (λ v is.
    read_views e t c.written-found.ensures.same v (read_views t p c.planned.ensures.same v (read_views p late c.foreseen.ensures.same v
    (planned_views c.assign_elements_laws.ensures.looks late.world c.assign_all.new.engine.world c.in_ok-plan.plan.items c.assign_all.ensures.world v is))))

pub returns-in-Err-clause-counted : goal.returns-in-Err-clause-counted
returns-in-Err-clause-counted g c =
    let v = c.args.target in
    let u = c.args.value in
    let e = c.self.inside.engine in
    let t = c.written-found.new.engine in
    let ws = c.self.inside.watches.items in
    let fs = c.self.inside.flows.items in
    let P : Seen → Type 0 = λ s. c.written-found.new.steps ≤ c.args.steps.now + (read_steps (engine_of s) v + read_steps (engine_of s) u) + sum_by (read_steps (engine_of s)) (attached s.watches) + size_of (dims_in s.arrays.world v)
    + following_steps (engine_of s) (followers s.arrays.world s.flows v) (size_of (dims_in s.arrays.world v)) (assigned c.args.sign s.arrays v u) in
    let found = c.written-found.ensures.counted in
    subst P c.self.view_is (omega (arith, found))

pub returns-in_err-plan-clause-counted : goal.returns-in_err-plan-clause-counted
returns-in_err-plan-clause-counted g c =
    let v = c.args.target in
    let u = c.args.value in
    let e = c.self.inside.engine in
    let t = c.written-found.new.engine in
    let ws = c.self.inside.watches.items in
    let fs = c.self.inside.flows.items in
    let P : Seen → Type 0 = λ s. c.planned.new.steps ≤ c.args.steps.now + (read_steps (engine_of s) v + read_steps (engine_of s) u) + sum_by (read_steps (engine_of s)) (attached s.watches) + size_of (dims_in s.arrays.world v)
    + following_steps (engine_of s) (followers s.arrays.world s.flows v) (size_of (dims_in s.arrays.world v)) (assigned c.args.sign s.arrays v u) in
    let found = c.written-found.ensures.counted in
    let follow = following_readied e t fs c.deref-2.result.now c.args.sign v u c.in-Ok.values c.written-found.ensures.costs c.written-found.ensures.same c.self.invariant.whole.flows c.deref-2.ensures.value c.in-Ok.ensures.value in
    let planned = c.planned.ensures.counted in
    subst P c.self.view_is (omega (arith, found, planned, follow))

pub returns-in_err-all-clause-counted : goal.returns-in_err-all-clause-counted
returns-in_err-all-clause-counted g c =
    let v = c.args.target in
    let u = c.args.value in
    let e = c.self.inside.engine in
    let t = c.written-found.new.engine in
    let ws = c.self.inside.watches.items in
    let fs = c.self.inside.flows.items in
    let P : Seen → Type 0 = λ s. c.foreseen.new.steps ≤ c.args.steps.now + (read_steps (engine_of s) v + read_steps (engine_of s) u) + sum_by (read_steps (engine_of s)) (attached s.watches) + size_of (dims_in s.arrays.world v)
    + following_steps (engine_of s) (followers s.arrays.world s.flows v) (size_of (dims_in s.arrays.world v)) (assigned c.args.sign s.arrays v u) in
    let found = c.written-found.ensures.counted in
    let p = c.planned.new.engine in
    let follow = following_readied e t fs c.deref-2.result.now c.args.sign v u c.in-Ok.values c.written-found.ensures.costs c.written-found.ensures.same c.self.invariant.whole.flows c.deref-2.ensures.value c.in-Ok.ensures.value in
    let told : c.foreseen.new.steps ≤ c.planned.new.steps + sum_by (read_steps p) (attached ws) =
    subst (λ (us : Watches). c.foreseen.new.steps ≤ c.planned.new.steps + sum_by (read_steps p) (attached us)) c.deref-4.ensures.value c.foreseen.ensures.counted in
    let less = all_no_dearer e p (attached ws) (never_dearer e t p c.written-found.ensures.same c.written-found.ensures.costs c.in_ok-plan.ensures.costs) (live_back e.world (numbers c.self.inside.names.entries) (attached ws) c.self.invariant.whole.live) in
    let planned = c.planned.ensures.counted in
    subst P c.self.view_is (omega (arith, found, told, less, planned, follow))

pub returns-clause-counted : goal.returns-clause-counted
returns-clause-counted g c =
    let v = c.args.target in
    let u = c.args.value in
    let e = c.self.inside.engine in
    let t = c.written-found.new.engine in
    let ws = c.self.inside.watches.items in
    let fs = c.self.inside.flows.items in
    let P : Seen → Type 0 = λ s. c.assign_all.new.steps ≤ c.args.steps.now + (read_steps (engine_of s) v + read_steps (engine_of s) u) + sum_by (read_steps (engine_of s)) (attached s.watches) + size_of (dims_in s.arrays.world v)
    + following_steps (engine_of s) (followers s.arrays.world s.flows v) (size_of (dims_in s.arrays.world v)) (assigned c.args.sign s.arrays v u) in
    let found = c.written-found.ensures.counted in
    let p = c.planned.new.engine in
    let follow = following_readied e t fs c.deref-2.result.now c.args.sign v u c.in-Ok.values c.written-found.ensures.costs c.written-found.ensures.same c.self.invariant.whole.flows c.deref-2.ensures.value c.in-Ok.ensures.value in
    let told : c.foreseen.new.steps ≤ c.planned.new.steps + sum_by (read_steps p) (attached ws) =
    subst (λ (us : Watches). c.foreseen.new.steps ≤ c.planned.new.steps + sum_by (read_steps p) (attached us)) c.deref-4.ensures.value c.foreseen.ensures.counted in
    let less = all_no_dearer e p (attached ws) (never_dearer e t p c.written-found.ensures.same c.written-found.ensures.costs c.in_ok-plan.ensures.costs) (live_back e.world (numbers c.self.inside.names.entries) (attached ws) c.self.invariant.whole.live) in
    let paid = c.in_ok-plan.ensures.paid in
    let size : size_of (dims_in t.world v) ≡ size_of (dims_in e.world v) = ap (λ (w : World). size_of (dims_in w v)) c.written-found.ensures.same.world in
    let moved = c.assign_all.ensures.counted in
    subst P c.self.view_is (omega (arith, found, told, less, paid, follow, size, moved))
