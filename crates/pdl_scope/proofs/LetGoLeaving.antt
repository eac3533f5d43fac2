-- Where no array that leaves has a flow's root as its root, each flow stays.
use Rattle.std.proofs.Common.{◌≡◌, ℕ, zero, suc, ◌+◌, ◌-◌, ◌<◌, ◌≤◌, List, [], ◌∷◌, ◌++◌, length, Bool, true, false, Option, Some, inl, inr, refl, sym, ap, subst, ◌∙◌, arith, eqb-true, eq-eqb}
use Rattle.std.specs.Prelude.{◌==◌, ◌⊎◌, if◌then◌else◌, is_some, slice_get, IsSomeAnd, option_and_then}
use Rattle.std.specs.Option.{option_map_or}
use Rattle.pdl_lemmas.specs.Tests.{by_test}
use Rattle.pdl_world.specs.Paths.{root_of}
use Rattle.pdl_world.specs.Sound.{IsAllowed, IsLive, IsSound, NumbersBelow}
use Rattle.pdl_world.specs.SweepLaws.{IsSeenAsBefore}
use Rattle.pdl_world.specs.Swept.{is_listed, sweep, Has, IsReached, held_itself, parent_of}
use Rattle.pdl_world.specs.World.{World, ArrayDef, Look, look, through, view}
use Rattle.pdl_world.specs.declared.Trans.{Trans}
use Rattle.pdl_engine.specs.Held.{AllHaveHolds, count_at}
use Rattle.pdl_engine.specs.HoldLaws.{OthersDontCount}
use Rattle.pdl_engine.specs.State.{State as Engine}
use Rattle.pdl_machine.specs.Arrays.{Arrays}
use Rattle.pdl_machine.specs.Flows.{Flow, Flows, all_read, is_flow}
use Rattle.pdl_machine.specs.Following.{AreFlows, IsFlow}
use Rattle.pdl_machine.specs.State.{AreLive}
use Rattle.pdl_scope.specs.Flowing.{have_flow}
use Rattle.pdl_scope.specs.Holding.{AreHeld, LetsGo}
use Rattle.pdl_scope.specs.LetGo.{HasFlows, KeepsNeeded, without_at}
use Rattle.pdl_scope.specs.Scope.{arrays_of}
use Rattle.pdl_scope.proofs.LetGoBounds.{has_live}
use Rattle.pdl_scope.proofs.CostsDearer.{live_below, past_look, through_root}
use Rattle.pdl_scope.proofs.FlowingStays.{flow_live, flow_root, listed_split, seen_live}
use Rattle.pdl_scope.proofs.HoldingLemmas.{all_gone, all_live, counted_known, lets_go_refl, live_some, some_live}
use Rattle.pdl_scope.proofs.LetGoNeeds.{Laws, AreAsked, all_asked, asked_more, none_asked}
use Rattle.pdl_scope.proofs.CostNewest.{new_live}

-- ---- a view has the root of its parent

has_below : (w : World) (n k : ℕ) (d : ArrayDef) → NumbersBelow n w → Has w k d → k < n
has_below [] n k d below there = absurd there
has_below ((j, e) ∷ w) n k d below (inl same) = subst (λ i. i < n) same.0 below.0
has_below ((j, e) ∷ w) n k d below (inr there) = has_below w n k d below.1 there

parent_below : (w : World) (n k p : ℕ) (t : Trans) → IsSound w → NumbersBelow n w → Has w k (view p t) → p < n
parent_below [] n k p t sound below there = absurd there
parent_below ((j, d) ∷ w) n k p t sound below (inl same) =
    let allowed : IsAllowed w (view p t) = subst (IsAllowed w) same.1 sound.1 in
    let low : p < j = live_below w j p sound.0 allowed.live in
    let up : j < n = below.0 in
    omega (arith, low, up)
parent_below ((j, d) ∷ w) n k p t sound below (inr there) = parent_below w n k p t sound.2 below.1 there

root_past : (k : ℕ) (d : ArrayDef) (w : World) (v : ℕ) → v < k → root_of ((k, d) ∷ w) v ≡ root_of w v
root_past k d w v low = ap (λ (o : Option Look). option_map_or (λ l. l.root) o v) (past_look k d w v (λ same. absurd (omega (arith, same, low))))

newest_root : (w : World) (k p : ℕ) (t : Trans) → IsSound ((k, view p t) ∷ w) → root_of ((k, view p t) ∷ w) k ≡ root_of ((k, view p t) ∷ w) p
newest_root w k p t sound =
    let there : IsLive ((k, view p t) ∷ w) k = new_live w k p t sound in
    let family : root_of ((k, view p t) ∷ w) k ≡ root_of w p = (let inside : IsSomeAnd (option_and_then (through t) (look w p)) (λ l. Unit {0}) = rw (eq-eqb k k refl) at there in rw (eq-eqb k k refl) (through_root t (look w p) k p inside)) in
    family ∙ sym (root_past k (view p t) w p (live_below w k p sound.0 sound.1.live))

abbrev entry : ℕ → ArrayDef → World → World
entry n d w = (n, d) ∷ w

parent_root : (w : World) (k p : ℕ) (t : Trans) → IsSound w → Has w k (view p t) → root_of w k ≡ root_of w p
parent_root [] k p t sound there = absurd there
parent_root ((j, d) ∷ w) k p t sound (inl same) =
    let e : entry j d w ≡ entry k (view p t) w = both same.0 same.1 in
    subst (λ (u : World). root_of u k ≡ root_of u p) (sym e) (newest_root w k p t (subst IsSound e sound))
  where
    both : {n m : ℕ} {x y : ArrayDef} → n ≡ m → x ≡ y → entry n x w ≡ entry m y w
    both a b = cc
parent_root ((j, d) ∷ w) k p t sound (inr there) =
    root_past j d w k (has_below w j k (view p t) sound.0 there) ∙ parent_root w k p t sound.2 there ∙ sym (root_past j d w p (parent_below w j k p t sound.2 sound.0 there))

-- ---- what reaches a root

-- one of these arrays has the root of v
record HaveRoot (w : World) (vs : List ℕ) (v : ℕ) : Type 0 where
  pub one : ℕ
  pub listed : is_listed vs one ≡ true
  pub root : root_of w one ≡ root_of w v

-- what two lists reach is reached by the first, or has the root of one of the second
reached_or_rooted : (w : World) (xs ys : List ℕ) (v : ℕ) → IsSound w → IsReached w (xs ++ ys) v → IsReached w xs v ⊎ HaveRoot w ys v
reached_or_rooted w xs ys v sound (held_itself k t) = elim (listed_split xs ys k t) [
  | inl front ↦ inl (held_itself k front)
  | inr back ↦ inr (record { one = k; listed = back; root = refl })
]
reached_or_rooted w xs ys v sound (parent_of k p t there reached) = elim (reached_or_rooted w xs ys k sound reached) [
  | inl front ↦ inl (parent_of k p t there front)
  | inr h ↦ inr (record { one = h.one; listed = h.listed; root = h.root ∙ parent_root w k p t sound there })
]

-- where none of these has a flow's root, each of them has another one
none_has : (w : World) (flows : Flows) (vs : List ℕ) (u : ℕ) → have_flow w flows vs ≡ false → is_listed vs u ≡ true → is_flow flows (root_of w u) ≡ false
none_has w flows [] u none t = cc
none_has w flows (v ∷ vs) u none t = by_test (is_flow flows (root_of w v))
    (λ on. let bad : true ≡ false = rw on at none in absurd (cc))
    (λ off. by_test (v == u)
    (λ same. ap (λ n. is_flow flows (root_of w n)) (sym (eqb-true v u same)) ∙ off)
    (λ other. none_has w flows vs u (rw off at none) (rw other at t)))

-- ---- the flows

flow_at_place : (a : Arrays) (flows : Flows) (at : ℕ) (f : Flow) → AreFlows a flows → slice_get flows at ≡ Some f → IsFlow a f × (is_flow flows f.root ≡ true)
flow_at_place a [] at f h is = cc
flow_at_place a (x ∷ flows) zero f h is =
    let same : x ≡ f = cc in
    let self : (x.root == x.root) ≡ true = eq-eqb x.root x.root refl in
    subst (λ (y : Flow). IsFlow a y × (is_flow (x ∷ flows) y.root ≡ true)) same (h.0, rw self refl)
flow_at_place a (x ∷ flows) (suc at) f h is =
    let rest = flow_at_place a flows at f h.2 is in
    (rest.0, by_test (x.root == f.root) (λ same. rw same refl) (λ other. rw other rest.1))

-- a flow's root is there still, once those arrays went
root_stays : Laws → (e t : Engine) (flows : Flows) (staying leaving : List ℕ) (f : Flow) → AreHeld e (staying ++ all_read flows) leaving → have_flow e.world flows leaving ≡ false
    → LetsGo (staying ++ all_read flows) e t [] → IsFlow (arrays_of e) f → is_flow flows f.root ≡ true → is_some (look t.world f.root) ≡ true
root_stays laws e t flows staying leaving f held none gone is here =
    let w : World = e.world in
    let all : List ℕ = staying ++ all_read flows in
    let live : IsLive w f.root = flow_live (arrays_of e) f is in
    let found = has_live w f.root live in
    let kept : Has (sweep w (all ++ leaving)) f.root found.0 = subst (λ (u : World). Has u f.root found.0) (sym held.reached) found.1 in
    by_way live (reached_or_rooted w all leaving f.root held.sound (laws.kept w (all ++ leaving) f.root found.0 kept).reached)
  where
    by_way : IsLive e.world f.root → IsReached e.world (staying ++ all_read flows) f.root ⊎ HaveRoot e.world leaving f.root → is_some (look t.world f.root) ≡ true
    by_way live (inl reached) =
        let w : World = e.world in
        let all : List ℕ = staying ++ all_read flows in
        let seen : IsSeenAsBefore w (sweep w all) f.root = laws.reached w all f.root held.sound reached in
        ap (λ (u : World). is_some (look u f.root)) (all_gone all e t gone) ∙ some_live (sweep w all) f.root (seen_live w (sweep w all) f.root seen live)
    by_way live (inr h) =
        let off : is_flow flows (root_of e.world h.one) ≡ false = none_has e.world flows leaving h.one none h.listed in
        let on : is_flow flows (root_of e.world h.one) ≡ true = ap (is_flow flows) (h.root ∙ flow_root (arrays_of e) f is) ∙ here in
        absurd (cc)

-- where each root is there, each flow that is asked stays
stays_asked : Laws → (hs : List ℕ) (first e : Engine) (flows : Flows) → HasFlows e flows hs first → ((at : ℕ) (f : Flow) → slice_get flows at ≡ Some f → is_some (look e.world f.root) ≡ true)
    → (asked : ℕ) → asked ≤ length flows → AreAsked hs first flows (length flows - asked) e flows
stays_asked laws hs first e flows had there zero le = none_asked hs e flows first (length flows - 0) (omega arith) had
stays_asked laws hs first e flows had there (suc asked) le =
    let at : ℕ = length flows - suc asked in
    let next : length flows - asked ≡ at + 1 = omega (arith, le) in
    let lt : at < length flows = omega (arith, le) in
    let so_far : AreAsked hs first flows (at + 1) e flows = subst (λ n. AreAsked hs first flows n e flows) next (stays_asked laws hs first e flows had there asked (omega (arith, le))) in
    asked_more laws hs first flows at e e flows flows had.sound had.flows lt so_far
    (λ f is. ap (λ (b : Bool). if b then flows else without_at at flows) (sym (there at f is)))
    (lets_go_refl (hs ++ all_read flows) e [] had.lets_go.is_held)

-- and so all of them do
pub all_stay : Laws → (hs leaving : List ℕ) (e t : Engine) (flows : Flows) → AreFlows (arrays_of e) flows → AreHeld e (hs ++ all_read flows) leaving → have_flow e.world flows leaving ≡ false → HasFlows t flows hs e
    → KeepsNeeded hs e flows t flows
all_stay laws hs leaving e t flows are held none had =
    let there : (at : ℕ) (f : Flow) → slice_get flows at ≡ Some f → is_some (look t.world f.root) ≡ true = λ at f is.
    (let here = flow_at_place (arrays_of e) flows at f are is in root_stays laws e t flows hs leaving f held none had.lets_go here.0 here.1) in
    all_asked hs e flows (length flows - length flows) t flows (omega arith) (stays_asked laws hs e t flows had there (length flows) (omega arith))

-- ---- what leaves is there

pub leaving_live : OthersDontCount → (e : Engine) (staying leaving : List ℕ) → AllHaveHolds e → AreHeld e staying leaving → AreLive e.world leaving
leaving_live others e staying leaving have held = all_live e.world leaving (λ v some.
    let c = held.counts v in
    let counted : 0 < count_at e.holds v = omega (arith, c, some) in
    live_some e.world v (sym (have v) ∙ counted_known others e.holds v counted))
