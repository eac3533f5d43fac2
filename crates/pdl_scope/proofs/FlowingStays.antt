-- Flows where what they read shows the same, and their roots are seen as before.
use Rattle.std.proofs.Common.{◌≡◌, ℕ, ℤ, zero, suc, ◌<◌, List, [], ◌∷◌, ◌++◌, length, get_or, true, false, Option, inl, inr, refl, sym, ap, subst, ◌∙◌, arith, eqb-true, eq-eqb}
use Rattle.std.specs.Prelude.{◌==◌, ◌||◌, ◌⊎◌, All, IsSomeAnd}
use Rattle.std.specs.Option.{option_map_or}
use Rattle.pdl_lemmas.specs.Tests.{by_test}
use Rattle.pdl_elem.specs.declared.Ty.{Ty}
use Rattle.pdl_elem.specs.declared.Ty.TheVariants.{Byte}
use Rattle.pdl_buf.specs.declared.made.Made.{Made}
use Rattle.pdl_flow.specs.Formula.{arrays_in}
use Rattle.pdl_world.specs.World.{World, ArrayDef, Look}
use Rattle.pdl_world.specs.BreakLaws.{ReshapesLeaveOthers}
use Rattle.pdl_world.specs.Cut.{sever, reshape}
use Rattle.pdl_world.specs.CutLaws.{CutsLeaveElements, CutsLeaveNumbers, CutsLeaveOthers, RootsAreUncut, ShowsTheSame}
use Rattle.pdl_world.specs.Laws.{OlderElementsStay, OlderPathsStay, OlderStay}
use Rattle.pdl_world.specs.Paths.{path, root_of}
use Rattle.pdl_world.specs.Sound.{NumbersBelow, IsSound, IsLive}
use Rattle.pdl_world.specs.SweepLaws.{IsSeenAsBefore}
use Rattle.pdl_world.specs.Swept.{is_listed}
use Rattle.pdl_machine.specs.Arrays.{Arrays, array_in}
use Rattle.pdl_machine.specs.Cuts.{is_read}
use Rattle.pdl_machine.specs.FlowLaws.{FlowsStay}
use Rattle.pdl_machine.specs.Flows.{Flow, Flows, all_read, is_flow, is_reached, without_flow}
use Rattle.pdl_machine.specs.Following.{AreFlows, AreOlder, IsFlow, RootsAbove}
use Rattle.pdl_machine.specs.State.{AreLive}
use Rattle.pdl_scope.specs.Flowing.{RootsRise}

-- ---- lists

pub first_listed : (v : ℕ) (vs : List ℕ) → is_listed (v ∷ vs) v ≡ true
first_listed v vs = let self : (v == v) ≡ true = eq-eqb v v refl in rw self refl

pub later_listed : (v u : ℕ) (vs : List ℕ) → is_listed vs u ≡ true → is_listed (v ∷ vs) u ≡ true
later_listed v u vs t = by_test (v == u) (λ same. rw same refl) (λ other. rw other t)

pub listed_front : (vs us : List ℕ) (k : ℕ) → is_listed vs k ≡ true → is_listed (vs ++ us) k ≡ true
listed_front [] us k h = cc
listed_front (v ∷ vs) us k h = by_test (v == k) (λ same. rw same refl) (λ other. let t : is_listed vs k ≡ true = rw other at h in rw other (listed_front vs us k t))

pub listed_back : (vs us : List ℕ) (k : ℕ) → is_listed us k ≡ true → is_listed (vs ++ us) k ≡ true
listed_back [] us k h = h
listed_back (v ∷ vs) us k h = later_listed v k (vs ++ us) (listed_back vs us k h)

pub listed_split : (vs us : List ℕ) (k : ℕ) → is_listed (vs ++ us) k ≡ true → (is_listed vs k ≡ true) ⊎ (is_listed us k ≡ true)
listed_split [] us k h = inr h
listed_split (v ∷ vs) us k h = by_test (v == k)
    (λ same. inl (rw same refl))
    (λ other. let t : is_listed (vs ++ us) k ≡ true = rw other at h in rw other (listed_split vs us k t))

-- what is so of each that is listed is so at each place
pub each_at : (P : ℕ → Type 0) (ks : List ℕ) → ((k : ℕ) → is_listed ks k ≡ true → P k) → All P ks
each_at P [] h = λ i d lt. absurd (omega arith)
each_at P (k ∷ ks) h = λ i d lt. at (each_at P ks (λ j t. h j (later_listed k j ks t))) i d lt
  where
    at : All P ks → (i d : ℕ) → i < length (k ∷ ks) → P (get_or (k ∷ ks) i d)
    at rest zero d lt = h k (first_listed k ks)
    at rest (suc i) d lt = rest i d (omega arith)

-- one of arrays that are there is there
pub live_listed : (w : World) (ks : List ℕ) (k : ℕ) → AreLive w ks → is_listed ks k ≡ true → IsLive w k
live_listed w [] k live t = cc
live_listed w (j ∷ ks) k live t = by_test (j == k)
    (λ same. let P : ℕ → Type 0 = IsLive w in subst P (eqb-true j k same) live.0)
    (λ other. live_listed w ks k live.1 (rw other at t))

-- ---- one flow

abbrev made_of : Ty → List ℕ → List ℤ → Made
made_of ty ds es = record { ty = ty; dims = ds; elems = es }

pub shown_same : (a b : Arrays) (k : ℕ) → ShowsTheSame a.world b.world k → array_in b k ≡ array_in a k
shown_same a b k h = three h.ty_is h.dims_are h.elems_are
  where
    three : {t t' : Ty} {ds ds' : List ℕ} {es es' : List ℤ} → t ≡ t' → ds ≡ ds' → es ≡ es' → made_of t ds es ≡ made_of t' ds' es'
    three p q r = cc

pub seen_shows : (w u : World) (k : ℕ) → IsSeenAsBefore w u k → ShowsTheSame w u k
seen_shows w u k h = record {
  ty_is = ap (λ (o : Option Look). option_map_or (λ l. l.ty) o Byte) h.look_is;
  dims_are = ap (λ (o : Option Look). option_map_or (λ l. l.dims) o []) h.look_is;
  elems_are = h.elems_are;
}

pub seen_live : (w u : World) (k : ℕ) → IsSeenAsBefore w u k → IsLive w k → IsLive u k
seen_live w u k h live = let P : Option Look → Type 0 = λ o. IsSomeAnd o (λ l. Unit {0}) in subst P (sym h.look_is) live

-- it shows what it showed, and is there
pub seen_shown : (w u : World) (k : ℕ) → IsSeenAsBefore w u k → IsLive w k → ShowsTheSame w u k × IsLive u k
seen_shown w u k h live = (seen_shows w u k h, seen_live w u k h live)

-- what a formula reads is older than its root, and there
pub older_is : (w : World) (r : ℕ) (ks : List ℕ) (k : ℕ) → AreOlder w r ks → is_listed ks k ≡ true → (k < r) × IsLive w k
older_is w r [] k older h = cc
older_is w r (j ∷ ks) k older h = by_test (j == k)
    (λ same. let P : ℕ → Type 0 = λ n. (n < r) × IsLive w n in subst P (eqb-true j k same) (older.0, older.1))
    (λ other. older_is w r ks k older.2 (rw other at h))

pub flow_live : (a : Arrays) (f : Flow) → IsFlow a f → IsLive a.world f.root
flow_live a f h = let P : Option Look → Type 0 = λ o. IsSomeAnd o (λ l. Unit {0}) in subst P (sym h.is_root.look_is) tt

-- a flow's root is its own root
pub flow_root : (a : Arrays) (f : Flow) → IsFlow a f → root_of a.world f.root ≡ f.root
flow_root a f h = ap (λ (o : Option Look). option_map_or (λ l. l.root) o f.root) h.is_root.look_is

-- ---- all flows

-- where all that is there is seen as before
pub flows_stay : FlowsStay → (a b : Arrays) (flows : Flows) → AreFlows a flows → ((k : ℕ) → IsLive a.world k → IsSeenAsBefore a.world b.world k) → AreFlows b flows
flows_stay stay a b flows h seen = stay a b flows h (λ k t live. seen_shown a.world b.world k (seen k live) live) (λ r t live own. seen r live)

-- the laws of flows where arrays come
pub record GrowthLaws : Type 0 where
  pub stay : FlowsStay
  pub older : OlderStay
  pub elements : OlderElementsStay
  pub paths : OlderPathsStay

pub older_seen : GrowthLaws → (w : World) (k : ℕ) (d : ArrayDef) (v : ℕ) → NumbersBelow k w → IsLive w v → IsSeenAsBefore w ((k, d) ∷ w) v
older_seen laws w k d v below live = record { look_is = laws.older w k v d below live; elems_are = laws.elements w k v d below live; path_is = laws.paths w k v d below live }

pub flows_joined : GrowthLaws → (a b : Arrays) (k : ℕ) (d : ArrayDef) (flows : Flows) → NumbersBelow k a.world → b.world ≡ (k, d) ∷ a.world → AreFlows a flows → AreFlows b flows
flows_joined laws a b k d flows below is h =
    flows_stay laws.stay a b flows h (λ v live. let P : World → Type 0 = λ u. IsSeenAsBefore a.world u v in subst P (sym is) (older_seen laws a.world k d v below live))

-- the arrays that formulas read are there
pub reads_live : (a : Arrays) (flows : Flows) → AreFlows a flows → AreLive a.world (all_read flows)
reads_live a [] h = tt
reads_live a (f ∷ flows) h = both (arrays_in f.formula) h.0.older (reads_live a flows h.2)
  where
    both : (ks : List ℕ) → AreOlder a.world f.root ks → AreLive a.world (all_read flows) → AreLive a.world (ks ++ all_read flows)
    both [] older rest = rest
    both (k ∷ ks) older rest = (older.1, both ks older.2 rest)

pub roots_rise : (a : Arrays) (flows : Flows) → AreFlows a flows → RootsRise flows
roots_rise a [] h = tt
roots_rise a (f ∷ flows) h = (h.1, roots_rise a flows h.2)

-- ---- a flow that ends

above_without : (n : ℕ) (flows : Flows) (v : ℕ) → RootsAbove n flows → RootsAbove n (without_flow flows v)
above_without n [] v h = tt
above_without n (f ∷ flows) v h = by_test (f.root == v) (λ same. rw same (above_without n flows v h.1)) (λ other. rw other (h.0, above_without n flows v h.1))

pub flows_without : (a : Arrays) (flows : Flows) (v : ℕ) → AreFlows a flows → AreFlows a (without_flow flows v)
flows_without a [] v h = tt
flows_without a (f ∷ flows) v h = by_test (f.root == v)
    (λ same. rw same (flows_without a flows v h.2))
    (λ other. rw other (h.0, above_without f.root flows v h.1, flows_without a flows v h.2))

-- ---- where an array is cut from its parent

-- the flow of a root that stands in a list
pub record Found (a : Arrays) (v : ℕ) : Type 0 where
  pub flow : Flow
  pub is : IsFlow a flow
  pub root : flow.root ≡ v

pub found_flow : (a : Arrays) (flows : Flows) (v : ℕ) → AreFlows a flows → is_flow flows v ≡ true → Found a v
found_flow a [] v h t = cc
found_flow a (f ∷ flows) v h t = by_test (f.root == v)
    (λ same. record { flow = f; is = h.0; root = eqb-true f.root v same })
    (λ other. found_flow a flows v h.2 (rw other at t))

flow_apart : (flows : Flows) (r v : ℕ) → is_flow flows r ≡ true → is_flow flows v ≡ false → (r == v) ≡ false
flow_apart flows r v here none = by_test (r == v) (λ same. let e : r ≡ v = eqb-true r v same in let t : is_flow flows v ≡ true = ap (is_flow flows) (sym e) ∙ here in cc) (λ other. other)

-- another array isn't on the path of a flow's root
root_apart : (w : World) (flows : Flows) (r v : ℕ) → is_flow flows v ≡ false → is_flow flows r ≡ true → path w r ≡ r ∷ [] → is_listed (path w r) v ≡ false
root_apart w flows r v none here own =
    let other : (r == v) ≡ false = flow_apart flows r v here none in
    ap (λ (ps : List ℕ). is_listed ps v) own ∙ ap (λ b. b || false) other

-- the laws of flows where an array is cut
pub record CutLaws : Type 0 where
  pub stay : FlowsStay
  pub shown : CutsLeaveElements
  pub numbers : CutsLeaveNumbers
  pub others : CutsLeaveOthers
  pub uncut : RootsAreUncut

pub flows_severed : CutLaws → (a b : Arrays) (v : ℕ) (flows : Flows) → IsSound a.world → b.world ≡ sever a.world v → AreFlows a flows → AreFlows b flows
flows_severed laws a b v flows sound is h = by_test (is_flow flows v) own other
  where
    w : World
    w = a.world

    seen_in : (k : ℕ) → IsSeenAsBefore w (sever w v) k → IsSeenAsBefore w b.world k
    seen_in k s = let P : World → Type 0 = λ u. IsSeenAsBefore w u k in subst P (sym is) s

    own : is_flow flows v ≡ true → AreFlows b flows
    own here =
        let f = found_flow a flows v h here in
        let root : root_of w v ≡ v = ap (root_of w) (sym f.root) ∙ flow_root a f.flow f.is ∙ f.root in
        let same : b.world ≡ w = is ∙ laws.uncut w v sound root in
        flows_stay laws.stay a b flows h (λ k live. (let P : World → Type 0 = λ u. IsSeenAsBefore w u k in subst P (sym same) (record { look_is = refl; elems_are = refl; path_is = refl })))

    other : is_flow flows v ≡ false → AreFlows b flows
    other none =
        laws.stay a b flows h
        (λ k t live. (let P : World → Type 0 = λ u. ShowsTheSame w u k × IsLive u k in subst P (sym is) (laws.shown w v k sound, (laws.numbers w v sound).live k live)))
        (λ r t live own. seen_in r (laws.others w v r sound (root_apart w flows r v none t own)))

-- ---- where an array gets other dimensions

-- what isn't read isn't on the path of an array that is
unread_apart : (w : World) (ks : List ℕ) (v k : ℕ) → is_reached w ks v ≡ false → is_listed ks k ≡ true → is_listed (path w k) v ≡ false
unread_apart w [] v k none t = cc
unread_apart w (j ∷ ks) v k none t = by_test (is_listed (path w j) v)
    (λ on. let bad : true ≡ false = rw on at none in absurd (cc))
    (λ off. by_test (j == k)
    (λ same. ap (λ n. is_listed (path w n) v) (sym (eqb-true j k same)) ∙ off)
    (λ other. unread_apart w ks v k (rw off at none) (rw other at t)))

pub flows_reshaped : FlowsStay → ReshapesLeaveOthers → (a b : Arrays) (v : ℕ) (ds : List ℕ) (flows : Flows) → IsSound a.world → b.world ≡ reshape a.world v ds
    → is_flow flows v ≡ false → is_read flows a.world v ≡ false → AreFlows a flows → AreFlows b flows
flows_reshaped stay others a b v ds flows sound is none unread h =
    stay a b flows h
    (λ k t live. seen_shown w b.world k (seen k (unread_apart w (all_read flows) v k unread t)) live)
    (λ r t live own. seen r (root_apart w flows r v none t own))
  where
    w : World
    w = a.world

    seen : (k : ℕ) → is_listed (path w k) v ≡ false → IsSeenAsBefore w b.world k
    seen k apart = let P : World → Type 0 = λ u. IsSeenAsBefore w u k in subst P (sym is) (others w v k ds sound apart)
