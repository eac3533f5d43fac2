-- What a state keeps is what it needs, and no more.
use Rattle.std.proofs.Common.{◌≡◌, ℕ, zero, suc, ◌<◌, ◌≤◌, List, [], ◌∷◌, ◌++◌, Bool, true, false, inl, inr, refl, sym, ap, subst, ◌∙◌, arith, eqb-true, eq-eqb}
use Rattle.std.specs.Prelude.{◌==◌, ◌⊎◌, Contains}
use Rattle.pdl_lemmas.specs.Tests.{by_test}
use Rattle.pdl_world.specs.declared.Trans.{Trans}
use Rattle.pdl_flow.specs.Formula.{arrays_in}
use Rattle.pdl_world.specs.World.{World, ArrayDef, root, view}
use Rattle.pdl_world.specs.Paths.{path}
use Rattle.pdl_world.specs.Sound.{NumbersBelow}
use Rattle.pdl_world.specs.Swept.{is_listed, parents, Has, IsReached, held_itself, parent_of}
use Rattle.pdl_world.specs.SweepLaws.{KeptWereReached, ReachedAreKept}
use Rattle.pdl_machine.specs.Arrays.{Arrays}
use Rattle.pdl_machine.specs.Flows.{Flow, Flows, is_reached, Needs, needs_with, needs_of, IsNeeded, needed_itself, needed_parent, needed_read}
use Rattle.pdl_machine.specs.Following.{AreOlder, IsFlow, RootsAbove, AreFlows}
use Rattle.pdl_machine.specs.State.{held, needs}
use Rattle.pdl_machine.specs.Laws.{KeptAreNeeded, NeededFlowsStay}
use Rattle.pdl_machine.proofs.FlowLemmas.{first_listed, later_listed, listed_front, listed_back, held_needed, path_other}
use Rattle.pdl_machine.proofs.FlowFollows.{below_in}
use Rattle.pdl_machine.proofs.FlowsTidied.{reached_is}
use Rattle.pdl_machine.proofs.TidyNumbering.{in_world, AreIn, IsOrderly, orderly_sound, on_path_in}
use Rattle.pdl_machine.proofs.StateSteps.{absent}

-- ---- among flows

first_among : (f : Flow) (flows : Flows) → Contains (f ∷ flows) f
first_among f flows = (0, omega arith, refl)

later_among : (f g : Flow) (flows : Flows) → Contains flows g → Contains (f ∷ flows) g
later_among f g flows there = let lt = there.1 in (suc there.0, omega arith, there.2)

among : (f g : Flow) (flows : Flows) → Contains (f ∷ flows) g → (f ≡ g) ⊎ Contains flows g
among f g flows (zero, lt, is) = inl is
among f g flows (suc k, lt, is) = inr (k, omega arith, is)

listed_parts : (vs us : List ℕ) (k : ℕ) → is_listed (vs ++ us) k ≡ true → (is_listed vs k ≡ true) ⊎ (is_listed us k ≡ true)
listed_parts [] us k on = inr on
listed_parts (v ∷ vs) us k on = by_test (v == k)
    (λ same. inl (rw same refl))
    (λ other. elim (listed_parts vs us k (rw other at on)) [ inl front ↦ inl (later_listed v k vs front) | inr back ↦ inr back ])

-- ---- what the walk finds is needed

abbrev AreNeeded : World → Flows → (held : List ℕ) → List ℕ → Type 0
AreNeeded w flows hs ks = (k : ℕ) → is_listed ks k ≡ true → IsNeeded w flows hs k

more_flows : (w : World) (f : Flow) (flows : Flows) (hs : List ℕ) (k : ℕ) → IsNeeded w flows hs k → IsNeeded w (f ∷ flows) hs k
more_flows w f flows hs k (needed_itself k' on) = needed_itself k' on
more_flows w f flows hs k (needed_parent v p t there n) = needed_parent v p t there (more_flows w f flows hs v n)
more_flows w f flows hs k (needed_read g k' there n on) = needed_read g k' (later_among f g flows there) (more_flows w f flows hs g.root n) on

-- what needed arrays reach is needed
reached_needed : (w : World) (flows : Flows) (hs many : List ℕ) → AreNeeded w flows hs many → (k : ℕ) → IsReached w many k → IsNeeded w flows hs k
reached_needed w flows hs many all k (held_itself k' on) = all k' on
reached_needed w flows hs many all k (parent_of v p t there r) = needed_parent v p t there (reached_needed w flows hs many all v r)

root_needed : (w : World) (flows : Flows) (hs many : List ℕ) → AreNeeded w flows hs many → (v : ℕ) → is_reached w many v ≡ true → IsNeeded w flows hs v
root_needed w flows hs many all v on = reached_needed w flows hs many all v (reached_is w many many v (λ u t. t) on)

walk_needed : (w : World) (flows : Flows) (hs : List ℕ) → AreNeeded w flows hs (needs_of w flows hs).arrays
walk_needed w [] hs k on = needed_itself k on
walk_needed w (f ∷ flows) hs k on = by_stays (walk_needed w flows hs) (is_reached w n.arrays f.root) refl on
  where
    n : Needs
    n = needs_of w flows hs

    by_stays : AreNeeded w flows hs n.arrays → (stays : Bool) → is_reached w n.arrays f.root ≡ stays → is_listed (needs_with stays f n).arrays k ≡ true → IsNeeded w (f ∷ flows) hs k
    by_stays rest false is on = more_flows w f flows hs k (rest k on)
    by_stays rest true is on = elim (listed_parts (arrays_in f.formula) n.arrays k on) [
      | inl read ↦ needed_read f k (first_among f flows) (more_flows w f flows hs f.root (root_needed w flows hs n.arrays rest f.root is)) read
      | inr later ↦ more_flows w f flows hs k (rest k later)
    ]

-- a flow that stays is one whose root is needed
staying_needed : (w : World) (flows : Flows) (hs : List ℕ) (g : Flow) → Contains (needs_of w flows hs).flows g → Contains flows g × IsNeeded w flows hs g.root
staying_needed w [] hs g there = absurd (let lt = there.1 in omega (arith, lt))
staying_needed w (f ∷ flows) hs g there = by_stays (staying_needed w flows hs g) (is_reached w n.arrays f.root) refl there
  where
    n : Needs
    n = needs_of w flows hs

    later : Contains flows g × IsNeeded w flows hs g.root → Contains (f ∷ flows) g × IsNeeded w (f ∷ flows) hs g.root
    later h = (later_among f g flows h.0, more_flows w f flows hs g.root h.1)

    by_stays : (Contains n.flows g → Contains flows g × IsNeeded w flows hs g.root)
        → (stays : Bool) → is_reached w n.arrays f.root ≡ stays → Contains (needs_with stays f n).flows g → Contains (f ∷ flows) g × IsNeeded w (f ∷ flows) hs g.root
    by_stays rest false is there = later (rest there)
    by_stays rest true is there = elim (among f g n.flows there) [
      | inl same ↦ subst (λ x. Contains (f ∷ flows) x × IsNeeded w (f ∷ flows) hs x.root) same (
        first_among f flows,
        more_flows w f flows hs f.root (root_needed w flows hs n.arrays (walk_needed w flows hs) f.root is),
      )
      | inr among_later ↦ later (rest among_later)
    ]

-- ---- what is needed is found, where numbers are in order

has_inside : (w : World) (k : ℕ) (d : ArrayDef) → Has w k d → in_world w k ≡ true
has_inside [] k d there = absurd there
has_inside ((j, e) ∷ w) k d (inl same) = let is : (j == k) ≡ true = eq-eqb j k same.0 in rw is refl
has_inside ((j, e) ∷ w) k d (inr there) = by_test (j == k) (λ is. rw is refl) (λ other. rw other (has_inside w k d there))

parent_inside : (w : World) (d : ArrayDef) (p : ℕ) (t : Trans) → AreIn w (parents d) → d ≡ view p t → in_world w p ≡ true
parent_inside w d p t inside is =
    let P : ArrayDef → Type 0 = λ e. AreIn w (parents e) in
    let there : AreIn w (p ∷ []) = subst P is inside in there.0

-- a parent is older than its views
parent_older : (w : World) → IsOrderly w → (k p : ℕ) (t : Trans) → Has w k (view p t) → p < k
parent_older [] order k p t there = absurd there
parent_older ((j, d) ∷ w) order k p t (inl same) =
    subst (λ n. p < n) same.0 (below_in j w p order.0 (parent_inside w d p t order.1 same.1))
parent_older ((j, d) ∷ w) order k p t (inr there) = parent_older w order.2 k p t there

-- arrays older than this one don't reach it
without_older : (w : World) → IsOrderly w → (ks hs : List ℕ) (r : ℕ) → ((k : ℕ) → is_listed ks k ≡ true → k < r) → (v : ℕ) → r ≤ v → IsReached w (ks ++ hs) v → IsReached w hs v
without_older w order ks hs r older v le (held_itself v' on) = elim (listed_parts ks hs v' on) [
  | inl read ↦ (let lt : v' < r = older v' read in absurd (omega (arith, lt, le)))
  | inr later ↦ held_itself v' later
]
without_older w order ks hs r older v le (parent_of u p t there reached) =
    let lt : p < u = parent_older w order u p t there in
    parent_of u p t there (without_older w order ks hs r older u (omega (arith, lt, le)) reached)

-- an array is on its own path
own_path : (w : World) (v : ℕ) → in_world w v ≡ true → is_listed (path w v) v ≡ true
own_path [] v there = cc
own_path ((k, d) ∷ w) v there = by_test (k == v)
    (here d)
    (λ other. ap (λ ps. is_listed ps v) (path_other k v d w other) ∙ own_path w v (rw other at there))
  where
    here : (d : ArrayDef) → (k == v) ≡ true → is_listed (path ((k, d) ∷ w) v) v ≡ true
    here (root ty ds es) same = rw same (rw same refl)
    here (view p t) same = rw same (rw same refl)

-- the newest array isn't one of the others
not_newest : (w : World) (j k : ℕ) → NumbersBelow j w → in_world w k ≡ true → (j == k) ≡ true → ⊥
not_newest w j k below there same =
    let e : j ≡ k = eqb-true j k same in
    let f : (k == j) ≡ false = absent w j k below there in
    let t : (k == j) ≡ true = eq-eqb k j (sym e) in cc

-- with a view its parent is on a path
parent_on_path : (w : World) → IsOrderly w → (h k p : ℕ) (t : Trans) → Has w k (view p t) → is_listed (path w h) k ≡ true → is_listed (path w h) p ≡ true
parent_on_path [] order h k p t there on = absurd there
parent_on_path ((j, d) ∷ w) order h k p t there on = by_test (j == h)
    (by_def (λ x. parent_on_path w order.2 x k p t) d order.1 there on)
    (λ other.
    let on' : is_listed (path w h) k ≡ true = ap (λ ps. is_listed ps k) (sym (path_other j h d w other)) ∙ on in
    ap (λ ps. is_listed ps p) (path_other j h d w other) ∙ parent_on_path w order.2 h k p t (among_others (on_path_in w h k on') there) on')
  where
    among_others : in_world w k ≡ true → Has ((j, d) ∷ w) k (view p t) → Has w k (view p t)
    among_others inside (inl same) = absurd (not_newest w j k order.0 inside (eq-eqb j k same.0))
    among_others inside (inr older) = older

    by_def : ((x : ℕ) → Has w k (view p t) → is_listed (path w x) k ≡ true → is_listed (path w x) p ≡ true)
        → (d : ArrayDef) → AreIn w (parents d) → Has ((j, d) ∷ w) k (view p t) → is_listed (path ((j, d) ∷ w) h) k ≡ true → (j == h) ≡ true → is_listed (path ((j, d) ∷ w) h) p ≡ true
    by_def rest (root ty ds es) inside (inl same) on is = cc
    by_def rest (root ty ds es) inside (inr older) on is =
        let alone : is_listed (j ∷ []) k ≡ true = rw is at on in
        by_test (j == k)
        (λ same. absurd (not_newest w j k order.0 (has_inside w k (view p t) older) same))
        (λ other. let f : is_listed (j ∷ []) k ≡ false = rw other refl in cc)
    by_def rest (view q s) inside (inl same) on is =
        let P : ArrayDef → Type 0 = λ e. is_listed (path ((j, e) ∷ w) h) p ≡ true in
        subst P (sym same.1) (rw is (later_listed j p (path w p) (own_path w p (parent_inside w (view q s) p t inside same.1))))
    by_def rest (view q s) inside (inr older) on is =
        let on' : is_listed (j ∷ path w q) k ≡ true = rw is at on in
        by_test (j == k)
        (λ same. absurd (not_newest w j k order.0 (has_inside w k (view p t) older) same))
        (λ other. let below : is_listed (path w q) k ≡ true = rw other at on' in rw is (later_listed j p (path w q) (rest q older below)))

-- what is held is found
held_found : (w : World) (hs : List ℕ) (v : ℕ) → in_world w v ≡ true → is_listed hs v ≡ true → is_reached w hs v ≡ true
held_found w [] v there on = cc
held_found w (h ∷ hs) v there on = by_test (h == v)
    (λ same.
    let own : is_listed (path w h) v ≡ true = ap (λ x. is_listed (path w x) v) (eqb-true h v same) ∙ own_path w v there in rw own refl)
    (λ other. let later : is_reached w hs v ≡ true = held_found w hs v there (rw other at on) in by_test (is_listed (path w h) v) (λ is. rw is refl) (λ is. rw is later))

-- and with a view its parent
parent_found : (w : World) → IsOrderly w → (hs : List ℕ) (k p : ℕ) (t : Trans) → Has w k (view p t) → is_reached w hs k ≡ true → is_reached w hs p ≡ true
parent_found w order [] k p t there on = cc
parent_found w order (h ∷ hs) k p t there on = by_test (is_listed (path w h) k)
    (λ here. let e : is_listed (path w h) p ≡ true = parent_on_path w order h k p t there here in rw e refl)
    (λ other. let later : is_reached w hs p ≡ true = parent_found w order hs k p t there (rw other at on) in by_test (is_listed (path w h) p) (λ is. rw is refl) (λ is. rw is later))

reached_found : (w : World) → IsOrderly w → (hs : List ℕ) (v : ℕ) → IsReached w hs v → in_world w v ≡ true → is_reached w hs v ≡ true
reached_found w order hs v (held_itself v' on) inside = held_found w hs v' inside on
reached_found w order hs v (parent_of k p t there r) inside =
    parent_found w order hs k p t there (reached_found w order hs k r (has_inside w k (view p t) there))

-- a flow stays, and what its formula reads is needed
abbrev StaysIn : Needs → Flow → Type 0
StaysIn n f = Contains n.flows f × ((k : ℕ) → is_listed (arrays_in f.formula) k ≡ true → is_listed n.arrays k ≡ true)

older_listed : (w : World) (r : ℕ) (ks : List ℕ) → AreOlder w r ks → (k : ℕ) → is_listed ks k ≡ true → k < r
older_listed w r [] older k on = cc
older_listed w r (j ∷ ks) older k on = by_test (j == k)
    (λ same. subst (λ n. n < r) (eqb-true j k same) older.0)
    (λ other. older_listed w r ks older.2 k (rw other at on))

above_among : (n : ℕ) (flows : Flows) → RootsAbove n flows → (f : Flow) → Contains flows f → n < f.root
above_among n [] above f there = absurd (let lt = there.1 in omega (arith, lt))
above_among n (g ∷ flows) above f there = elim (among g f flows there) [
  | inl same ↦ subst (λ x. n < x.root) same above.0
  | inr later ↦ above_among n flows above.1 f later
]

root_inside : (a : Arrays) (f : Flow) → IsFlow a f → in_world a.world f.root ≡ true
root_inside a f is =
    on_path_in a.world f.root f.root (ap (λ ps. is_listed ps f.root) is.is_root.path_is ∙ first_listed f.root [])

-- a flow stays where what is needed reaches its root
reached_stays : (a : Arrays) → IsOrderly a.world → (flows : Flows) (hs : List ℕ) → AreFlows a flows → (f : Flow) → Contains flows f
    → IsReached a.world (needs_of a.world flows hs).arrays f.root → StaysIn (needs_of a.world flows hs) f
reached_stays a order [] hs are f there r = absurd (let lt = there.1 in omega (arith, lt))
reached_stays a order (g ∷ flows) hs are f there r = elim (among g f flows there) [
  | inl same ↦ (let r' : IsReached w (needs_with (is_reached w n.arrays g.root) g n).arrays g.root = subst (λ x. IsReached w (needs_of w (g ∷ flows) hs).arrays x.root) (sym same) r in
      subst (StaysIn (needs_of w (g ∷ flows) hs)) same (itself (is_reached w n.arrays g.root) refl r'))
  | inr later ↦ newer later (reached_stays a order flows hs are.2 f later) (is_reached w n.arrays g.root) r
]
  where
    w : World
    w = a.world

    n : Needs
    n = needs_of w flows hs

    itself : (stays : Bool) → is_reached w n.arrays g.root ≡ stays → IsReached w (needs_with stays g n).arrays g.root → StaysIn (needs_with stays g n) g
    itself true is r = (first_among g n.flows, λ k on. listed_front (arrays_in g.formula) n.arrays k on)
    itself false is r = let t : is_reached w n.arrays g.root ≡ true = reached_found w order n.arrays g.root r (root_inside a g are.0) in cc

    older : Contains flows f → (k : ℕ) → is_listed (arrays_in g.formula) k ≡ true → k < f.root
    older later k on =
        let low : k < g.root = older_listed w g.root (arrays_in g.formula) are.0.older k on in
        let high : g.root < f.root = above_among g.root flows are.1 f later in omega (arith, low, high)

    newer : Contains flows f → (IsReached w n.arrays f.root → StaysIn n f) → (stays : Bool) → IsReached w (needs_with stays g n).arrays f.root → StaysIn (needs_with stays g n) f
    newer later rest false r = rest r
    newer later rest true r =
        let h : StaysIn n f = rest (without_older w order (arrays_in g.formula) n.arrays f.root (older later) f.root (omega arith) r) in
        (later_among g f n.flows h.0, λ k on. listed_back (arrays_in g.formula) n.arrays k (h.1 k on))

-- what is needed is reached from what the walk finds
needed_reached : (a : Arrays) → IsOrderly a.world → (flows : Flows) (hs : List ℕ) → AreFlows a flows → (k : ℕ) → IsNeeded a.world flows hs k → IsReached a.world (needs_of a.world flows hs).arrays k
needed_reached a order flows hs are k (needed_itself k' on) = held_itself k' (held_needed a.world flows hs k' on)
needed_reached a order flows hs are k (needed_parent v p t there n) = parent_of v p t there (needed_reached a order flows hs are v n)
needed_reached a order flows hs are k (needed_read f k' there n on) =
    let h : StaysIn (needs_of a.world flows hs) f = reached_stays a order flows hs are f there (needed_reached a order flows hs are f.root n) in
    held_itself k' (h.1 k' on)

-- ---- the laws

pub kept_are_needed : KeptWereReached → ReachedAreKept → KeptAreNeeded
kept_are_needed were are s k d whole = (
  (λ there. let h = were w (needs s).arrays k d there in
      (h.there, reached_needed w s.flows (held s) (needs s).arrays (walk_needed w s.flows (held s)) k h.reached)),
  (λ h. are w (needs s).arrays k d whole.sound h.0 (needed_reached s.arrays (orderly_sound w whole.sound) s.flows (held s) whole.flows k h.1)),
)
  where
    w : World
    w = s.arrays.world

pub needed_flows_stay : NeededFlowsStay
needed_flows_stay s f whole = (
  (λ there. staying_needed w s.flows (held s) f there),
  (λ h. let order : IsOrderly w = orderly_sound w whole.sound in
      (reached_stays s.arrays order s.flows (held s) whole.flows f h.0 (needed_reached s.arrays order s.flows (held s) whole.flows f.root h.1)).0),
)
  where
    w : World
    w = s.arrays.world
