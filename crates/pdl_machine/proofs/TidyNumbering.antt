-- Each whole state is alike to its tidied one, by the number that each array had before.
use Rattle.std.proofs.Common.{◌≡◌, ◌≢◌, ℕ, ◌+◌, ◌-◌, ◌<◌, ◌≤◌, List, [], ◌∷◌, ◌++◌, length, map, Bool, true, false, Option, Some, None, inl, inr, refl, sym, ap, subst, ◌∙◌, arith, eqb-true, eq-eqb}
use Rattle.std.specs.Prelude.{◌==◌, if◌then◌else◌, option_map, IsSomeAnd}
use Rattle.std.proofs.lemmas.Bool.{cases_lt}
use Rattle.pdl_lemmas.specs.Tests.{by_test}
use Rattle.pdl_world.specs.World.{World, ArrayDef, root, view, Look}
use Rattle.pdl_world.specs.Sound.{NumbersBelow, IsSound, IsLive, IsAllowed}
use Rattle.pdl_world.specs.Swept.{is_listed, parents, kept_onto, sweep}
use Rattle.pdl_machine.specs.Names.{KernelTexts, Named, Names}
use Rattle.pdl_flow.specs.Formula.{FormulaTree, number, array, unary, binary, convert, arrays_in}
use Rattle.pdl_machine.specs.Arrays.{Arrays}
use Rattle.pdl_machine.specs.Flows.{Flows, all_read, formula_by, flow_by, is_reached, Needs, needs_with, needs_of}
use Rattle.pdl_machine.specs.Following.{AreOlder, AreFlows}
use Rattle.pdl_machine.specs.State.{State, held, needs, kept, IsSwept, AreLive, IsWhole}
use Rattle.pdl_machine.specs.Watches.{Watches, attached}
use Rattle.pdl_machine.specs.Tidy.{older, with_parent, renumber, renumbered, settled, tidy}
use Rattle.pdl_machine.proofs.ArraysRenamed.{IsApart, Renames, empty, more, same, look-other, StateAlike}
use Rattle.pdl_world.specs.Paths.{path}
use Rattle.pdl_machine.proofs.TidyLemmas.{renamed}
use Rattle.pdl_machine.proofs.FlowLemmas.{flow_of, listed_front, listed_back, first_listed, held_needed, path_kept}

-- whether the world has the number
abbrev pub in_world : World → ℕ → Bool
in_world [] v = false
in_world (a ∷ w) v = if a.0 == v then true else in_world w v

-- the world has each of these numbers
abbrev pub AreIn : World → List ℕ → Type 0
AreIn w [] = Unit {0}
AreIn w (v ∷ vs) = (in_world w v ≡ true) × AreIn w vs

-- numbers fall from each array to the older ones, and each parent is older
abbrev pub IsOrderly : World → Type 0
IsOrderly [] = Unit {0}
IsOrderly ((k, d) ∷ w) = NumbersBelow k w × AreIn w (parents d) × IsOrderly w

-- numbers fall from each array to the older ones
abbrev InOrder : World → Type 0
InOrder [] = Unit {0}
InOrder ((k, d) ∷ w) = NumbersBelow k w × InOrder w

-- the number of the array that has i older ones, and f i where there is none
abbrev pub former : World → (ℕ → ℕ) → ℕ → ℕ
former [] f i = f i
former ((k, d) ∷ w) f i = if i == length w then k else former w f i

-- past the arrays of the world: on from the next number
abbrev pub past : World → ℕ → ℕ → ℕ
past u next i = next + (i - length u)

-- the number before, of each array of u and of those that will be new
abbrev pub before : World → ℕ → ℕ → ℕ
before u next i = former u (past u next) i

apart_lt : (a b : ℕ) → a < b → (a == b) ≡ false
apart_lt a b h = by_test (a == b) (λ same. let e : a ≡ b = eqb-true a b same in absurd (omega arith)) (λ other. other)

apart_gt : (a b : ℕ) → b < a → (a == b) ≡ false
apart_gt a b h = by_test (a == b) (λ same. let e : a ≡ b = eqb-true a b same in absurd (omega arith)) (λ other. other)

former_below : (w : World) (f : ℕ → ℕ) (m i : ℕ) → NumbersBelow m w → i < length w → former w f i < m
former_below [] f m i below lt = absurd (omega arith)
former_below ((k, d) ∷ w) f m i below lt =
    by_test (i == length w)
    (λ is. rw is below.0)
    (λ other. rw other (former_below w f m i below.1 (inside other)))
  where
    differs : (i == length w) ≡ true → (i == length w) ≡ false → ⊥
    differs t o = cc

    inside : (i == length w) ≡ false → i < length w
    inside other = elim (cases_lt i (length w)) as (λ x. i < length w)
        [ inl lt' ↦ lt' | inr le ↦ (let e : i ≡ length w = omega arith in let t : (i == length w) ≡ true = eq-eqb i (length w) e in absurd (differs t other)) ]

former_past : (w : World) (f : ℕ → ℕ) (i : ℕ) → length w ≤ i → former w f i ≡ f i
former_past [] f i le = refl
former_past ((k, d) ∷ w) f i le = let other : (i == length w) ≡ false = apart_gt i (length w) (omega arith) in rw other (former_past w f i (omega arith))

former_rises : (w : World) (f : ℕ → ℕ) (i j : ℕ) → InOrder w → i < j → j < length w → former w f i < former w f j
former_rises [] f i j order lt within = absurd (omega arith)
former_rises ((k, d) ∷ w) f i j order lt within =
    let first : (i == length w) ≡ false = apart_lt i (length w) (omega arith) in
    elim (cases_lt j (length w)) as (λ x. former ((k, d) ∷ w) f i < former ((k, d) ∷ w) f j) [
      | inl lt' ↦ (let second : (j == length w) ≡ false = apart_lt j (length w) lt' in rw (first, second) (former_rises w f i j order.1 lt lt'))
      | inr le ↦ (let second : (j == length w) ≡ true = eq-eqb j (length w) (omega arith) in rw (first, second) (former_below w f k i order.0 (omega arith)))
    ]

before_rises : (u : World) (next i j : ℕ) → InOrder u → NumbersBelow next u → i < j → before u next i < before u next j
before_rises u next i j order below lt =
    elim (cases_lt j (length u)) as (λ x. before u next i < before u next j) [
      | inl inside ↦ former_rises u (past u next) i j order lt inside
      | inr le ↦ elim (cases_lt i (length u)) as (λ x. before u next i < before u next j) [
        | inl first ↦ (let b = former_below u (past u next) next i below first in omega (arith, former_past u (past u next) j le))
        | inr le' ↦ omega (arith, former_past u (past u next) i le', former_past u (past u next) j le)
      ]
    ]

-- different arrays had different numbers
before_apart : (u : World) (next : ℕ) → InOrder u → NumbersBelow next u → IsApart (before u next)
before_apart u next order below i j e =
    elim (cases_lt i j) as (λ x. i ≡ j) [
      | inl lt ↦ (let h : before u next i < before u next j = before_rises u next i j order below lt in absurd (omega arith))
      | inr le ↦ elim (cases_lt j i) as (λ x. i ≡ j) [
        | inl gt ↦ (let h : before u next j < before u next i = before_rises u next j i order below gt in absurd (omega arith))
        | inr ge ↦ omega arith
      ]
    ]

older_within : (u : World) (v : ℕ) → in_world u v ≡ true → older u v < length u
older_within [] v there = cc
older_within ((k, d) ∷ u) v there =
    by_test (k == v) (λ is. rw is (omega arith)) (λ other. rw other (let t : in_world u v ≡ true = rw other at there in let l : older u v < length u = older_within u v t in omega arith))

-- an array had the number that it had
former_older : (u : World) (f : ℕ → ℕ) (v : ℕ) → in_world u v ≡ true → former u f (older u v) ≡ v
former_older [] f v there = cc
former_older ((k, d) ∷ u) f v there =
    by_test (k == v)
    (λ is. let self : (length u == length u) ≡ true = eq-eqb (length u) (length u) refl in rw (is, self) (eqb-true k v is))
    (λ other. let t : in_world u v ≡ true = rw other at there in
    let o : (older u v == length u) ≡ false = apart_lt (older u v) (length u) (older_within u v t) in
    rw (other, o) (former_older u f v t))

pub NumbersBelow-sweep : (m : ℕ) (w : World) (hs : List ℕ) → NumbersBelow m w → NumbersBelow m (sweep w hs)
NumbersBelow-sweep m [] hs below = tt
NumbersBelow-sweep m ((k, d) ∷ w) hs below = by_keeps (λ h. NumbersBelow-sweep m w h below.1) (is_listed hs k)
  where
    by_keeps : ((h : List ℕ) → NumbersBelow m (sweep w h)) → (keeps : Bool) → NumbersBelow m (kept_onto keeps (k, d) (sweep w (if keeps then parents d ++ hs else hs)))
    by_keeps rest true = (below.0, rest (parents d ++ hs))
    by_keeps rest false = rest hs

InOrder-sweep : (w : World) (hs : List ℕ) → IsOrderly w → InOrder (sweep w hs)
InOrder-sweep [] hs sound = tt
InOrder-sweep ((k, d) ∷ w) hs sound = by_keeps (λ h. InOrder-sweep w h sound.2) (is_listed hs k)
  where
    by_keeps : ((h : List ℕ) → InOrder (sweep w h)) → (keeps : Bool) → InOrder (kept_onto keeps (k, d) (sweep w (if keeps then parents d ++ hs else hs)))
    by_keeps rest true = (NumbersBelow-sweep k w (parents d ++ hs) sound.0, rest (parents d ++ hs))
    by_keeps rest false = rest hs

-- an array that is looked at is in the world
pub live_inside : (w : World) (v : ℕ) → IsLive w v → in_world w v ≡ true
live_inside [] v live = absurd live
live_inside ((k, d) ∷ w) v live = by_test (k == v)
    (λ is. rw is refl)
    (λ other. rw other (live_inside w v (let P : Option Look → Type 0 = λ x. IsSomeAnd x (λ l. Unit {0}) in subst P (look-other k v d w other) live)))

-- what is held and in the world is kept
held_kept : (w : World) (hs : List ℕ) (v : ℕ) → in_world w v ≡ true → is_listed hs v ≡ true → in_world (sweep w hs) v ≡ true
held_kept [] hs v inside held_v = inside
held_kept ((k, d) ∷ w) hs v inside held_v = by_keeps (λ h i t. held_kept w h v i t) (is_listed hs k) refl
  where
    more_held : (d : ArrayDef) → is_listed (parents d ++ hs) v ≡ true
    more_held (root ty ds es) = held_v
    more_held (view p t) = by_test (p == v) (λ same. rw same refl) (λ other. rw other held_v)

    by_keeps : ((h : List ℕ) → in_world w v ≡ true → is_listed h v ≡ true → in_world (sweep w h) v ≡ true) → (keeps : Bool) → is_listed hs k ≡ keeps
        → in_world (kept_onto keeps (k, d) (sweep w (if keeps then parents d ++ hs else hs))) v ≡ true
    by_keeps rest true e = by_test (k == v) (λ same. rw same refl) (λ other. rw other (let i : in_world w v ≡ true = rw other at inside in rest (parents d ++ hs) i (more_held d)))
    by_keeps rest false e = by_test (k == v)
        (λ same. let e' : k ≡ v = eqb-true k v same in let t : is_listed hs k ≡ true = ap (is_listed hs) e' ∙ held_v in cc)
        (λ other. let i : in_world w v ≡ true = rw other at inside in rest hs i held_v)

-- a sound world is orderly
pub orderly_sound : (w : World) → IsSound w → IsOrderly w
orderly_sound [] sound = tt
orderly_sound ((k, d) ∷ w) sound = (sound.0, parents_in d sound.1, orderly_sound w sound.2)
  where
    parents_in : (d : ArrayDef) → IsAllowed w d → AreIn w (parents d)
    parents_in (root ty ds es) allowed = tt
    parents_in (view p t) allowed = (live_inside w p allowed.live, tt)

pub live_in : (w : World) (vs : List ℕ) → AreLive w vs → AreIn w vs
live_in w [] live = tt
live_in w (v ∷ vs) live = (live_inside w v live.0, live_in w vs live.1)

-- a parent of what is kept is kept
parent_kept : (w : World) (hs : List ℕ) (p : ℕ) → in_world w p ≡ true → in_world (sweep w (p ∷ hs)) p ≡ true
parent_kept w hs p inside =
    let self : (p == p) ≡ true = eq-eqb p p refl in
    let held_p : is_listed (p ∷ hs) p ≡ true = rw self refl in
    held_kept w (p ∷ hs) p inside held_p

-- g has the former numbers of these arrays, and from there on only higher ones than those of w
record Restores (g : ℕ → ℕ) (f : ℕ → ℕ) (w u : World) : Type 0 where
  bound : ℕ
  below : NumbersBelow bound w
  inside : (i : ℕ) → i < length u → g i ≡ former u f i
  above : (i : ℕ) → length u ≤ i → bound ≤ g i

-- what is swept, numbered anew, has the arrays of w under their former numbers, and no others are kept
record IsRestored (g : ℕ → ℕ) (w u : World) : Type 0 where
  some : Renames g false (renumber u) w
  kept : u ≡ renamed g (renumber u)

restored_parent : (g f : ℕ → ℕ) (u : World) (v : ℕ) → ((i : ℕ) → i < length u → g i ≡ former u f i) → in_world u v ≡ true → g (older u v) ≡ v
restored_parent g f u v inside there = inside (older u v) (older_within u v there) ∙ former_older u f v there

restored : (g f : ℕ → ℕ) (w : World) (hs : List ℕ) → IsOrderly w → Restores g f w (sweep w hs) → IsRestored g w (sweep w hs)
restored g f [] hs sound h = record { some = empty; kept = refl }
restored g f ((k, d) ∷ w) hs sound h = by_keeps (λ hs' h'. restored g f w hs' sound.2 h') (is_listed hs k) h
  where
    on_top : (u : World) → (g (length u) ≡ k) → with_parent g (with_parent (older u) d) ≡ d → IsRestored g w u → IsRestored g ((k, d) ∷ w) ((k, d) ∷ u)
    on_top u at def rest =
        let P : ℕ → Type 0 = λ n. Renames g false ((length u, with_parent (older u) d) ∷ renumber u) ((n, d) ∷ w) in
        let Q : ArrayDef → Type 0 = λ x. Renames g false ((length u, with_parent (older u) d) ∷ renumber u) ((g (length u), x) ∷ w) in
        record {
          some = subst P at (subst Q def (same (length u) (with_parent (older u) d) rest.some));
          kept = both (sym at) (sym def) rest.kept;
        }
      where
        entry : ℕ → ArrayDef → World → World
        entry n x a = (n, x) ∷ a

        both : {n m : ℕ} {x y : ArrayDef} {a b : World} → n ≡ m → x ≡ y → a ≡ b → entry n x a ≡ entry m y b
        both p q r = cc

    -- what holds for the arrays below the newest, where it is kept
    tail : (u : World) → Restores g f ((k, d) ∷ w) ((k, d) ∷ u) → Restores g f w u
    tail u h = record {
      bound = k;
      below = sound.0;
      inside = λ i lt. (let other : (i == length u) ≡ false = apart_lt i (length u) lt in let e : g i ≡ former ((k, d) ∷ u) f i = h.inside i (omega arith) in rw other at e);
      above = λ i le. elim (cases_lt (length u) i) as (λ x. k ≤ g i) [
        | inl lt ↦ (let b : h.bound ≤ g i = h.above i (omega arith) in let b' : k < h.bound = h.below.0 in omega arith)
        | inr ge ↦ (let is : (i == length u) ≡ true = eq-eqb i (length u) (omega arith) in let e : g i ≡ former ((k, d) ∷ u) f i = h.inside i (omega arith) in let e' : g i ≡ k = rw is at e in omega arith)
      ];
    }

    newest : (u : World) → Restores g f ((k, d) ∷ w) ((k, d) ∷ u) → g (length u) ≡ k
    newest u h = let self : (length u == length u) ≡ true = eq-eqb (length u) (length u) refl in let e : g (length u) ≡ former ((k, d) ∷ u) f (length u) = h.inside (length u) (omega arith) in rw self at e

    def_is : (d : ArrayDef) → AreIn w (parents d) → Restores g f w (sweep w (parents d ++ hs)) → with_parent g (with_parent (older (sweep w (parents d ++ hs))) d) ≡ d
    def_is (root ty ds es) allowed h = refl
    def_is (view p t) allowed h = ap (λ n. view n t) (restored_parent g f (sweep w (p ∷ hs)) p h.inside (parent_kept w hs p allowed.0))

    by_keeps : ((hs' : List ℕ) → Restores g f w (sweep w hs') → IsRestored g w (sweep w hs')) → (keeps : Bool)
        → Restores g f ((k, d) ∷ w) (kept_onto keeps (k, d) (sweep w (if keeps then parents d ++ hs else hs)))
        → IsRestored g ((k, d) ∷ w) (kept_onto keeps (k, d) (sweep w (if keeps then parents d ++ hs else hs)))
    by_keeps rest true h =
        let u = sweep w (parents d ++ hs) in
        let h' : Restores g f w u = tail u h in
        on_top u (newest u h) (def_is d sound.1 h') (rest (parents d ++ hs) h')
    by_keeps rest false h =
        let u = sweep w hs in
        let r : IsRestored g w u = rest hs (record { bound = h.bound; below = h.below.1; inside = h.inside; above = h.above }) in
        let left : (i : ℕ) → g i ≢ k = λ i e. elim (cases_lt i (length u)) as (λ x. ⊥) [
          | inl lt ↦ (let b : former u f i < k = former_below u f k i (NumbersBelow-sweep k w hs sound.0) lt in let s : g i ≡ former u f i = h.inside i lt in omega arith)
          | inr le ↦ (let b : h.bound ≤ g i = h.above i le in let b' : k < h.bound = h.below.0 in omega arith)
        ] in
        record { some = more k d left r.some; kept = r.kept }

-- arrays' names beside these kernels
abbrev pub named : List (List ℕ × KernelTexts) → Named ℕ → Names
named ks bound = record { arrays = bound; kernels = ks }

-- names with the new numbers, and then with the former ones
names_restored : (g f : ℕ → ℕ) (w : World) (hs : List ℕ) (names : Named ℕ) → ((i : ℕ) → i < length (sweep w hs) → g i ≡ former (sweep w hs) f i)
    → AreIn w (map (λ n. n.1) names) → ((v : ℕ) → is_listed (map (λ n. n.1) names) v ≡ true → is_listed hs v ≡ true) → names ≡ renumbered g (renumbered (older (sweep w hs)) names)
names_restored g f w hs [] inside live all_held = refl
names_restored g f w hs (n ∷ names) inside live all_held =
    let self : (n.1 == n.1) ≡ true = eq-eqb n.1 n.1 refl in
    let t : is_listed (n.1 ∷ map (λ n. n.1) names) n.1 ≡ true = rw self refl in
    let there : in_world (sweep w hs) n.1 ≡ true = held_kept w hs n.1 live.0 (all_held n.1 t) in
    let rest : names ≡ renumbered g (renumbered (older (sweep w hs)) names) = names_restored g f w hs names inside live.1 (λ v h. all_held v (by_test (n.1 == v) (λ same. rw same refl) (λ other. rw other h))) in
    ap (λ v. (n.0, v) ∷ names) (sym (restored_parent g f (sweep w hs) n.1 inside there)) ∙ ap (λ r. (n.0, g (older (sweep w hs) n.1)) ∷ r) rest

-- the arrays that names are bound to
abbrev pub bound_in : Names → List ℕ
bound_in names = map (λ n. n.1) names.arrays

-- numbers are in order, and all that names, watches and formulas have is there
pub record IsInOrder (s : State) : Type 0 where
  pub orderly : IsOrderly s.arrays.world
  pub below : NumbersBelow s.arrays.next s.arrays.world
  pub inside : AreIn s.arrays.world (bound_in s.names)
  pub watched : AreIn s.arrays.world (attached s.watches)
  pub read : AreIn s.arrays.world (all_read s.flows)

pub front_in : (w : World) (vs us : List ℕ) → AreIn w (vs ++ us) → AreIn w vs
front_in w [] us h = tt
front_in w (v ∷ vs) us h = (h.0, front_in w vs us h.1)

pub back_in : (w : World) (vs us : List ℕ) → AreIn w (vs ++ us) → AreIn w us
back_in w [] us h = h
back_in w (v ∷ vs) us h = back_in w vs us h.1

pub append_in : (w : World) (vs us : List ℕ) → AreIn w vs → AreIn w us → AreIn w (vs ++ us)
append_in w [] us h k = k
append_in w (v ∷ vs) us h k = (h.0, append_in w vs us h.1 k)

older_in : (w : World) (r : ℕ) (ks : List ℕ) → AreOlder w r ks → AreIn w ks
older_in w r [] h = tt
older_in w r (k ∷ ks) h = (live_inside w k h.1, older_in w r ks h.2)

pub flows_in : (a : Arrays) (flows : Flows) → AreFlows a flows → AreIn a.world (all_read flows)
flows_in a [] h = tt
flows_in a (f ∷ flows) h = append_in a.world (arrays_in f.formula) (all_read flows) (older_in a.world f.root (arrays_in f.formula) h.0.older) (flows_in a flows h.2)

pub in_order : (s : State) → IsWhole s → IsInOrder s
in_order s whole =
    let all : AreIn s.arrays.world (held s) = live_in s.arrays.world (held s) whole.live in
    record {
      orderly = orderly_sound s.arrays.world whole.sound;
      below = whole.below;
      inside = front_in s.arrays.world (bound_in s.names) (attached s.watches) all;
      watched = back_in s.arrays.world (bound_in s.names) (attached s.watches) all;
      read = flows_in s.arrays s.flows whole.flows;
    }

-- watches with the new numbers, and then with the former ones
watches_restored : (g f : ℕ → ℕ) (w : World) (hs : List ℕ) (ws : Watches) → ((i : ℕ) → i < length (sweep w hs) → g i ≡ former (sweep w hs) f i)
    → AreIn w (attached ws) → ((v : ℕ) → is_listed (attached ws) v ≡ true → is_listed hs v ≡ true) → ws ≡ map (option_map g) (map (option_map (older (sweep w hs))) ws)
watches_restored g f w hs [] inside there all_held = refl
watches_restored g f w hs (None ∷ ws) inside there all_held = ap (λ (us : Watches). None ∷ us) (watches_restored g f w hs ws inside there all_held)
watches_restored g f w hs (Some v ∷ ws) inside there all_held =
    let self : (v == v) ≡ true = eq-eqb v v refl in
    let t : is_listed (v ∷ attached ws) v ≡ true = rw self refl in
    let kept : in_world (sweep w hs) v ≡ true = held_kept w hs v there.0 (all_held v t) in
    let rest : ws ≡ map (option_map g) (map (option_map (older (sweep w hs))) ws) = watches_restored g f w hs ws inside there.1 (λ u h. all_held u (by_test (v == u) (λ same. rw same refl) (λ other. rw other h))) in
    ap (λ (u : ℕ). Some u ∷ ws) (sym (restored_parent g f (sweep w hs) v inside kept)) ∙ ap (λ (us : Watches). Some (g (older (sweep w hs) v)) ∷ us) rest

-- an array on a path is in the world
pub on_path_in : (w : World) (u v : ℕ) → is_listed (path w u) v ≡ true → in_world w v ≡ true
on_path_in [] u v on = on
on_path_in ((k, d) ∷ w) u v on = by_test (k == v)
    (λ is. rw is refl)
    (λ other. rw other (by_def (λ x h. on_path_in w x v h) d other on))
  where
    none_listed : (k == v) ≡ false → is_listed (k ∷ []) v ≡ true → in_world w v ≡ true
    none_listed other h = let f : is_listed (k ∷ []) v ≡ false = rw other refl in cc

    by_def : ((x : ℕ) → is_listed (path w x) v ≡ true → in_world w v ≡ true) → (d : ArrayDef) → (k == v) ≡ false → is_listed (path ((k, d) ∷ w) u) v ≡ true → in_world w v ≡ true
    by_def rest (root ty ds es) other h = by_test (k == u)
        (λ same. none_listed other (rw same at h))
        (λ apart. rest u (rw apart at h))
    by_def rest (view p t) other h = by_test (k == u)
        (λ same. let h' : is_listed (k ∷ path w p) v ≡ true = rw same at h in rest p (rw other at h'))
        (λ apart. rest u (rw apart at h))

-- what is reached from what is held is kept
reached_in : (w : World) (many hs : List ℕ) (v : ℕ) → ((u : ℕ) → is_listed hs u ≡ true → is_listed many u ≡ true) → is_reached w hs v ≡ true → in_world (sweep w many) v ≡ true
reached_in w many [] v all_held on = cc
reached_in w many (h ∷ hs) v all_held on = by_test (is_listed (path w h) v)
    (λ here. on_path_in (sweep w many) h v (ap (λ ps. is_listed ps v) (path_kept w many h (all_held h (first_listed h hs))) ∙ here))
    (λ other. let t : is_reached w hs v ≡ true = rw other at on in reached_in w many hs v (λ u k. all_held u (by_test (h == u) (λ same. rw same refl) (λ apart. rw apart k))) t)

-- each flow's root and all that its formula reads are in a world
abbrev AreFlowsIn : World → Flows → Type 0
AreFlowsIn u [] = Unit {0}
AreFlowsIn u (f ∷ flows) = (in_world u f.root ≡ true) × AreIn u (arrays_in f.formula) × AreFlowsIn u flows

all_kept : (w : World) (many ks : List ℕ) → AreIn w ks → ((v : ℕ) → is_listed ks v ≡ true → is_listed many v ≡ true) → AreIn (sweep w many) ks
all_kept w many [] there all_held = tt
all_kept w many (k ∷ ks) there all_held = (
  held_kept w many k there.0 (all_held k (first_listed k ks)),
  all_kept w many ks there.1 (λ v t. all_held v (by_test (k == v) (λ same. rw same refl) (λ other. rw other t))),
)

-- the flows that stay are kept whole
staying_in : (w : World) (many : List ℕ) (flows : Flows) (hs : List ℕ) → AreIn w (all_read flows) → ((v : ℕ) → is_listed (needs_of w flows hs).arrays v ≡ true → is_listed many v ≡ true)
    → AreFlowsIn (sweep w many) (needs_of w flows hs).flows
staying_in w many [] hs there all_held = tt
staying_in w many (f ∷ flows) hs there all_held =
    by_stays (staying_in w many flows hs (back_in w (arrays_in f.formula) (all_read flows) there)) (is_reached w n.arrays f.root) refl all_held
  where
    n : Needs
    n = needs_of w flows hs

    by_stays : (((v : ℕ) → is_listed n.arrays v ≡ true → is_listed many v ≡ true) → AreFlowsIn (sweep w many) n.flows)
        → (stays : Bool) → is_reached w n.arrays f.root ≡ stays → ((v : ℕ) → is_listed (needs_with stays f n).arrays v ≡ true → is_listed many v ≡ true)
        → AreFlowsIn (sweep w many) (needs_with stays f n).flows
    by_stays rest false is all_held = rest all_held
    by_stays rest true is all_held =
        let below : (v : ℕ) → is_listed n.arrays v ≡ true → is_listed many v ≡ true = λ v t. all_held v (listed_back (arrays_in f.formula) n.arrays v t) in (
          reached_in w many n.arrays f.root below is,
          all_kept w many (arrays_in f.formula) (front_in w (arrays_in f.formula) (all_read flows) there) (λ v t. all_held v (listed_front (arrays_in f.formula) n.arrays v t)),
          rest below,
        )

-- formulas with the new numbers, and then with the former ones
formula_restored : (g f : ℕ → ℕ) (u : World) → ((i : ℕ) → i < length u → g i ≡ former u f i) → (x : FormulaTree) → AreIn u (arrays_in x) → x ≡ formula_by g (formula_by (older u) x)
formula_restored g f u inside (number ty z) there = refl
formula_restored g f u inside (array k) there = ap array (sym (restored_parent g f u k inside there.0))
formula_restored g f u inside (unary op x) there = ap (unary op) (formula_restored g f u inside x there)
formula_restored g f u inside (convert ty x) there = ap (convert ty) (formula_restored g f u inside x there)
formula_restored g f u inside (binary op x y) there =
    ap (λ (z : FormulaTree). binary op z y) (formula_restored g f u inside x (front_in u (arrays_in x) (arrays_in y) there))
    ∙ ap (binary op (formula_by g (formula_by (older u) x))) (formula_restored g f u inside y (back_in u (arrays_in x) (arrays_in y) there))

flows_restored : (g f : ℕ → ℕ) (u : World) → ((i : ℕ) → i < length u → g i ≡ former u f i) → (flows : Flows) → AreFlowsIn u flows → flows ≡ map (flow_by g) (map (flow_by (older u)) flows)
flows_restored g f u inside [] there = refl
flows_restored g f u inside (x ∷ flows) there =
    ap (λ (r : ℕ). flow_of r x.formula ∷ flows) (sym (restored_parent g f u x.root inside there.0))
    ∙ ap (λ (y : FormulaTree). flow_of (g (older u x.root)) y ∷ flows) (formula_restored g f u inside x.formula there.1)
    ∙ ap (λ (fs : Flows). flow_of (g (older u x.root)) (formula_by g (formula_by (older u) x.formula)) ∷ fs) (flows_restored g f u inside flows there.2)

-- the former numbers of a state's arrays
abbrev pub former_numbers : State → ℕ → ℕ
former_numbers s = before (kept s) s.arrays.next

restores : (s : State) → IsInOrder s → Restores (former_numbers s) (past (kept s) s.arrays.next) s.arrays.world (kept s)
restores s order = record {
  bound = s.arrays.next;
  below = order.below;
  inside = λ i lt. refl;
  above = λ i le. omega (arith, former_past (kept s) (past (kept s) s.arrays.next) i le);
}

-- what is kept has the arrays of the tidied world under their former numbers, and no others
pub swept_is : (s : State) → IsInOrder s → kept s ≡ renamed (former_numbers s) (tidy s).arrays.world
swept_is s order = (restored (former_numbers s) (past (kept s) s.arrays.next) s.arrays.world (needs s).arrays order.orderly (restores s order)).kept

pub former_apart : (s : State) → IsInOrder s → IsApart (former_numbers s)
former_apart s order =
    before_apart (kept s) s.arrays.next (InOrder-sweep s.arrays.world (needs s).arrays order.orderly) (NumbersBelow-sweep s.arrays.next s.arrays.world (needs s).arrays order.below)

-- and rose with these
pub former_rising : (s : State) → IsInOrder s → (i j : ℕ) → i < j → former_numbers s i < former_numbers s j
former_rising s order i j lt =
    before_rises (kept s) s.arrays.next i j (InOrder-sweep s.arrays.world (needs s).arrays order.orderly) (NumbersBelow-sweep s.arrays.next s.arrays.world (needs s).arrays order.below) lt

-- a state without the flows that it doesn't keep and the tidied one are alike
pub tidied_alike : (s : State) → IsInOrder s → StateAlike false (former_numbers s) (tidy s) (settled s)
tidied_alike s order =
    let w = s.arrays.world in
    let u = kept s in
    let hs : List ℕ = (needs s).arrays in
    let f = past u s.arrays.next in
    let h : Restores (former_numbers s) f w u = restores s order in
    let needed : (v : ℕ) → is_listed (held s) v ≡ true → is_listed hs v ≡ true = held_needed w s.flows (held s) in
    record {
      arrays = record {
        apart = former_apart s order;
        world = (restored (former_numbers s) f w hs order.orderly h).some;
        next = (let e : before u s.arrays.next (length u) ≡ f (length u) = former_past u f (length u) (omega arith) in omega arith);
        on = λ i le. omega (arith, former_past u f i le, former_past u f (i + 1) (omega arith));
      };
      names = ap (named s.names.kernels)
          (names_restored (former_numbers s) f w hs s.names.arrays h.inside order.inside (λ v t. needed v (listed_front (bound_in s.names) (attached s.watches) v t)));
      watches = watches_restored (former_numbers s) f w hs s.watches h.inside order.watched (λ v t. needed v (listed_back (bound_in s.names) (attached s.watches) v t));
      flows = flows_restored (former_numbers s) f u h.inside (needs s).flows (staying_in w hs s.flows (held s) order.read (λ v t. t));
    }

-- a world under other numbers has all of its arrays
pub all_renamed : (g : ℕ → ℕ) (w : World) → Renames g true w (renamed g w)
all_renamed g [] = empty
all_renamed g ((i, d) ∷ w) = same i d (all_renamed g w)

-- where nothing is left over, the tidied state has all arrays
pub swept_alike : (s : State) → IsInOrder s → IsSwept s → StateAlike true (former_numbers s) (tidy s) s
swept_alike s order swept =
    let g = former_numbers s in
    let h : StateAlike false g (tidy s) (settled s) = tidied_alike s order in
    let P : World → Type 0 = λ w. Renames g true (tidy s).arrays.world w in
    let all : P s.arrays.world = subst P (sym (swept_is s order) ∙ swept.arrays) (all_renamed g (tidy s).arrays.world) in
    record { arrays = record { apart = h.arrays.apart; world = all; next = h.arrays.next; on = h.arrays.on }; names = h.names; watches = h.watches; flows = sym swept.flows ∙ h.flows }
