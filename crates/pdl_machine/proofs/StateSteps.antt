-- The laws of steps.
use Rattle.std.proofs.Common.{◌≡◌, ℕ, ℤ, List, [], ◌∷◌, ◌++◌, map, Bool, true, false, Option, Some, None, Result, Ok, Err, inl, inr, refl, sym, ap, subst, ◌∙◌, arith, eqb-true, eq-eqb}
use Rattle.std.specs.Prelude.{◌==◌, ◌||◌, if◌then◌else◌, option_map, IfOk}
use Rattle.pdl_lemmas.specs.Tests.{by_test}
use Rattle.pdl_world.specs.declared.Trans.{Trans}
use Rattle.pdl_world.specs.World.{World, ArrayDef, root, view, elements}
use Rattle.pdl_world.specs.Sound.{NumbersBelow, IsSound}
use Rattle.pdl_flow.specs.Formula.{arrays_in}
use Rattle.pdl_world.specs.Paths.{path}
use Rattle.pdl_world.specs.Swept.{is_listed, parents, kept_onto, sweep, Has, IsReached, held_itself, parent_of}
use Rattle.pdl_machine.specs.declared.fault.Fault.{Fault}
use Rattle.pdl_machine.specs.Names.{number_of}
use Rattle.pdl_machine.specs.Arrays.{Arrays, array_in}
use Rattle.pdl_machine.specs.Then.{and_then}
use Rattle.pdl_machine.specs.Watches.{Watches, notices}
use Rattle.pdl_watch.specs.declared.notice.Notice.{Notice}
use Rattle.pdl_watch.specs.Changes.{changes}
use Rattle.pdl_syntax.specs.StatementTree.{StatementTree}
use Rattle.pdl_machine.specs.Flows.{Flows, all_read, is_reached, Needs, needs_with, needs_of}
use Rattle.pdl_machine.specs.State.{State, held, needs}
use Rattle.pdl_machine.specs.Tidy.{with_parent, numbered, settled, tidy}
use Rattle.pdl_machine.specs.Step.{Stepped, Done, left, done, effect}
use Rattle.pdl_machine.specs.Laws.{StepsAlike, NewArraysUnseen, AreAllReached, StepsLeaveReached, TidyingShowsTheSame}
use Rattle.pdl_machine.proofs.ArraysRenamed.{IsApart, holds_renamed, AreAlike, StateAlike, elements_renamed, array_alike}
use Rattle.pdl_machine.proofs.ThenBoth.{Both}
use Rattle.pdl_machine.proofs.StepValues.{StepAlike, number_of_alike}
use Rattle.pdl_machine.proofs.StepEffects.{effect_alike}
use Rattle.pdl_machine.proofs.TidyLemmas.{renamed, needs_alike, tidy_alike}
use Rattle.pdl_machine.proofs.FlowLemmas.{path_other, needs_again}
use Rattle.pdl_machine.proofs.TidyNumbering.{in_world, AreIn, live_in, front_in, back_in, append_in, IsInOrder, in_order, former_numbers, former_apart, swept_is, tidied_alike, swept_alike}
use Rattle.pdl_machine.proofs.OutcomeOrder.{effect_in_order}

-- the same is told of arrays under other numbers
notices_alike : {all : Bool} (number : ℕ) (g : ℕ → ℕ) (a b c d : Arrays) → AreAlike all g a b → AreAlike all g c d → (ws : Watches)
    → notices number b.world d.world (map (option_map g) ws) ≡ notices number a.world c.world ws
notices_alike number g a b c d h k [] = refl
notices_alike number g a b c d h k (None ∷ ws) = ap (λ (all : List (List Notice)). [] ∷ all) (notices_alike number g a b c d h k ws)
notices_alike number g a b c d h k (Some v ∷ ws) =
    let rest : List (List Notice) = notices number b.world d.world (map (option_map g) ws) in
    ap (λ (es : List ℤ). changes number es (elements d.world (g v)) ∷ rest) (elements_renamed g h.apart h.world v)
    ∙ ap (λ (es : List ℤ). changes number (elements a.world v) es ∷ rest) (elements_renamed g k.apart k.world v)
    ∙ ap (λ (all : List (List Notice)). changes number (elements a.world v) (elements c.world v) ∷ all) (notices_alike number g a b c d h k ws)

-- what an effect comes to
abbrev finished : (number : ℕ) (present : List Bool) → State → StatementTree → Stepped → Result Done Fault
finished number present s statement x = and_then x (λ after. Ok (done number present s statement after))

abbrev done_of : State → List ℕ → List (List Notice) → List Bool → Result Done Fault
done_of s text told present = Ok (record { state = s; text = text; told = told; present = present })

-- effects that are alike come to the same
steps_alike : (number : ℕ) (present : List Bool) (g : ℕ → ℕ) (s t : State) → StateAlike true g s t → (statement : StatementTree) (x y : Stepped) → Both (StepAlike g) x y
    → finished number present t statement y ≡ finished number present s statement x
steps_alike number present g s t before statement (Ok (a, text)) (Ok (b, other)) h =
    let told : notices number t.arrays.world b.arrays.world b.watches ≡ notices number s.arrays.world a.arrays.world a.watches =
    ap (notices number t.arrays.world b.arrays.world) h.0.watches ∙ notices_alike number g s.arrays t.arrays a.arrays b.arrays before.arrays h.0.arrays a.watches in
    all_same (tidy_alike g a b h.0) (sym h.1) told
  where
    all_same : {u v : State} {xs ys : List ℕ} {ns ms : List (List Notice)} → u ≡ v → xs ≡ ys → ns ≡ ms → done_of u xs ns (left present statement) ≡ done_of v ys ms (left present statement)
    all_same p q r = cc
steps_alike number present g s t before statement (Ok (a, text)) (Err f) h = absurd h
steps_alike number present g s t before statement (Err e) (Ok (b, other)) h = absurd h
steps_alike number present g s t before statement (Err e) (Err f) h = ap fault (sym h)
  where
    fault : Fault → Result Done Fault
    fault e = Err e

pub steps_are_alike : StepsAlike
steps_are_alike number present s statement whole swept =
    let g = former_numbers s in
    let alike : StateAlike true g (tidy s) s = swept_alike s (in_order s whole) swept in
    sym (steps_alike number present g (tidy s) s alike statement (effect present (tidy s) statement) (effect present s statement) (effect_alike present g (tidy s) s alike statement))

-- what is seen through the tidied state is what was seen
pub tidying_shows_the_same : TidyingShowsTheSame
tidying_shows_the_same s x whole =
    let g = former_numbers s in
    let h : StateAlike false g (tidy s) (settled s) = tidied_alike s (in_order s whole) in
    let name : number_of s.names x ≡ option_map g (number_of (tidy s).names x) = ap (λ names. number_of names x) h.names ∙ number_of_alike g (tidy s).names x in
    sym (ap (option_map (array_in s.arrays)) name ∙ by_number g h (number_of (tidy s).names x))
  where
    by_number : (g : ℕ → ℕ) → StateAlike false g (tidy s) (settled s) → (o : Option ℕ) → option_map (array_in s.arrays) (option_map g o) ≡ option_map (array_in (tidy s).arrays) o
    by_number g h None = refl
    by_number g h (Some v) = ap Some (array_alike g (tidy s).arrays s.arrays h.arrays v)

-- a number above a world isn't in it
pub absent : (w : World) (n v : ℕ) → NumbersBelow n w → in_world w v ≡ true → (v == n) ≡ false
absent [] n v below there = cc
absent ((k, d) ∷ w) n v below there =
    by_test (k == v)
    (λ is. by_test (v == n) (λ is_n. let a : k ≡ v = eqb-true k v is in let b : v ≡ n = eqb-true v n is_n in absurd (omega arith)) (λ other. other))
    (λ other. let t : in_world w v ≡ true = rw other at there in absent w n v below.1 t)

pub unheld : (w : World) (hs : List ℕ) (k : ℕ) → NumbersBelow k w → AreIn w hs → is_listed hs k ≡ false
unheld w [] k below there = refl
unheld w (v ∷ hs) k below there = let other : (v == k) ≡ false = absent w k v below there.0 in rw other (unheld w hs k below there.1)

pub below_rest : (more w : World) (k : ℕ) → NumbersBelow k (more ++ w) → NumbersBelow k w
below_rest [] w k b = b
below_rest (a ∷ more) w k b = below_rest more w k b.1

-- new arrays that aren't held are swept
sweep_more : (more w : World) (hs : List ℕ) → IsSound (more ++ w) → AreIn w hs → sweep (more ++ w) hs ≡ sweep w hs
sweep_more [] w hs sound there = refl
sweep_more ((k, d) ∷ more) w hs sound there =
    let P : Bool → Type 0 = λ keeps. kept_onto keeps (k, d) (sweep (more ++ w) (if keeps then parents d ++ hs else hs)) ≡ sweep w hs in
    subst P (sym (unheld w hs k (below_rest more w k sound.0) there)) (sweep_more more w hs sound.2 there)

-- and leave the paths of the others
path_more : (more w : World) (u : ℕ) → IsSound (more ++ w) → in_world w u ≡ true → path (more ++ w) u ≡ path w u
path_more [] w u sound there = refl
path_more ((k, d) ∷ more) w u sound there =
    let other : (k == u) ≡ false = by_test (k == u) (λ same. let e : k ≡ u = eqb-true k u same in let t : (u == k) ≡ true = eq-eqb u k (sym e) in absurd (apart t)) (λ o. o) in
    path_other k u d (more ++ w) other ∙ path_more more w u sound.2 there
  where
    apart : (u == k) ≡ true → ⊥
    apart t = let f : (u == k) ≡ false = absent w k u (below_rest more w k sound.0) there in cc

reached_more : (more w : World) (hs : List ℕ) (v : ℕ) → IsSound (more ++ w) → AreIn w hs → is_reached (more ++ w) hs v ≡ is_reached w hs v
reached_more more w [] v sound there = refl
reached_more more w (h ∷ hs) v sound there =
    ap (λ (ps : List ℕ). is_listed ps v || is_reached (more ++ w) hs v) (path_more more w h sound there.0)
    ∙ ap (λ x. is_listed (path w h) v || x) (reached_more more w hs v sound there.1)

-- what is needed is held, or a formula reads it
pub needs_in : (w u : World) (flows : Flows) (hs : List ℕ) → AreIn w hs → AreIn w (all_read flows) → AreIn w (needs_of u flows hs).arrays
needs_in w u [] hs there read = there
needs_in w u (f ∷ flows) hs there read =
    by_stays (needs_in w u flows hs there (back_in w (arrays_in f.formula) (all_read flows) read)) (is_reached u (needs_of u flows hs).arrays f.root)
  where
    by_stays : AreIn w (needs_of u flows hs).arrays → (stays : Bool) → AreIn w (needs_with stays f (needs_of u flows hs)).arrays
    by_stays rest true = append_in w (arrays_in f.formula) (needs_of u flows hs).arrays (front_in w (arrays_in f.formula) (all_read flows) read) rest
    by_stays rest false = rest

needs_more : (more w : World) (flows : Flows) (hs : List ℕ) → IsSound (more ++ w) → AreIn w hs → AreIn w (all_read flows) → needs_of (more ++ w) flows hs ≡ needs_of w flows hs
needs_more more w [] hs sound there read = refl
needs_more more w (f ∷ flows) hs sound there read =
    let others : AreIn w (all_read flows) = back_in w (arrays_in f.formula) (all_read flows) read in
    let n : Needs = needs_of w flows hs in
    ap (λ (m : Needs). needs_with (is_reached (more ++ w) m.arrays f.root) f m) (needs_more more w flows hs sound there others)
    ∙ ap (λ (stays : Bool). needs_with stays f n) (reached_more more w n.arrays f.root sound (needs_in w w flows hs there others))

-- the state with these flows and arrays, numbered anew
abbrev left_with : State → Needs → World → State
left_with s n w = numbered (record s { flows = n.flows }) w

pub new_arrays_are_unseen : NewArraysUnseen
new_arrays_are_unseen s a grown sound live read =
    let w : World = s.arrays.world in
    let both : IsSound (grown.more ++ w) = subst IsSound grown.is sound in
    let there : AreIn w (held s) = live_in w (held s) live in
    let others : AreIn w (all_read s.flows) = live_in w (all_read s.flows) read in
    ap (λ (u : World). left_with s (needs_of u s.flows (held s)) (sweep u (needs_of u s.flows (held s)).arrays)) grown.is
    ∙ ap (λ (n : Needs). left_with s n (sweep (grown.more ++ w) n.arrays)) (needs_more grown.more w s.flows (held s) both there others)
    ∙ ap (left_with s (needs s)) (sweep_more grown.more w (needs s).arrays both (needs_in w w s.flows (held s) there others))

-- what is reached from the parents of a newest array that is held is reached with it
below_newest : (u : World) (hs : List ℕ) (j : ℕ) (e : ArrayDef) → is_listed hs j ≡ true → (k : ℕ) → IsReached u (parents e ++ hs) k → IsReached ((j, e) ∷ u) hs k
below_newest u hs j e held_j k (held_itself k' h) = by_parents e h
  where
    by_parents : (e : ArrayDef) → is_listed (parents e ++ hs) k' ≡ true → IsReached ((j, e) ∷ u) hs k'
    by_parents (root ty ds es) h = held_itself k' h
    by_parents (view p t) h = by_test (p == k')
        (λ same. let P : ℕ → Type 0 = λ x. IsReached ((j, view p t) ∷ u) hs x in
        subst P (eqb-true p k' same) (parent_of j p t (inl (refl, refl)) (held_itself j held_j)))
        (λ other. held_itself k' (let h' : is_listed hs k' ≡ true = rw other at h in h'))
below_newest u hs j e held_j k (parent_of v p t there r) = parent_of v p t (inr there) (below_newest u hs j e held_j v r)

-- each array that is kept is reached
swept_reached : (w : World) (hs : List ℕ) (k : ℕ) (d : ArrayDef) → Has (sweep w hs) k d → IsReached (sweep w hs) hs k
swept_reached [] hs k d there = absurd there
swept_reached ((j, e) ∷ w) hs k d there = by_keeps (λ h. swept_reached w h k d) (is_listed hs j) refl there
  where
    by_keeps : ((h : List ℕ) → Has (sweep w h) k d → IsReached (sweep w h) h k) → (keeps : Bool) → is_listed hs j ≡ keeps
        → Has (kept_onto keeps (j, e) (sweep w (if keeps then parents e ++ hs else hs))) k d
        → IsReached (kept_onto keeps (j, e) (sweep w (if keeps then parents e ++ hs else hs))) hs k
    by_keeps rest false is there = rest hs there
    by_keeps rest true is (inl same) =
        let P : ℕ → Type 0 = λ x. IsReached ((j, e) ∷ sweep w (parents e ++ hs)) hs x in subst P same.0 (held_itself j is)
    by_keeps rest true is (inr there) = below_newest (sweep w (parents e ++ hs)) hs j e is k (rest (parents e ++ hs) there)

has_renamed : (g : ℕ → ℕ) (w : World) (k : ℕ) (d : ArrayDef) → Has w k d → Has (renamed g w) (g k) (with_parent g d)
has_renamed g [] k d there = absurd there
has_renamed g ((j, e) ∷ w) k d (inl same) = inl (ap g same.0, ap (with_parent g) same.1)
has_renamed g ((j, e) ∷ w) k d (inr there) = inr (has_renamed g w k d there)

-- a view under other numbers is a view of the world
view_there : (g : ℕ → ℕ) (w : World) (k p : ℕ) (t : Trans) → Has (renamed g w) k (view p t) → (j : ℕ) × (i : ℕ) × (g j ≡ k) × (g i ≡ p) × Has w j (view i t)
view_there g [] k p t there = absurd there
view_there g ((j, root ty ds es) ∷ w) k p t (inl same) = cc
view_there g ((j, view i s) ∷ w) k p t (inl same) = (j, i, same.0, parent same.1, inl (refl, ap (view i) (trans same.1)))
  where
    parent : view (g i) s ≡ view p t → g i ≡ p
    parent e = cc

    trans : view (g i) s ≡ view p t → s ≡ t
    trans e = cc
view_there g ((j, e) ∷ w) k p t (inr there) = let h = view_there g w k p t there in (h.0, h.1, h.2, h.3, inr h.4)

-- what is reached under other numbers is reached
reached_back : (g : ℕ → ℕ) → IsApart g → (w : World) (hs : List ℕ) (k : ℕ) → IsReached (renamed g w) (map g hs) k → (i : ℕ) → k ≡ g i → IsReached w hs i
reached_back g apart w hs k (held_itself k' h) i same =
    held_itself i (sym (holds_renamed g apart hs i) ∙ ap (is_listed (map g hs)) (sym same) ∙ h)
reached_back g apart w hs k (parent_of v p t there r) i same =
    let h = view_there g w v p t there in
    let P : ℕ → Type 0 = λ n. IsReached w hs n in
    subst P (apart h.1 i (h.3 ∙ same)) (parent_of h.0 h.1 t h.4 (reached_back g apart w hs v r h.0 (sym h.2)))

-- what a state needs, by the numbers of the tidied one
pub needs_before : (s : State) → IsInOrder s → (needs s).arrays ≡ map (former_numbers s) (needs (tidy s)).arrays
needs_before s order =
    ap (λ (n : Needs). n.arrays) (sym (needs_again s.arrays.world s.flows (held s)) ∙ needs_alike (former_numbers s) (tidy s) (settled s) (tidied_alike s order))

-- each array of a tidied state is reached
tidied_reached : (s : State) → IsInOrder s → AreAllReached (tidy s)
tidied_reached s order k d there =
    let g = former_numbers s in
    let hs : List ℕ = (needs s).arrays in
    let P : World → Type 0 = λ u. Has u (g k) (with_parent g d) → IsReached u hs (g k) in
    let Q : List ℕ → Type 0 = λ hs. IsReached (renamed g (tidy s).arrays.world) hs (g k) in
    let in_renamed = subst P (swept_is s order) (swept_reached s.arrays.world hs (g k) (with_parent g d)) (has_renamed g (tidy s).arrays.world k d there) in
    reached_back g (former_apart s order) (tidy s).arrays.world (needs (tidy s)).arrays (g k) (subst Q (needs_before s order) in_renamed) k refl

pub steps_leave_reached : StepsLeaveReached
steps_leave_reached number present s statement came whole is =
    by_effect (effect present s statement) (effect_in_order present s (in_order s whole) statement) is
  where
    state_in : State → Result Done Fault → State
    state_in other (Ok d) = d.state
    state_in other (Err e) = other

    by_effect : (x : Stepped) → IfOk x (λ t. IsInOrder t.0) → finished number present s statement x ≡ Ok came → AreAllReached came.state
    by_effect (Ok (t, text)) order is = let e : tidy t ≡ came.state = ap (state_in came.state) is in subst AreAllReached e (tidied_reached t order)
    by_effect (Err f) order is = cc
