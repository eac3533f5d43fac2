-- Which flows stay where arrays are let go, and what is there then.
use Rattle.std.proofs.Common.{◌≡◌, ℕ, ◌+◌, ◌<◌, ◌≤◌, List, [], ◌∷◌, ◌++◌, length, get_or, take, drop, append_assoc, Bool, true, false, Some, inl, inr, refl, sym, ap, subst, ◌∙◌, arith, eqb-true, eq-eqb}
use Rattle.std.specs.Prelude.{◌==◌, ◌⊎◌, if◌then◌else◌, is_some, pos, slice_get}
use Rattle.std.proofs.lemmas.List.{append-nil, drop_all, drop_more, length-append, length-take-le, take-append-drop, take_all, take_more}
use Rattle.std.proofs.Math.Seq.{drop-append-add, take-append_seam}
use Rattle.pdl_lemmas.specs.Tests.{by_test}
use Rattle.pdl_elem.specs.declared.Ty.TheVariants.{Byte}
use Rattle.pdl_flow.specs.Formula.{arrays_in, number}
use Rattle.pdl_world.specs.BreakLaws.{BelowLaws}
use Rattle.pdl_world.specs.KeepingLaws.{MoreKeepAll}
use Rattle.pdl_world.specs.Paths.{path}
use Rattle.pdl_world.specs.Sound.{IsSound}
use Rattle.pdl_world.specs.SweepLaws.{IsSeenAsBefore, KeptWereReached, ReachedAreSeenAsBefore}
use Rattle.pdl_world.specs.Swept.{is_listed, sweep, IsReached, held_itself, parent_of}
use Rattle.pdl_world.specs.World.{World, look, root}
use Rattle.pdl_engine.specs.State.{State as Engine}
use Rattle.pdl_machine.specs.Arrays.{Arrays}
use Rattle.pdl_machine.specs.Flows.{Flow, Flows, all_read, is_reached, Needs, needs_of, needs_with}
use Rattle.pdl_machine.specs.Following.{AreFlows, IsFlow, RootsAbove}
use Rattle.pdl_machine.specs.Laws.{PathsReach, SweepsByFewer}
use Rattle.pdl_machine.specs.State.{AreLive}
use Rattle.pdl_scope.specs.Holding.{LetsGo}
use Rattle.pdl_scope.specs.LetGo.{HasFlows, KeepsNeeded, without_at}
use Rattle.pdl_scope.specs.Scope.{arrays_of}
use Rattle.pdl_scope.proofs.LetGoBounds.{has_live}
use Rattle.pdl_scope.proofs.FlowingStays.{first_listed, later_listed, listed_front, listed_back, listed_split, older_is, flow_live, seen_live}
use Rattle.pdl_scope.proofs.HoldingLemmas.{all_gone, live_some, some_live}

-- ---- what is reached

-- what is reached from these is reached from more
reached_more : (w : World) (hs many : List ℕ) (v : ℕ) → ((u : ℕ) → is_listed hs u ≡ true → is_listed many u ≡ true) → IsReached w hs v → IsReached w many v
reached_more w hs many v inside (held_itself k t) = held_itself k (inside k t)
reached_more w hs many v inside (parent_of k p t there reached) = parent_of k p t there (reached_more w hs many k inside reached)

-- what one of these reaches is reached
reached_by : (w : World) (hs : List ℕ) (h v : ℕ) → is_listed hs h ≡ true → is_listed (path w h) v ≡ true → is_reached w hs v ≡ true
reached_by w [] h v t on = cc
reached_by w (u ∷ hs) h v t on = by_test (u == h)
    (λ same. let here : is_listed (path w u) v ≡ true = ap (λ n. is_listed (path w n) v) (eqb-true u h same) ∙ on in rw here refl)
    (λ other. by_test (is_listed (path w u) v) (λ here. rw here refl) (λ off. rw off (reached_by w hs h v (rw other at t) on)))

-- a root that is on the path of an array that is reached is on the path of one of those that are held
root_on : BelowLaws → (w : World) (hs : List ℕ) (r : ℕ) → IsSound w → path w r ≡ r ∷ [] → (u : ℕ) → IsReached w hs u → is_listed (path w u) r ≡ true → is_reached w hs r ≡ true
root_on laws w hs r sound own u (held_itself k t) on = reached_by w hs k r t on
root_on laws w hs r sound own u (parent_of k p t there reached) on = root_on laws w hs r sound own k reached (by_test (k == r)
    (λ same. ap (λ n. is_listed (path w n) r) (eqb-true k r same) ∙ ap (λ (ps : List ℕ). is_listed ps r) own ∙ first_listed r [])
    (λ other. laws.not_on w r k p t sound there (λ e. (let s : (k == r) ≡ true = eq-eqb k r e in cc)) ∙ on))

-- what is reached from these, each of which is older or among those, is reached from those
reached_either : BelowLaws → (w : World) (xs ys : List ℕ) (r : ℕ) → IsSound w → ((u : ℕ) → is_listed xs u ≡ true → (u < r) ⊎ (is_listed ys u ≡ true)) → is_reached w xs r ≡ true → is_reached w ys r ≡ true
reached_either laws w [] ys r sound each on = cc
reached_either laws w (x ∷ xs) ys r sound each on = by_test (is_listed (path w x) r)
    (λ here. by_each here (each x (first_listed x xs)))
    (λ off. reached_either laws w xs ys r sound (λ u t. each u (later_listed x u xs t)) (rw off at on))
  where
    by_each : is_listed (path w x) r ≡ true → (x < r) ⊎ (is_listed ys x ≡ true) → is_reached w ys r ≡ true
    by_each here (inl low) = let up : r ≤ x = laws.not_older w r x sound here in absurd (omega (arith, low, up))
    by_each here (inr t) = reached_by w ys x r t here

-- ---- what formulas read

pub all_read_more : (xs ys : Flows) → all_read (xs ++ ys) ≡ all_read xs ++ all_read ys
all_read_more [] ys = refl
all_read_more (f ∷ xs) ys = ap (λ (ks : List ℕ). arrays_in f.formula ++ ks) (all_read_more xs ys) ∙ sym (append_assoc (arrays_in f.formula) (all_read xs) (all_read ys))

-- a flow's root is newer than those of the flows before it
above_in : (n : ℕ) (xs ys : Flows) (f : Flow) → RootsAbove n (xs ++ f ∷ ys) → n < f.root
above_in n [] ys f h = h.0
above_in n (g ∷ xs) ys f h = above_in n xs ys f h.1

-- and than all that it and these read
older_all : (a : Arrays) (xs ys : Flows) (f : Flow) → AreFlows a (xs ++ f ∷ ys) → (k : ℕ) → is_listed (all_read xs ++ arrays_in f.formula) k ≡ true → k < f.root
older_all a [] ys f h k t = (older_is a.world f.root (arrays_in f.formula) k h.0.older t).0
older_all a (g ∷ xs) ys f h k t = by_part (older_all a xs ys f h.2 k) (listed_split (arrays_in g.formula) (all_read xs ++ arrays_in f.formula) k (ap (λ (ks : List ℕ). is_listed ks k) (sym (append_assoc (arrays_in g.formula) (all_read xs) (arrays_in f.formula))) ∙ t))
  where
    by_part : (is_listed (all_read xs ++ arrays_in f.formula) k ≡ true → k < f.root) → (is_listed (arrays_in g.formula) k ≡ true) ⊎ (is_listed (all_read xs ++ arrays_in f.formula) k ≡ true) → k < f.root
    by_part rest (inl here) =
        let low : k < g.root = (older_is a.world g.root (arrays_in g.formula) k h.0.older here).0 in
        let up : g.root < f.root = above_in g.root xs ys f h.1 in
        omega (arith, low, up)
    by_part rest (inr there) = rest there

flow_in : (a : Arrays) (xs ys : Flows) (f : Flow) → AreFlows a (xs ++ f ∷ ys) → IsFlow a f
flow_in a [] ys f h = h.0
flow_in a (g ∷ xs) ys f h = flow_in a xs ys f h.2

-- ---- what is needed

-- what is needed is held, or read by a flow that stays
pub needs_held : (w : World) (flows : Flows) (hs : List ℕ) (v : ℕ) → is_listed (needs_of w flows hs).arrays v ≡ true → is_listed (hs ++ all_read (needs_of w flows hs).flows) v ≡ true
needs_held w [] hs v t = listed_front hs [] v t
needs_held w (f ∷ flows) hs v t = by_stays (needs_held w flows hs v) (is_reached w n.arrays f.root) t
  where
    n : Needs
    n = needs_of w flows hs

    by_rest : (is_listed hs v ≡ true) ⊎ (is_listed (all_read n.flows) v ≡ true) → is_listed (hs ++ (arrays_in f.formula ++ all_read n.flows)) v ≡ true
    by_rest (inl own) = listed_front hs (arrays_in f.formula ++ all_read n.flows) v own
    by_rest (inr read) = listed_back hs (arrays_in f.formula ++ all_read n.flows) v (listed_back (arrays_in f.formula) (all_read n.flows) v read)

    by_part : (is_listed n.arrays v ≡ true → is_listed (hs ++ all_read n.flows) v ≡ true) → (is_listed (arrays_in f.formula) v ≡ true) ⊎ (is_listed n.arrays v ≡ true)
        → is_listed (hs ++ (arrays_in f.formula ++ all_read n.flows)) v ≡ true
    by_part rest (inl here) = listed_back hs (arrays_in f.formula ++ all_read n.flows) v (listed_front (arrays_in f.formula) (all_read n.flows) v here)
    by_part rest (inr there) = by_rest (listed_split hs (all_read n.flows) v (rest there))

    by_stays : (is_listed n.arrays v ≡ true → is_listed (hs ++ all_read n.flows) v ≡ true) → (stays : Bool) → is_listed (needs_with stays f n).arrays v ≡ true
        → is_listed (hs ++ all_read (needs_with stays f n).flows) v ≡ true
    by_stays rest true h = by_part rest (listed_split (arrays_in f.formula) n.arrays v h)
    by_stays rest false h = rest h

-- and the other way round
pub held_needs : (w : World) (flows : Flows) (hs : List ℕ) (v : ℕ) → is_listed (hs ++ all_read (needs_of w flows hs).flows) v ≡ true → is_listed (needs_of w flows hs).arrays v ≡ true
held_needs w [] hs v t = ap (λ (ks : List ℕ). is_listed ks v) (sym (append-nil hs)) ∙ t
held_needs w (f ∷ flows) hs v t = by_stays (held_needs w flows hs v) (is_reached w n.arrays f.root) t
  where
    n : Needs
    n = needs_of w flows hs

    by_read : (is_listed (hs ++ all_read n.flows) v ≡ true → is_listed n.arrays v ≡ true) → (is_listed (arrays_in f.formula) v ≡ true) ⊎ (is_listed (all_read n.flows) v ≡ true)
        → is_listed (arrays_in f.formula ++ n.arrays) v ≡ true
    by_read rest (inl here) = listed_front (arrays_in f.formula) n.arrays v here
    by_read rest (inr read) = listed_back (arrays_in f.formula) n.arrays v (rest (listed_back hs (all_read n.flows) v read))

    by_part : (is_listed (hs ++ all_read n.flows) v ≡ true → is_listed n.arrays v ≡ true) → (is_listed hs v ≡ true) ⊎ (is_listed (arrays_in f.formula ++ all_read n.flows) v ≡ true)
        → is_listed (arrays_in f.formula ++ n.arrays) v ≡ true
    by_part rest (inl own) = listed_back (arrays_in f.formula) n.arrays v (rest (listed_front hs (all_read n.flows) v own))
    by_part rest (inr read) = by_read rest (listed_split (arrays_in f.formula) (all_read n.flows) v read)

    by_stays : (is_listed (hs ++ all_read n.flows) v ≡ true → is_listed n.arrays v ≡ true) → (stays : Bool) → is_listed (hs ++ all_read (needs_with stays f n).flows) v ≡ true
        → is_listed (needs_with stays f n).arrays v ≡ true
    by_stays rest true h = by_part rest (listed_split hs (arrays_in f.formula ++ all_read n.flows) v h)
    by_stays rest false h = rest h

-- ---- from the newest flow on

abbrev pub no_flow : Flow
no_flow = record { root = 0; formula = number Byte (pos 0) }

-- the laws of arrays that are let go
pub record Laws : Type 0 where
  pub below : BelowLaws
  pub paths : PathsReach
  pub kept : KeptWereReached
  pub reached : ReachedAreSeenAsBefore
  pub again : SweepsByFewer

-- What is so of the flows from a place on, which were asked, and of those before it.
pub record AreAsked (staying : List ℕ) (first : Engine) (all : Flows) (at : ℕ) (e : Engine) (left : Flows) : Type 0 where
  pub flows : left ≡ take at all ++ (needs_of first.world (drop at all) staying).flows
  pub lets_go : LetsGo (staying ++ all_read left) first e []

-- a flow's root is there exactly where what is needed besides reaches it
root_there : Laws → (a : Arrays) (xs ys left : Flows) (f : Flow) (hs needed : List ℕ) → IsSound a.world → AreFlows a (xs ++ f ∷ ys)
    → ((v : ℕ) → is_listed (hs ++ all_read left) v ≡ true → is_listed needed v ≡ true) → ((v : ℕ) → is_listed needed v ≡ true → is_listed (hs ++ all_read left) v ≡ true)
    → is_some (look (sweep a.world (hs ++ all_read (xs ++ f ∷ left))) f.root) ≡ is_reached a.world needed f.root
root_there laws a xs ys left f hs needed sound flows front back = by_test (is_reached w needed r) there gone
  where
    w : World
    w = a.world

    r : ℕ
    r = f.root

    all : List ℕ
    all = hs ++ all_read (xs ++ f ∷ left)

    is : IsFlow a f
    is = flow_in a xs ys f flows

    split : all_read (xs ++ f ∷ left) ≡ (all_read xs ++ arrays_in f.formula) ++ all_read left
    split = all_read_more xs (f ∷ left) ∙ sym (append_assoc (all_read xs) (arrays_in f.formula) (all_read left))

    within : (v : ℕ) → is_listed (hs ++ all_read left) v ≡ true → is_listed all v ≡ true
    within v t = by_part (listed_split hs (all_read left) v t)
      where
        by_part : (is_listed hs v ≡ true) ⊎ (is_listed (all_read left) v ≡ true) → is_listed all v ≡ true
        by_part (inl own) = listed_front hs (all_read (xs ++ f ∷ left)) v own
        by_part (inr read) = listed_back hs (all_read (xs ++ f ∷ left)) v (ap (λ (ks : List ℕ). is_listed ks v) split ∙ listed_back (all_read xs ++ arrays_in f.formula) (all_read left) v read)

    each : (v : ℕ) → is_listed all v ≡ true → (v < r) ⊎ (is_listed needed v ≡ true)
    each v t = by_part (listed_split hs (all_read (xs ++ f ∷ left)) v t)
      where
        by_read : (is_listed (all_read xs ++ arrays_in f.formula) v ≡ true) ⊎ (is_listed (all_read left) v ≡ true) → (v < r) ⊎ (is_listed needed v ≡ true)
        by_read (inl older) = inl (older_all a xs ys f flows v older)
        by_read (inr read) = inr (front v (listed_back hs (all_read left) v read))

        by_part : (is_listed hs v ≡ true) ⊎ (is_listed (all_read (xs ++ f ∷ left)) v ≡ true) → (v < r) ⊎ (is_listed needed v ≡ true)
        by_part (inl own) = inr (front v (listed_front hs (all_read left) v own))
        by_part (inr read) = by_read (listed_split (all_read xs ++ arrays_in f.formula) (all_read left) v (ap (λ (ks : List ℕ). is_listed ks v) (sym split) ∙ read))

    there : is_reached w needed r ≡ true → is_some (look (sweep w all) r) ≡ is_reached w needed r
    there on =
        let reached : IsReached w all r = reached_more w needed all r (λ u t. within u (back u t)) (laws.paths w needed r on) in
        some_live (sweep w all) r (seen_live w (sweep w all) r (laws.reached w all r sound reached) (flow_live a f is)) ∙ sym on

    gone : is_reached w needed r ≡ false → is_some (look (sweep w all) r) ≡ is_reached w needed r
    gone off = by_test (is_some (look (sweep w all) r))
        (λ some. (let found = has_live (sweep w all) r (live_some (sweep w all) r some) in
        let reached : IsReached w all r = (laws.kept w all r found.0 found.1).reached in
        let self : is_listed (path w r) r ≡ true = ap (λ (ps : List ℕ). is_listed ps r) is.is_root.path_is ∙ first_listed r [] in
        let on : is_reached w needed r ≡ true = reached_either laws.below w all needed r sound each (root_on laws.below w all r sound is.is_root.path_is r reached self) in
        absurd (cc)))
        (λ none. none ∙ sym off)

-- arrays are let go, and then others
lets_go_then : SweepsByFewer → (many few : List ℕ) (first e t : Engine) → ((v : ℕ) → is_listed few v ≡ true → is_listed many v ≡ true) → LetsGo many first e [] → LetsGo few e t [] → LetsGo few first t []
lets_go_then again many few first e t inside a b = record {
  is_held = b.is_held;
  next = b.next ∙ a.next;
  swept = b.swept ∙ ap (λ w. sweep w few) (all_gone many first e a) ∙ again first.world many few inside;
}

-- the place of the flow that is asked
slice_here : (xs ys : Flows) (f : Flow) → slice_get (xs ++ f ∷ ys) (length xs) ≡ Some f
slice_here [] ys f = refl
slice_here (x ∷ xs) ys f = slice_here xs ys f

without_here : (xs ys : Flows) (f : Flow) → without_at (length xs) (xs ++ f ∷ ys) ≡ xs ++ ys
without_here xs ys f = ap (λ (zs : Flows). zs ++ drop (length xs + 1) (xs ++ f ∷ ys)) (take-append_seam xs (f ∷ ys)) ∙ ap (λ (zs : Flows). xs ++ zs) (drop-append-add xs (f ∷ ys) 1)

-- the flows are as they were, or without the one that is asked
less_read : (hs : List ℕ) (xs ys : Flows) (f : Flow) (v : ℕ) → is_listed (hs ++ all_read (xs ++ ys)) v ≡ true → is_listed (hs ++ all_read (xs ++ f ∷ ys)) v ≡ true
less_read hs xs ys f v t = by_part (listed_split hs (all_read (xs ++ ys)) v t)
  where
    by_read : (is_listed (all_read xs) v ≡ true) ⊎ (is_listed (all_read ys) v ≡ true) → is_listed (all_read xs ++ (arrays_in f.formula ++ all_read ys)) v ≡ true
    by_read (inl here) = listed_front (all_read xs) (arrays_in f.formula ++ all_read ys) v here
    by_read (inr there) = listed_back (all_read xs) (arrays_in f.formula ++ all_read ys) v (listed_back (arrays_in f.formula) (all_read ys) v there)

    by_part : (is_listed hs v ≡ true) ⊎ (is_listed (all_read (xs ++ ys)) v ≡ true) → is_listed (hs ++ all_read (xs ++ f ∷ ys)) v ≡ true
    by_part (inl own) = listed_front hs (all_read (xs ++ f ∷ ys)) v own
    by_part (inr read) = listed_back hs (all_read (xs ++ f ∷ ys)) v
        (ap (λ (ks : List ℕ). is_listed ks v) (all_read_more xs (f ∷ ys)) ∙ by_read (listed_split (all_read xs) (all_read ys) v (ap (λ (ks : List ℕ). is_listed ks v) (sym (all_read_more xs ys)) ∙ read)))

-- one more was asked
asked_part : Laws → (hs : List ℕ) (first : Engine) (xs ys : Flows) (f : Flow) (e t : Engine) (left : Flows) → IsSound first.world → AreFlows (arrays_of first) (xs ++ f ∷ ys)
    → LetsGo (hs ++ all_read (xs ++ f ∷ (needs_of first.world ys hs).flows)) first e []
    → left ≡ (let now = xs ++ f ∷ (needs_of first.world ys hs).flows in if is_some (look e.world f.root) then now else without_at (length xs) now)
    → LetsGo (hs ++ all_read left) e t [] → (left ≡ xs ++ (needs_of first.world (f ∷ ys) hs).flows) × LetsGo (hs ++ all_read left) first t []
asked_part laws hs first xs ys f e t left sound flows so_far is lets_go = by_test (is_reached w n.arrays f.root) stays goes
  where
    w : World
    w = first.world

    n : Needs
    n = needs_of w ys hs

    now : Flows
    now = xs ++ f ∷ n.flows

    there : is_some (look e.world f.root) ≡ is_reached w n.arrays f.root
    there = ap (λ u. is_some (look u f.root)) (all_gone (hs ++ all_read now) first e so_far)
        ∙ root_there laws (arrays_of first) xs ys n.flows f hs n.arrays sound flows (held_needs w ys hs) (needs_held w ys hs)

    ends : (after : Flows) → left ≡ after → ((v : ℕ) → is_listed (hs ++ all_read after) v ≡ true → is_listed (hs ++ all_read now) v ≡ true) → LetsGo (hs ++ all_read left) first t []
    ends after same inside = lets_go_then laws.again (hs ++ all_read now) (hs ++ all_read left) first e t
        (λ v h. inside v (ap (λ (fs : Flows). is_listed (hs ++ all_read fs) v) (sym same) ∙ h)) so_far lets_go

    by : Bool → Flows
    by b = if b then now else without_at (length xs) now

    stays : is_reached w n.arrays f.root ≡ true → (left ≡ xs ++ (needs_with (is_reached w n.arrays f.root) f n).flows) × LetsGo (hs ++ all_read left) first t []
    stays on =
        let same : left ≡ now = is ∙ ap by (there ∙ on) in
        (same ∙ ap (λ (b : Bool). xs ++ (needs_with b f n).flows) (sym on), ends now same (λ v h. h))

    goes : is_reached w n.arrays f.root ≡ false → (left ≡ xs ++ (needs_with (is_reached w n.arrays f.root) f n).flows) × LetsGo (hs ++ all_read left) first t []
    goes off =
        let same : left ≡ xs ++ n.flows = is ∙ ap by (there ∙ off) ∙ without_here xs n.flows f in
        (same ∙ ap (λ (b : Bool). xs ++ (needs_with b f n).flows) (sym off), ends (xs ++ n.flows) same (λ v h. less_read hs xs n.flows f v h))

-- the flows at a place and behind it
all_at : (flows : Flows) (at : ℕ) → at < length flows → take at flows ++ get_or flows at no_flow ∷ drop (at + 1) flows ≡ flows
all_at flows at lt = ap (λ (fs : Flows). take at flows ++ fs) (sym (drop_more flows at no_flow lt)) ∙ take-append-drop at flows

now_at : (hs : List ℕ) (w : World) (flows : Flows) (at : ℕ) → at < length flows
    → take (at + 1) flows ++ (needs_of w (drop (at + 1) flows) hs).flows ≡ take at flows ++ get_or flows at no_flow ∷ (needs_of w (drop (at + 1) flows) hs).flows
now_at hs w flows at lt =
    let rest : Flows = (needs_of w (drop (at + 1) flows) hs).flows in
    ap (λ (fs : Flows). fs ++ rest) (take_more flows at no_flow lt) ∙ append_assoc (take at flows) (get_or flows at no_flow ∷ []) rest

pub asked_more : Laws → (hs : List ℕ) (first : Engine) (flows : Flows) (at : ℕ) (e t : Engine) (before left : Flows) → IsSound first.world → AreFlows (arrays_of first) flows → at < length flows
    → AreAsked hs first flows (at + 1) e before
    → ((f : Flow) → slice_get before at ≡ Some f → left ≡ (if is_some (look e.world f.root) then before else without_at at before))
    → LetsGo (hs ++ all_read left) e t [] → AreAsked hs first flows at t left
asked_more laws hs first flows at e t before left sound are lt so_far is lets_go =
    let xs : Flows = take at flows in
    let f : Flow = get_or flows at no_flow in
    let ys : Flows = drop (at + 1) flows in
    let now : Flows = xs ++ f ∷ (needs_of first.world ys hs).flows in
    let long : length xs ≡ at = length-take-le at flows (omega (arith, lt)) in
    let same : before ≡ now = so_far.flows ∙ now_at hs first.world flows at lt in
    let here : slice_get before at ≡ Some f = ap (λ (fs : Flows). slice_get fs at) same ∙ ap (λ n. slice_get now n) (sym long) ∙ slice_here xs (needs_of first.world ys hs).flows f in
    let by : ℕ → Flows → Flows = λ n fs. if is_some (look e.world f.root) then fs else without_at n fs in
    let left_is : left ≡ by (length xs) now = is f here ∙ ap (by at) same ∙ ap (λ n. by n now) (sym long) in
    let A : Flows → Type 0 = AreFlows (arrays_of first) in
    let L : Flows → Type 0 = λ fs. LetsGo (hs ++ all_read fs) first e [] in
    let done = asked_part laws hs first xs ys f e t left sound (subst A (sym (all_at flows at lt)) are) (subst L same so_far.lets_go) left_is lets_go in
    record {
      flows = done.0 ∙ ap (λ (fs : Flows). xs ++ (needs_of first.world fs hs).flows) (sym (drop_more flows at no_flow lt));
      lets_go = done.1;
    }

-- none was asked yet
pub none_asked : (hs : List ℕ) (e : Engine) (flows : Flows) (first : Engine) (at : ℕ) → at ≡ length flows → HasFlows e flows hs first → AreAsked hs first flows at e flows
none_asked hs e flows first at is h =
    let N : Flows → Flows = λ fs. (needs_of first.world fs hs).flows in
    let P : ℕ → Type 0 = λ n. flows ≡ take n flows ++ N (drop n flows) in
    record {
      flows = subst P (sym is) (sym (ap (λ (fs : Flows). fs ++ N (drop (length flows) flows)) (take_all (length flows) flows (omega arith)) ∙ ap (λ (fs : Flows). flows ++ N fs) (drop_all (length flows) flows (omega arith)) ∙ append-nil flows));
      lets_go = h.lets_go;
    }

-- all were
pub all_asked : (hs : List ℕ) (first : Engine) (flows : Flows) (at : ℕ) (e : Engine) (left : Flows) → at ≡ 0 → AreAsked hs first flows at e left → KeepsNeeded hs first flows e left
all_asked hs first flows at e left is h =
    let P : ℕ → Type 0 = λ n. left ≡ take n flows ++ (needs_of first.world (drop n flows) hs).flows in
    record { flows = subst P is h.flows; lets_go = h.lets_go }

-- the flow that is asked is there
pub asked_within : (hs : List ℕ) (first : Engine) (flows : Flows) (at : ℕ) (e : Engine) (left : Flows) → at + 1 ≤ length flows → AreAsked hs first flows (at + 1) e left → at < length left
asked_within hs first flows at e left lt h =
    let long : length (take (at + 1) flows) ≡ at + 1 = length-take-le (at + 1) flows lt in
    let all : length left ≡ length (take (at + 1) flows) + length (needs_of first.world (drop (at + 1) flows) hs).flows = ap length h.flows ∙ length-append (take (at + 1) flows) (needs_of first.world (drop (at + 1) flows) hs).flows in
    omega (arith, long, all)

-- ---- what is left

-- a sweep by the same arrays in another order
same_sweep : SweepsByFewer → MoreKeepAll → (w : World) (xs ys : List ℕ) → ((v : ℕ) → is_listed xs v ≡ true → is_listed ys v ≡ true) → ((v : ℕ) → is_listed ys v ≡ true → is_listed xs v ≡ true) → sweep w xs ≡ sweep w ys
same_sweep again more w xs ys front back = sym (again w ys xs front) ∙ more (sweep w ys) ys xs back (again w ys ys (λ v t. t))

-- what is needed is there, and nothing else
pub needed_world : SweepsByFewer → MoreKeepAll → (hs : List ℕ) (first : Engine) (flows : Flows) (t : Engine) (left : Flows) → KeepsNeeded hs first flows t left
    → t.world ≡ sweep first.world (needs_of first.world flows hs).arrays
needed_world again more hs first flows t left h =
    let w : World = first.world in
    all_gone (hs ++ all_read left) first t h.lets_go ∙ ap (λ (fs : Flows). sweep w (hs ++ all_read fs)) h.flows
    ∙ same_sweep again more w (hs ++ all_read (needs_of w flows hs).flows) (needs_of w flows hs).arrays (held_needs w flows hs) (needs_held w flows hs)

-- arrays that stay held are there still
pub staying_live : ReachedAreSeenAsBefore → (w u : World) (many : List ℕ) → IsSound w → u ≡ sweep w many → (vs : List ℕ) → ((v : ℕ) → is_listed vs v ≡ true → is_listed many v ≡ true) → AreLive w vs → AreLive u vs
staying_live reached w u many sound is [] inside live = tt
staying_live reached w u many sound is (v ∷ vs) inside live =
    let seen : IsSeenAsBefore w u v = (let P : World → Type 0 = λ x. IsSeenAsBefore w x v in subst P (sym is) (reached w many v sound (held_itself v (inside v (first_listed v vs))))) in
    (seen_live w u v seen live.0, staying_live reached w u many sound is vs (λ k t. inside k (later_listed v k vs t)) live.1)

-- formulas that stay read no more
pub kept_reads : (w : World) (flows : Flows) (hs : List ℕ) → length (all_read (needs_of w flows hs).flows) ≤ length (all_read flows)
kept_reads w [] hs = omega arith
kept_reads w (f ∷ flows) hs = by_stays (kept_reads w flows hs) (is_reached w (needs_of w flows hs).arrays f.root)
  where
    ks : List ℕ
    ks = arrays_in f.formula

    left : List ℕ
    left = all_read (needs_of w flows hs).flows

    by_stays : length left ≤ length (all_read flows) → (stays : Bool) → length (all_read (needs_with stays f (needs_of w flows hs)).flows) ≤ length (ks ++ all_read flows)
    by_stays rest true =
        let all : length (ks ++ all_read flows) ≡ length ks + length (all_read flows) = length-append ks (all_read flows) in
        let kept : length (ks ++ left) ≡ length ks + length left = length-append ks left in
        omega (arith, rest, all, kept)
    by_stays rest false =
        let all : length (ks ++ all_read flows) ≡ length ks + length (all_read flows) = length-append ks (all_read flows) in
        omega (arith, rest, all)
