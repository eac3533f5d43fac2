-- How arrays are held where they are cut from their parents or get other dimensions, and where names
-- are taken away.
use Rattle.std.proofs.Common.{◌≡◌, ℕ, suc, ◌+◌, ◌≤◌, Bool, true, false, List, [], ◌∷◌, ◌++◌, length, Option, Some, None, Result, Ok, Err, refl, sym, ap, subst, ◌∙◌, arith, eq-eqb}
use Rattle.std.specs.Prelude.{◌==◌, if◌then◌else◌, nat_eq, IfSome, OnOk, OnErr}
use Rattle.std.specs.Cmp.Lexicographic.{pointwise}
use Rattle.std.specs.Option.{option_to_list}
use Rattle.pdl_world.specs.BreakLaws.{ReshapesLeaveNumbers}
use Rattle.pdl_world.specs.Cut.{breaks, reshape}
use Rattle.pdl_world.specs.CutLaws.{HasSameNumbers}
use Rattle.pdl_world.specs.KeepingLaws.{MoreKeepAll, ParentsAreLive}
use Rattle.pdl_world.specs.Paths.{parent_in}
use Rattle.pdl_world.specs.Sound.{NumbersBelow, IsSound, IsLive}
use Rattle.pdl_world.specs.Swept.{is_listed, KeepsAll}
use Rattle.pdl_world.specs.World.{World}
use Rattle.pdl_engine.specs.HoldLaws.{OneMoreCounts}
use Rattle.pdl_engine.specs.Held.{AllHaveHolds, count_at, one_more_at, holders}
use Rattle.pdl_engine.specs.State.{State as Engine, StayFresh}
use Rattle.pdl_machine.specs.Names.{KernelTexts, Named, Names, found, with_name, without_name, is_full_for, names_limit}
use Rattle.pdl_machine.specs.declared.fault.Fault.{Fault}
use Rattle.pdl_machine.specs.declared.fault.Fault.TheVariants.{FlowReads, FlowTarget, ReshapeBreaks, StillWatched, UnknownName, TooManyNames}
use Rattle.pdl_machine.specs.Flows.{Flows, all_read, is_flow}
use Rattle.pdl_machine.specs.Following.{AreFlows}
use Rattle.pdl_machine.specs.State.{State, with_arrays, AreLive}
use Rattle.pdl_machine.specs.Step.{Stepped, bind_value}
use Rattle.pdl_machine.specs.Watches.{Watches, attached}
use Rattle.pdl_machine.specs.Arrays.{Arrays}
use Rattle.pdl_machine.specs.Cuts.{is_read, is_watched, reshaped}
use Rattle.pdl_machine.specs.Then.{and_then, or_fault}
use Rattle.pdl_scope.specs.Scope.{arrays_of, scope_in, state_in, names_in, times, Grows, IsHeld}
use Rattle.pdl_scope.specs.Growth.{reads_grow}
use Rattle.pdl_scope.proofs.ScopeGrowing.{still_live}
use Rattle.pdl_scope.specs.Flowing.{kept_shape}
use Rattle.pdl_scope.proofs.HoldingLemmas.{numbers, held_by, held_of, times_more, held_times, both_hold, held_by_both, some_live, few_bound, held_readied}

-- after a change that keeps all
pub held_changed : (names : Names) (ws : Watches) (fs : Flows) (e t : Engine) (leaving : List ℕ) → IsHeld (state_in names ws fs e) e.holds leaving → HasSameNumbers e.world t.world → IsSound t.world → t.holds ≡ e.holds → t.next ≡ e.next → AreFlows (arrays_of t) fs
    → KeepsAll t.world (held_by names ws fs ++ leaving) → IsHeld (state_in names ws fs t) t.holds leaving
held_changed names ws fs e t leaving h same sound holding next flows keeps = record {
  whole = record {
    sound = sound;
    below = subst (λ n. NumbersBelow n t.world) (sym next) (same.below e.next h.whole.below);
    live = still_live e.world t.world same.live (held_of names ws) h.whole.live;
    flows = flows;
  };
  few = h.few;
  slots = h.slots;
  reads = h.reads;
  counts = λ v. (ap (λ hs. count_at hs v) holding ∙ h.counts v);
  reached = keeps;
}

-- so also where the change is refused
pub held_after : {T E : Type 0} (r : Result T E) (names : Names) (ws : Watches) (fs : Flows) (e t : Engine) (new : World) (leaving : List ℕ) → IsHeld (state_in names ws fs e) e.holds leaving → HasSameNumbers e.world new → ((a : Arrays) → a.world ≡ new → AreFlows a fs)
    → KeepsAll new (held_by names ws fs ++ leaving) → OnOk r (t.world ≡ new) → OnErr r (t.world ≡ e.world) → t.holds ≡ e.holds → t.next ≡ e.next → IsSound t.world → IsHeld (state_in names ws fs t) t.holds leaving
held_after (Ok u) names ws fs e t new leaving h same flows keeps done kept holding next sound =
    held_changed names ws fs e t leaving h (subst (HasSameNumbers e.world) (sym done) same) sound holding next (flows (arrays_of t) done) (let P : World → Type 0 = λ w. KeepsAll w (held_by names ws fs ++ leaving) in subst P (sym done) keeps)
held_after (Err f) names ws fs e t new leaving h same flows keeps done kept holding next sound = held_readied names ws fs e t leaving (record { world = kept; holds = holding; next = next }) h

-- other dimensions, which keep all numbers where nothing breaks
pub held_reshaped : {T E : Type 0} (r : Result T E) → ReshapesLeaveNumbers → (names : Names) (ws : Watches) (fs : Flows) (e t : Engine) (v : ℕ) (ds leaving : List ℕ) → IsHeld (state_in names ws fs e) e.holds leaving → OnOk r (breaks e.world v ds ≡ false)
    → ((a : Arrays) → a.world ≡ reshape e.world v ds → AreFlows a fs) → KeepsAll (reshape e.world v ds) (held_by names ws fs ++ leaving) → OnOk r (t.world ≡ reshape e.world v ds) → OnErr r (t.world ≡ e.world) → t.holds ≡ e.holds → t.next ≡ e.next → IsSound t.world → IsHeld (state_in names ws fs t) t.holds leaving
held_reshaped (Ok u) same names ws fs e t v ds leaving h none flows keeps done kept holding next sound =
    let all : HasSameNumbers e.world t.world = subst (HasSameNumbers e.world) (sym done) (same e.world v ds h.whole.sound none) in
    held_changed names ws fs e t leaving h all sound holding next (flows (arrays_of t) done) (let P : World → Type 0 = λ w. KeepsAll w (held_by names ws fs ++ leaving) in subst P (sym done) keeps)
held_reshaped (Err f) same names ws fs e t v ds leaving h none flows keeps done kept holding next sound = held_readied names ws fs e t leaving (record { world = kept; holds = holding; next = next }) h

-- the parent of an array is there
pub parent_lives : ParentsAreLive → (w : World) (v p : ℕ) → IsSound w → parent_in w v ≡ Some p → IsLive w p
parent_lives live w v p sound is = let P : Option ℕ → Type 0 = λ o. IfSome o (IsLive w) in subst P is (live w v sound)

-- the same names, and the same arrays that leave
pub held_same : (names after : Named ℕ) (kernels : Named KernelTexts) (ws : Watches) (fs : Flows) (e : Engine) (leaving left : List ℕ) → after ≡ names → left ≡ leaving → IsHeld (state_in (names_in names kernels) ws fs e) e.holds leaving → IsHeld (state_in (names_in after kernels) ws fs e) e.holds left
held_same names after kernels ws fs e leaving left same kept h =
    let N : Named ℕ → Type 0 = λ ns. IsHeld (state_in (names_in ns kernels) ws fs e) e.holds leaving in
    let L : List ℕ → Type 0 = λ vs. IsHeld (state_in (names_in after kernels) ws fs e) e.holds vs in
    subst L (sym kept) (subst N (sym same) h)

-- what leaves is held beside names
pub noted_held : (names leaving : List ℕ) (o : Option ℕ) → IfSome o (λ p. is_listed leaving p ≡ true) → IfSome o (λ p. is_listed (names ++ leaving) p ≡ true)
noted_held names leaving None h = tt
noted_held names leaving (Some p) h = both_hold names leaving p (let t = held_times leaving p h in omega arith)

-- the array that is noted stands in the list
pub noted_last : (leaving : List ℕ) (v : ℕ) → is_listed (leaving ++ v ∷ []) v ≡ true
noted_last leaving v =
    let self : (v == v) ≡ true = eq-eqb v v refl in
    let one : times (v ∷ []) v ≡ 1 = rw self refl in
    both_hold leaving (v ∷ []) v (omega arith)

-- one more hold, for the array that is noted
pub held_noted : OneMoreCounts → MoreKeepAll → (names : Names) (ws : Watches) (fs : Flows) (e : Engine) (v : ℕ) (leaving : List ℕ) → AllHaveHolds e → IsHeld (state_in names ws fs e) e.holds leaving → IsLive e.world v
    → IsHeld (state_in names ws fs (record e { holds = one_more_at e.holds v })) (one_more_at e.holds v) (leaving ++ v ∷ [])
held_noted one_more keeping names ws fs e v leaving have h live = record {
  whole = h.whole;
  few = h.few;
  slots = h.slots;
  reads = h.reads;
  counts = λ u. (let c = one_more e.holds v u known in let b = h.counts u in let m = times_more leaving (v ∷ []) u in omega arith);
  reached = keeping e.world (held_by names ws fs ++ leaving) (held_by names ws fs ++ (leaving ++ v ∷ []))
      (λ u t. both_hold (held_by names ws fs) (leaving ++ v ∷ []) u (let some = held_by_both (held_by names ws fs) leaving u t in let m = times_more leaving (v ∷ []) u in omega arith)) h.reached;
}
  where
    known : is_listed (holders e.holds) v ≡ true
    known = have v ∙ some_live e.world v live

-- a name's array is given up where the name goes
times_without : (names : Named ℕ) (x : List ℕ) (u : ℕ) → times (numbers (without_name names x)) u + times (option_to_list (found names x)) u ≡ times (numbers names) u
times_without [] x u = refl
times_without (n ∷ names) x u = by_name (pointwise nat_eq x n.0) (times_without names x u)
  where
    by_name : (same : Bool) → times (numbers (without_name names x)) u + times (option_to_list (found names x)) u ≡ times (numbers names) u
        → times (numbers (if same then names else n ∷ without_name names x)) u + times (option_to_list (if same then Some n.1 else found names x)) u ≡ times (numbers (n ∷ names)) u
    by_name true rest = omega arith
    by_name false rest = omega arith

few_without : (names : Named ℕ) (x : List ℕ) → length (without_name names x) ≤ length names
few_without [] x = omega arith
few_without (n ∷ names) x = by_name (pointwise nat_eq x n.0) (few_without names x)
  where
    by_name : (same : Bool) → length (without_name names x) ≤ length names → length (if same then names else n ∷ without_name names x) ≤ suc (length names)
    by_name true rest = omega arith
    by_name false rest = omega arith

live_without : (w : World) (names : Named ℕ) (others x : List ℕ) → AreLive w (numbers names ++ others) → AreLive w (numbers (without_name names x) ++ others)
live_without w [] others x live = live
live_without w (n ∷ names) others x live = by_name (pointwise nat_eq x n.0) (live_without w names others x live.1)
  where
    by_name : (same : Bool) → AreLive w (numbers (without_name names x) ++ others) → AreLive w (numbers (if same then names else n ∷ without_name names x) ++ others)
    by_name true rest = live.1
    by_name false rest = (live.0, rest)

-- a name goes, and its array leaves
pub held_unbound : MoreKeepAll → (names : Named ℕ) (kernels : Named KernelTexts) (ws : Watches) (fs : Flows) (e : Engine) (x : List ℕ) (leaving : List ℕ) → IsHeld (state_in (names_in names kernels) ws fs e) e.holds leaving
    → IsHeld (state_in (names_in (without_name names x) kernels) ws fs e) e.holds (leaving ++ option_to_list (found names x))
held_unbound keeping names kernels ws fs e x leaving h = record {
  whole = record { sound = h.whole.sound; below = h.whole.below; live = live_without e.world names (attached ws) x h.whole.live; flows = h.whole.flows };
  few = (let f = few_without names x in let g : length names ≤ names_limit = h.few in omega arith);
  slots = h.slots;
  reads = h.reads;
  counts = counts;
  reached = keeping e.world (before_all ++ leaving) (left_all ++ after)
      (λ u t. both_hold left_all after u (let some = held_by_both before_all leaving u t in let b = h.counts u in let c = counts u in omega arith)) h.reached;
}
  where
    after : List ℕ
    after = leaving ++ option_to_list (found names x)

    before_all : List ℕ
    before_all = held_by (names_in names kernels) ws fs

    left_all : List ℕ
    left_all = held_by (names_in (without_name names x) kernels) ws fs

    counts : (u : ℕ) → count_at e.holds u ≡ times left_all u + times after u
    counts u =
        let b = h.counts u in
        let n = times_without names x u in
        let l = times_more leaving (option_to_list (found names x)) u in
        let p = times_more (numbers names) (attached ws) u in
        let q = times_more (numbers (without_name names x)) (attached ws) u in
        let y = times_more (held_of (names_in names kernels) ws) (all_read fs) u in
        let z = times_more (held_of (names_in (without_name names x) kernels) ws) (all_read fs) u in
        omega arith

-- what taking a name away comes to, by the array that it gives up
abbrev pub given_up_by : State → List ℕ → Option ℕ → Stepped
given_up_by s x o = and_then (and_then (or_fault UnknownName o) (λ v. Ok (record s.names { arrays = without_name s.names.arrays x }))) (λ names. Ok (record s { names = names }, []))

-- a name that is bound goes
pub undone : (s : State) (x : List ℕ) (v : ℕ) → found s.names.arrays x ≡ Some v
    → given_up_by s x (found s.names.arrays x) ≡ Ok (record s { names = record s.names { arrays = without_name s.names.arrays x } }, [])
undone s x v is = ap (given_up_by s x) is

-- arrays that are the same, whatever else their engine does
same_arrays : (e t : Engine) → t.world ≡ e.world → t.next ≡ e.next → arrays_of t ≡ arrays_of e
same_arrays e t world next = ap (λ w. record { world = w; next = t.next }) world ∙ ap (λ n. record { world = e.world; next = n }) next

-- a change that was refused kept all
pub kept_so : (names : Names) (ws : Watches) (fs : Flows) (e t : Engine) → t.world ≡ e.world → t.next ≡ e.next → StayFresh e t → Grows (scope_in names ws fs e) (scope_in names ws fs t)
kept_so names ws fs e t world next stay = reads_grow (scope_in names ws fs e) (scope_in names ws fs t) (record { names = refl; arrays = same_arrays e t world next; watches = refl; flows = refl; stay = stay })

-- one that was made changed the world alone
pub made_so : (e t : Engine) (new : World) → t.world ≡ new → t.next ≡ e.next → arrays_of t ≡ record (arrays_of e) { world = new }
made_so e t new world next = ap (λ w. record { world = w; next = t.next }) world ∙ ap (λ n. record { world = new; next = n }) next

-- a binding for which there is no room, and one for which there is
pub unbindable : (s : State) (x : List ℕ) (v : Arrays × ℕ) → is_full_for names_limit s.names.arrays x ≡ true → bind_value s x v ≡ Err TooManyNames
unbindable s x v full = rw full refl

pub bindable : (s : State) (x : List ℕ) (v : Arrays × ℕ) → is_full_for names_limit s.names.arrays x ≡ false
    → bind_value s x v ≡ Ok (record s { names = record s.names { arrays = with_name s.names.arrays x v.1 }; arrays = v.0 }, [])
bindable s x v free = rw free refl

-- other dimensions that break nothing, of an array that nothing keeps in shape
pub unkept_shape : (ws : Watches) (fs : Flows) (w : World) (v : ℕ) → kept_shape ws fs w v ≡ None → (is_watched ws w v ≡ false) × (is_flow fs v ≡ false) × (is_read fs w v ≡ false)
unkept_shape ws fs w v none = by_tests (is_watched ws w v) (is_flow fs v) (is_read fs w v) none
  where
    by_tests : (a b c : Bool) → (if a then Some StillWatched else if b then Some FlowTarget else if c then Some FlowReads else None) ≡ None → (a ≡ false) × (b ≡ false) × (c ≡ false)
    by_tests true b c is = absurd (cc)
    by_tests false true c is = absurd (cc)
    by_tests false false true is = absurd (cc)
    by_tests false false false is = (refl, refl, refl)

pub reshape_made : (s : State) (v : ℕ) (ds : List ℕ) → breaks s.arrays.world v ds ≡ false → kept_shape s.watches s.flows s.arrays.world v ≡ None
    → and_then {B = State × List ℕ} (reshaped s.watches s.flows s.arrays v ds) (λ a. Ok (with_arrays s a, [])) ≡ Ok (with_arrays s (record s.arrays { world = reshape s.arrays.world v ds }), [])
reshape_made s v ds none free = let f = unkept_shape s.watches s.flows s.arrays.world v free in rw (none, f.0, f.1, f.2) refl

-- what is kept in shape is refused for that, where nothing breaks
pub reshape_refused : (s : State) (v : ℕ) (ds : List ℕ) (fault : Fault) → breaks s.arrays.world v ds ≡ false → kept_shape s.watches s.flows s.arrays.world v ≡ Some fault
    → and_then {B = State × List ℕ} (reshaped s.watches s.flows s.arrays v ds) (λ a. Ok (with_arrays s a, [])) ≡ Err fault
reshape_refused s v ds fault none kept = rw none (by_tests (is_watched s.watches s.arrays.world v) (is_flow s.flows v) (is_read s.flows s.arrays.world v) kept)
  where
    made : Result Arrays Fault
    made = Ok (record s.arrays { world = reshape s.arrays.world v ds })

    by_tests : (a b c : Bool) → (if a then Some StillWatched else if b then Some FlowTarget else if c then Some FlowReads else None) ≡ Some fault
        → and_then {B = State × List ℕ} (if a then Err StillWatched else if b then Err FlowTarget else if c then Err FlowReads else made) (λ x. Ok (with_arrays s x, [])) ≡ Err fault
    by_tests true b c is = cc
    by_tests false true c is = cc
    by_tests false false true is = cc
    by_tests false false false is = absurd (cc)

-- and where something breaks, for this
pub reshape_breaks : (s : State) (v : ℕ) (ds : List ℕ) → breaks s.arrays.world v ds ≡ true
    → and_then {B = State × List ℕ} (reshaped s.watches s.flows s.arrays v ds) (λ a. Ok (with_arrays s a, [])) ≡ Err ReshapeBreaks
reshape_breaks s v ds some = rw some refl

-- and there are no more names than may be
pub fits_bound : (names : Named ℕ) (x : List ℕ) (v : ℕ) → is_full_for names_limit names x ≡ false → length names ≤ names_limit → length (with_name names x v) ≤ names_limit
fits_bound names x v free few = few_bound names (with_name names x v) x v (rw free refl) few
