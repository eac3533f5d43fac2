-- How arrays are held where a flow begins, and where one ends.
use Rattle.std.proofs.Common.{◌≡◌, ℕ, zero, suc, ◌+◌, ◌<◌, ◌≤◌, List, [], ◌∷◌, ◌++◌, length, take, drop, get_or, Bool, true, false, Option, Some, None, inl, inr, refl, sym, ap, subst, ◌∙◌, arith, eqb-true, eq-eqb}
use Rattle.std.specs.Prelude.{◌==◌, ◌⊎◌, if◌then◌else◌, slice_get}
use Rattle.std.proofs.lemmas.List.{append-nil, length-append}
use Rattle.std.proofs.lemmas.Bool.{ne_eqb}
use Rattle.std.proofs.lemmas.Option.{slice_get-get_or}
use Rattle.pdl_lemmas.specs.Tests.{by_test}
use Rattle.pdl_flow.specs.Formula.{FormulaTree, arrays_in}
use Rattle.pdl_world.specs.KeepingLaws.{MoreKeepAll}
use Rattle.pdl_world.specs.Sound.{IsLive}
use Rattle.pdl_world.specs.Swept.{is_listed}
use Rattle.pdl_world.specs.World.{World}
use Rattle.pdl_engine.specs.Held.{count_at}
use Rattle.pdl_engine.specs.State.{State as Engine}
use Rattle.pdl_machine.specs.Flows.{Flow, Flows, all_read, flows_with, is_flow, without_flow}
use Rattle.pdl_machine.specs.Following.{AreFlows, RootsAbove}
use Rattle.pdl_machine.specs.Names.{Names}
use Rattle.pdl_machine.specs.State.{AreLive}
use Rattle.pdl_machine.specs.Watches.{Watches}
use Rattle.pdl_scope.specs.Flowing.{RootsRise, read_by}
use Rattle.pdl_scope.specs.Holding.{AreHeld, SameButHolds}
use Rattle.pdl_scope.specs.LetGo.{without_at}
use Rattle.pdl_scope.specs.Scope.{arrays_of, reads_limit, state_in, times, IsHeld}
use Rattle.pdl_scope.proofs.FlowingStays.{flows_without}
use Rattle.pdl_scope.proofs.HoldingLemmas.{both_hold, held_by, held_by_both, held_of, times_all, times_more}
use Rattle.pdl_scope.proofs.LetGoNeeds.{all_read_more}

-- ---- a flow ends

-- what the others read, and what it reads
times_read : (flows : Flows) (v u : ℕ) → times (all_read flows) u ≡ times (all_read (without_flow flows v)) u + times (read_by flows v) u
times_read [] v u = refl
times_read (f ∷ flows) v u =
    let rest = times_read flows v u in
    let all = times_more (arrays_in f.formula) (all_read flows) u in
    by_test (f.root == v)
    (λ same. rw same (let read = times_more (arrays_in f.formula) (read_by flows v) u in omega (arith, rest, all, read)))
    (λ other. rw other (let left = times_more (arrays_in f.formula) (all_read (without_flow flows v)) u in omega (arith, rest, all, left)))

fewer_read : (flows : Flows) (v : ℕ) → length (all_read (without_flow flows v)) ≤ length (all_read flows)
fewer_read [] v = omega arith
fewer_read (f ∷ flows) v =
    let rest = fewer_read flows v in
    let all = length-append (arrays_in f.formula) (all_read flows) in
    by_test (f.root == v)
    (λ same. rw same (omega (arith, rest, all)))
    (λ other. rw other (let left = length-append (arrays_in f.formula) (all_read (without_flow flows v)) in omega (arith, rest, all, left)))

pub held_ended : MoreKeepAll → (names : Names) (ws : Watches) (fs : Flows) (e : Engine) (v : ℕ) (leaving : List ℕ) → IsHeld (state_in names ws fs e) e.holds leaving
    → IsHeld (state_in names ws (without_flow fs v) e) e.holds (leaving ++ read_by fs v)
held_ended keeping names ws fs e v leaving h = record {
  whole = record { sound = h.whole.sound; below = h.whole.below; live = h.whole.live; flows = flows_without (arrays_of e) fs v h.whole.flows };
  few = h.few;
  slots = h.slots;
  reads = (let fewer = fewer_read fs v in let most : length (all_read fs) ≤ reads_limit = h.reads in omega (arith, fewer, most));
  counts = counts;
  reached = keeping e.world (held_by names ws fs ++ leaving) (held_by names ws left ++ after)
      (λ u t. both_hold (held_by names ws left) after u (let some = held_by_both (held_by names ws fs) leaving u t in let b = h.counts u in let c = counts u in omega (arith, some, b, c))) h.reached;
}
  where
    left : Flows
    left = without_flow fs v

    after : List ℕ
    after = leaving ++ read_by fs v

    counts : (u : ℕ) → count_at e.holds u ≡ times (held_by names ws left) u + times after u
    counts u =
        let b = h.counts u in
        let x = times_all names ws fs u in
        let y = times_all names ws left u in
        let r = times_read fs v u in
        let l = times_more leaving (read_by fs v) u in
        omega (arith, b, x, y, r, l)

-- the others are those before it and behind it
above_none : (n : ℕ) (flows : Flows) → RootsAbove n flows → (without_flow flows n ≡ flows) × (read_by flows n ≡ [])
above_none n [] above = (refl, refl)
above_none n (f ∷ flows) above =
    let rest = above_none n flows above.1 in
    let other : (f.root == n) ≡ false = ne_eqb f.root n (λ same. (let up : n < f.root = above.0 in absurd (omega (arith, same, up)))) in
    (rw other (ap (λ (fs : Flows). f ∷ fs) rest.0), rw other rest.1)

newer : (n : ℕ) (xs ys : Flows) (f : Flow) → RootsAbove n (xs ++ f ∷ ys) → n < f.root
newer n [] ys f above = above.0
newer n (x ∷ xs) ys f above = newer n xs ys f above.1

pub ended_here : (xs ys : Flows) (f : Flow) → RootsRise (xs ++ f ∷ ys) → (without_flow (xs ++ f ∷ ys) f.root ≡ xs ++ ys) × (read_by (xs ++ f ∷ ys) f.root ≡ arrays_in f.formula)
ended_here [] ys f rise =
    let rest = above_none f.root ys rise.0 in
    let self : (f.root == f.root) ≡ true = eq-eqb f.root f.root refl in
    (rw self rest.0, rw self (ap (λ (ks : List ℕ). arrays_in f.formula ++ ks) rest.1 ∙ append-nil (arrays_in f.formula)))
ended_here (x ∷ xs) ys f rise =
    let rest = ended_here xs ys f rise.1 in
    let other : (x.root == f.root) ≡ false = ne_eqb x.root f.root (λ same. (let up : x.root < f.root = newer x.root xs ys f rise.0 in absurd (omega (arith, same, up)))) in
    (rw other (ap (λ (fs : Flows). x ∷ fs) rest.0), rw other rest.1)

-- a list at a place
pub at_place : (flows : Flows) (at : ℕ) (f : Flow) → slice_get flows at ≡ Some f → flows ≡ take at flows ++ f ∷ drop (at + 1) flows
at_place [] at f is = cc
at_place (x ∷ flows) zero f is = (let e : x ≡ f = cc in ap (λ (y : Flow). y ∷ flows) e)
at_place (x ∷ flows) (suc at) f is =
    let next : suc at + 1 ≡ suc (at + 1) = omega arith in
    ap (λ (fs : Flows). x ∷ fs) (at_place flows at f is) ∙ ap (λ n. x ∷ (take at flows ++ f ∷ drop n (x ∷ flows))) (sym next)

-- what is read at a place stands there
pub read_at : (flows : Flows) (at : ℕ) (f : Flow) → at < length flows → f ≡ get_or flows at f → slice_get flows at ≡ Some f
read_at flows at f lt is = slice_get-get_or flows at f lt ∙ ap (λ (h : Flow). Some h) (sym is)

pub same_place : (flows : Flows) (at : ℕ) (f h : Flow) → at < length flows → slice_get flows at ≡ Some f → h ≡ get_or flows at h → f ≡ h
same_place flows at f h lt is read = let there : slice_get flows at ≡ Some h = read_at flows at h lt read in cc

-- the flow at a place ends
pub ended_at : (flows : Flows) (at r : ℕ) (f : Flow) → RootsRise flows → slice_get flows at ≡ Some f → f.root ≡ r → (without_flow flows r ≡ without_at at flows) × (read_by flows r ≡ arrays_in f.formula)
ended_at flows at r f rise is root =
    let e = at_place flows at f is in
    let ended = ended_here (take at flows) (drop (at + 1) flows) f (subst RootsRise e rise) in
    (ap (without_flow flows) (sym root) ∙ ap (λ (fs : Flows). without_flow fs f.root) e ∙ ended.0, ap (read_by flows) (sym root) ∙ ap (λ (fs : Flows). read_by fs f.root) e ∙ ended.1)

-- a root without a flow
pub none_ended : (flows : Flows) (r : ℕ) → is_flow flows r ≡ false → (without_flow flows r ≡ flows) × (read_by flows r ≡ [])
none_ended [] r none = (refl, refl)
none_ended (f ∷ flows) r none = by_test (f.root == r)
    (λ same. let bad : true ≡ false = rw same at none in absurd (cc))
    (λ other. let rest = none_ended flows r (rw other at none) in (rw other (ap (λ (fs : Flows). f ∷ fs) rest.0), rw other rest.1))

-- what a flow reads leaves where it is taken out
pub held_out : MoreKeepAll → (e : Engine) (staying : List ℕ) (flows : Flows) (at : ℕ) (f : Flow) → slice_get flows at ≡ Some f → AreHeld e (staying ++ all_read flows) []
    → AreHeld e (staying ++ all_read (without_at at flows)) (arrays_in f.formula)
held_out keeping e staying flows at f is h = record {
  sound = h.sound;
  below = h.below;
  counts = counts;
  reached = keeping e.world (all ++ []) (few ++ arrays_in f.formula)
      (λ u t. both_hold few (arrays_in f.formula) u (let some = held_by_both all [] u t in let b = h.counts u in let c = counts u in omega (arith, some, b, c))) h.reached;
}
  where
    xs : Flows
    xs = take at flows

    ys : Flows
    ys = drop (at + 1) flows

    all : List ℕ
    all = staying ++ all_read flows

    few : List ℕ
    few = staying ++ all_read (xs ++ ys)

    read : all_read flows ≡ all_read xs ++ (arrays_in f.formula ++ all_read ys)
    read = ap all_read (at_place flows at f is) ∙ all_read_more xs (f ∷ ys)

    counts : (u : ℕ) → count_at e.holds u ≡ times few u + times (arrays_in f.formula) u
    counts u =
        let b = h.counts u in
        let x = times_more staying (all_read flows) u in
        let y = times_more staying (all_read (xs ++ ys)) u in
        let p : times (all_read flows) u ≡ times (all_read xs ++ (arrays_in f.formula ++ all_read ys)) u = ap (λ (ks : List ℕ). times ks u) read in
        let q : times (all_read (xs ++ ys)) u ≡ times (all_read xs ++ all_read ys) u = ap (λ (ks : List ℕ). times ks u) (all_read_more xs ys) in
        let k = times_more (all_read xs) (arrays_in f.formula ++ all_read ys) u in
        let l = times_more (arrays_in f.formula) (all_read ys) u in
        let m = times_more (all_read xs) (all_read ys) u in
        omega (arith, b, x, y, p, q, k, l, m)

-- ---- a flow begins

pub read_with : (flows : Flows) (r : ℕ) (f : FormulaTree) → all_read (flows_with flows r f) ≡ all_read flows ++ arrays_in f
read_with flows r f = all_read_more flows (record { root = r; formula = f } ∷ []) ∙ ap (λ (ks : List ℕ). all_read flows ++ ks) (append-nil (arrays_in f))

-- what it reads is held once more for each place in the formula
pub held_begun : MoreKeepAll → (names : Names) (ws : Watches) (fs : Flows) (e t : Engine) (r : ℕ) (f : FormulaTree) (leaving : List ℕ) → IsHeld (state_in names ws fs e) e.holds leaving
    → AreFlows (arrays_of e) (flows_with fs r f) → SameButHolds e t → ((v : ℕ) → count_at t.holds v ≡ count_at e.holds v + times (arrays_in f) v) → length (all_read fs) + length (arrays_in f) ≤ reads_limit
    → IsHeld (state_in names ws (flows_with fs r f) t) t.holds leaving
held_begun keeping names ws fs e t r f leaving h flows same more room =
    let P : Engine → Type 0 = λ x. IsHeld (state_in names ws (flows_with fs r f) x) t.holds leaving in
    subst P (sym same) (record {
      whole = record { sound = h.whole.sound; below = h.whole.below; live = h.whole.live; flows = flows };
      few = h.few;
      slots = h.slots;
      reads = (let all = ap length (read_with fs r f) in let both = length-append (all_read fs) (arrays_in f) in omega (arith, room, all, both));
      counts = counts;
      reached = keeping e.world (held_by names ws fs ++ leaving) (held_by names ws (flows_with fs r f) ++ leaving)
          (λ u t. both_hold (held_by names ws (flows_with fs r f)) leaving u (let some = held_by_both (held_by names ws fs) leaving u t in let b = h.counts u in let c = counts u in let m = more u in omega (arith, some, b, c, m))) h.reached;
    })
  where
    counts : (u : ℕ) → count_at t.holds u ≡ times (held_by names ws (flows_with fs r f)) u + times leaving u
    counts u =
        let b = h.counts u in
        let m = more u in
        let x = times_all names ws fs u in
        let y = times_all names ws (flows_with fs r f) u in
        let p : times (all_read (flows_with fs r f)) u ≡ times (all_read fs ++ arrays_in f) u = ap (λ (ks : List ℕ). times ks u) (read_with fs r f) in
        let q = times_more (all_read fs) (arrays_in f) u in
        omega (arith, b, m, x, y, p, q)
