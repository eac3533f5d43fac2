-- A flow that begins: its root is new, and equals what the formula is of older arrays.
use Rattle.std.proofs.Common.{◌≡◌, ℕ, ℤ, zero, suc, ◌+◌, ◌<◌, ◌≤◌, List, [], ◌∷◌, ◌++◌, length, take, get_or, Bool, true, false, Option, Some, Result, Ok, Err, refl, sym, ap, subst, ◌∙◌, arith}
use Rattle.std.specs.Prelude.{◌==◌, ◌||◌, if◌then◌else◌, All}
use Rattle.std.specs.List.{list_any}
use Rattle.std.proofs.lemmas.List.Folds.{list_any-append}
use Rattle.std.proofs.lemmas.List.{length-take, take_more}
use Rattle.pdl_elem.specs.declared.Ty.{Ty}
use Rattle.pdl_buf.specs.declared.made.Made.{Made}
use Rattle.pdl_ops.specs.Elementwise.{OpRefusal}
use Rattle.pdl_flow.specs.Formula.{FormulaTree, IsFormula, arrays_in}
use Rattle.pdl_flow.specs.Laws.{MeaningLaws}
use Rattle.pdl_flow.specs.Meaning.{meaning}
use Rattle.pdl_world.specs.Laws.{LiveLieBelow, NewRootHasPath, NewRootIsSeen, NewRootIsWhole}
use Rattle.pdl_world.specs.Paths.{path}
use Rattle.pdl_world.specs.Sound.{NumbersBelow, IsSound, IsLive}
use Rattle.pdl_world.specs.Swept.{is_listed}
use Rattle.pdl_world.specs.World.{World, ArrayDef, look_of_root, root}
use Rattle.pdl_machine.specs.Arrays.{Arrays, array_in, with_new}
use Rattle.pdl_machine.specs.Cuts.{is_read}
use Rattle.pdl_machine.specs.Flows.{Flow, Flows, all_read, flows_with, is_reached}
use Rattle.pdl_machine.specs.Following.{AreFlows, AreOlder, IsFlow, RootsAbove}
use Rattle.pdl_machine.specs.Names.{Names, bind}
use Rattle.pdl_machine.specs.Outcome.{Valued, new_root}
use Rattle.pdl_machine.specs.State.{AreLive, IsWhole, with_flow}
use Rattle.pdl_machine.specs.Step.{Stepped, begun, bind_value, bound}
use Rattle.pdl_machine.specs.Then.{and_then}
use Rattle.pdl_machine.specs.Watches.{Watches}
use Rattle.pdl_scope.specs.declared.fault.ScopeFault.{ScopeFault}
use Rattle.pdl_scope.specs.Answers.{Runs}
use Rattle.pdl_scope.specs.Growth.{grows_trans}
use Rattle.pdl_scope.specs.Scope.{Scope, machine, times, Grows}
use Rattle.pdl_engine.specs.Held.{count_at, holders, one_more_at}
use Rattle.pdl_engine.specs.HoldLaws.{OneMoreCounts}
use Rattle.pdl_scope.proofs.FlowingStays.{GrowthLaws, each_at, flow_live, flows_joined, live_listed, older_seen, seen_live, seen_shows, shown_same}
use Rattle.pdl_scope.proofs.HoldingLemmas.{times_few, times_more}

-- ---- lists

pub live_at : (w : World) (vs : List ℕ) (i : ℕ) → AreLive w vs → i < length vs → IsLive w (get_or vs i 0)
live_at w [] i live lt = absurd (omega arith)
live_at w (v ∷ vs) zero live lt = live.0
live_at w (v ∷ vs) (suc i) live lt = live_at w vs i live.1 (omega arith)

-- what is read first, or later
pub read_first : (w : World) (xs ys : List ℕ) (v : ℕ) → is_reached w (xs ++ ys) v ≡ (is_reached w xs v || is_reached w ys v)
read_first w xs ys v = list_any-append (λ u. is_listed (path w u) v) xs ys

-- the arrays that one formula reads are there where all are
pub reads_at : (w : World) (flows : Flows) (i : ℕ) (f : Flow) → AreLive w (all_read flows) → i < length flows → f ≡ get_or flows i f → AreLive w (arrays_in f.formula)
reads_at w [] i f live lt is = absurd (omega arith)
reads_at w (x ∷ flows) zero f live lt is = (let P : Flow → Type 0 = λ h. AreLive w (arrays_in h.formula) in subst P (sym is) (front (arrays_in x.formula) live))
  where
    front : (ks : List ℕ) → AreLive w (ks ++ all_read flows) → AreLive w ks
    front [] h = tt
    front (k ∷ ks) h = (h.0, front ks h.1)
reads_at w (x ∷ flows) (suc i) f live lt is = reads_at w flows i f (back (arrays_in x.formula) live) (omega arith) is
  where
    back : (ks : List ℕ) → AreLive w (ks ++ all_read flows) → AreLive w (all_read flows)
    back [] h = h
    back (k ∷ ks) h = back ks h.1

-- ---- holds

-- so many times at most among the first of a list
pub times_within : (ids : List ℕ) (i v : ℕ) → times (take i ids) v ≤ length ids
times_within ids i v = (let few = times_few (take i ids) v in let short = length-take i ids in omega (arith, few, short))

-- one more of a list is held once more
pub held_once_more : OneMoreCounts → (hs : List (ℕ × ℕ)) (before : ℕ) (ids : List ℕ) (i v : ℕ) → i < length ids → is_listed (holders hs) (get_or ids i 0) ≡ true → count_at hs v ≡ before + times (take i ids) v
    → count_at (one_more_at hs (get_or ids i 0)) v ≡ before + times (take (i + 1) ids) v
held_once_more more hs before ids i v lt known so_far =
    let c = more hs (get_or ids i 0) v known in
    let t : times (take (i + 1) ids) v ≡ times (take i ids ++ get_or ids i 0 ∷ []) v = ap (λ (ks : List ℕ). times ks v) (take_more ids i 0 lt) in
    let m = times_more (take i ids) (get_or ids i 0 ∷ []) v in
    omega (arith, c, so_far, t, m)

-- ---- the flow that begins

-- it reads what is there, and its root is there
pub begun_live : (a : Arrays) (fs : Flows) (r : ℕ) (f : FormulaTree) → AreFlows a (flows_with fs r f) → AreLive a.world (arrays_in f) × IsLive a.world r
begun_live a [] r f h = (all (arrays_in f) h.0.older, flow_live a (record { root = r; formula = f }) h.0)
  where
    all : (ks : List ℕ) → AreOlder a.world r ks → AreLive a.world ks
    all [] older = tt
    all (k ∷ ks) older = (older.1, all ks older.2)
begun_live a (g ∷ fs) r f h = begun_live a fs r f h.2

-- roots that are there lie below a number that is above all
above_all : (n : ℕ) (fs : Flows) (r : ℕ) (f : FormulaTree) → RootsAbove n fs → n < r → RootsAbove n (flows_with fs r f)
above_all n [] r f above lt = (lt, tt)
above_all n (g ∷ fs) r f above lt = (above.0, above_all n fs r f above.1 lt)

-- one more flow, whose root is newer than all that were there
more_flows : LiveLieBelow → (a b : Arrays) (fs : Flows) (r : ℕ) (f : FormulaTree) → NumbersBelow r a.world → AreFlows a fs → AreFlows b fs → IsFlow b (record { root = r; formula = f }) → AreFlows b (flows_with fs r f)
more_flows lie a b [] r f below before h is = (is, tt, tt)
more_flows lie a b (g ∷ fs) r f below before h is =
    (h.0, above_all g.root fs r f h.1 (lie a.world r g.root below (flow_live a g before.0)), more_flows lie a b fs r f below before.2 h.2 is)

-- the laws of new roots
pub record RootLaws : Type 0 where
  pub growth : GrowthLaws
  pub meaning : MeaningLaws
  pub below : LiveLieBelow
  pub seen : NewRootIsSeen
  pub whole : NewRootIsWhole
  pub path : NewRootHasPath

abbrev made_of : Ty → List ℕ → List ℤ → Made
made_of ty ds es = record { ty = ty; dims = ds; elems = es }

abbrev value_is : Made → Result Made OpRefusal
value_is m = Ok m

-- a new root of a formula's value is a flow
pub root_flows : RootLaws → (a : Arrays) (m : Made) (f : FormulaTree) (fs : Flows) → NumbersBelow a.next a.world → IsSound (with_new a (root m.ty m.dims m.elems)).0.world → IsFormula f → AreLive a.world (arrays_in f)
    → meaning (array_in a) f ≡ Ok m → AreFlows a fs → AreFlows (with_new a (root m.ty m.dims m.elems)).0 (flows_with fs a.next f)
root_flows laws a m f fs below sound formula live equals h =
    more_flows laws.below a b fs a.next f below h (flows_joined laws.growth a b a.next d fs below refl h) (record {
      seen = look_of_root a.next m.ty m.dims;
      is_root = record { look_is = laws.whole w a.next m.ty m.dims m.elems; path_is = laws.path w a.next m.ty m.dims m.elems };
      is_formula = formula;
      older = older (arrays_in f) live;
      equals = laws.meaning.same (array_in b) (array_in a) f (each (arrays_in f) live) ∙ equals ∙ ap value_is (sym shows);
    })
  where
    w : World
    w = a.world

    d : ArrayDef
    d = root m.ty m.dims m.elems

    b : Arrays
    b = (with_new a d).0

    shows : array_in b a.next ≡ m
    shows = let s = laws.seen w a.next m.ty m.dims m.elems sound.1.1.count in three s.ty_is s.dims_are s.elems_are
      where
        three : {t t' : Ty} {ds ds' : List ℕ} {es es' : List ℤ} → t ≡ t' → ds ≡ ds' → es ≡ es' → made_of t ds es ≡ made_of t' ds' es'
        three p q r = cc

    older : (ks : List ℕ) → AreLive w ks → AreOlder b.world a.next ks
    older [] l = tt
    older (k ∷ ks) l = (laws.below w a.next k below l.0, seen_live w b.world k (older_seen laws.growth w a.next d k below l.0) l.0, older ks l.1)

    each : (ks : List ℕ) → AreLive w ks → All (λ k. array_in b k ≡ array_in a k) ks
    each ks l = each_at (λ k. array_in b k ≡ array_in a k) ks (λ k t. shown_same a b k (seen_shows w b.world k (older_seen laws.growth w a.next d k below (live_listed w ks k l t))))

-- one value
abbrev valued : Arrays × ℕ → Valued
valued p = Ok p

abbrev value_or : Arrays × ℕ → Valued → Arrays × ℕ
value_or d (Ok p) = p
value_or d (Err e) = d

the_value : (p q : Arrays × ℕ) → valued p ≡ valued q → p ≡ q
the_value p q e = ap (value_or p) e

-- so is that of an array of the formula's value
pub begun_flows : RootLaws → (s mid : Scope) (v r : ℕ) (f : FormulaTree) → IsWhole (machine s) → IsWhole (machine mid) → mid.flows ≡ s.flows → IsFormula f → AreLive s.arrays.world (arrays_in f)
    → meaning (array_in s.arrays) f ≡ Ok (array_in s.arrays v) → new_root s.arrays (array_in s.arrays v) ≡ Ok (mid.arrays, r) → AreFlows mid.arrays (flows_with mid.flows r f)
begun_flows laws s mid v r f whole after flows formula live equals made =
    let a : Arrays = s.arrays in
    let m : Made = array_in a v in
    let is : with_new a (root m.ty m.dims m.elems) ≡ (mid.arrays, r) = the_value (with_new a (root m.ty m.dims m.elems)) (mid.arrays, r) made in
    let S : Arrays × ℕ → Type 0 = λ p. IsSound p.0.world in
    let P : Arrays × ℕ → Type 0 = λ p. AreFlows p.0 (flows_with mid.flows p.1 f) in
    let F : Flows → Type 0 = λ fs. AreFlows (with_new a (root m.ty m.dims m.elems)).0 (flows_with fs a.next f) in
    subst P is (subst F (sym flows) (root_flows laws a m f s.flows whole.below (subst S (sym is) after.sound) formula live equals whole.flows))

-- what a binding of the next array comes to
pub begun_so : (s mid : Scope) (x : List ℕ) (v r : ℕ) (f : FormulaTree) → Grows s mid → new_root s.arrays (array_in s.arrays v) ≡ Ok (mid.arrays, r)
    → bind_value (with_flow (machine mid) r f) x (mid.arrays, r) ≡ bound (begun (machine s) s.arrays f) x (new_root s.arrays (array_in s.arrays v))
begun_so s mid x v r f grown made =
    let a : Arrays = s.arrays in
    let m : Made = array_in a v in
    let is : with_new a (root m.ty m.dims m.elems) ≡ (mid.arrays, r) = the_value (with_new a (root m.ty m.dims m.elems)) (mid.arrays, r) made in
    let number : r ≡ a.next = ap (λ (p : Arrays × ℕ). p.1) (sym is) in
    let B : Names → Watches → Flows → Stepped = λ names ws fs. and_then (bind names x r) (λ after. Ok (record { names = after; arrays = mid.arrays; watches = ws; flows = fs }, [])) in
    ap (λ (ns : Names). B ns mid.watches (flows_with mid.flows r f)) grown.names
    ∙ ap (λ (ws : Watches). B s.names ws (flows_with mid.flows r f)) grown.watches
    ∙ ap (λ (fs : Flows). B s.names s.watches (flows_with fs r f)) grown.flows
    ∙ ap (λ (n : ℕ). B s.names s.watches (flows_with s.flows n f)) number
    ∙ ap (bound (begun (machine s) a f) x) (sym made)

-- what a call does, once arrays came
pub runs_then : {T : Type 0} (wanted : Stepped) (old mid new : Scope) (r : Result T ScopeFault) → Grows old mid → Runs wanted mid new [] [] r → Runs wanted old new [] [] r
runs_then wanted old mid new (Ok x) g h = h
runs_then wanted old mid new (Err e) g h = (h.0, record { grown = grows_trans old mid new g h.1.grown; printed = h.1.printed })
