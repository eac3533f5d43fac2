-- Flows that follow equal their formulas: each one's assignment changes only what newer flows read.
use Rattle.std.proofs.Common.{◌≡◌, ℕ, zero, suc, ◌+◌, ◌<◌, ◌≤◌, ℤ, List, [], ◌∷◌, map, length, All, true, false, Option, Some, None, Result, Ok, Err, refl, sym, ap, subst, ◌∙◌, arith, eqb-true}
use Rattle.std.specs.Prelude.{◌==◌, if◌then◌else◌, IsSomeAnd, option_and_then}
use Rattle.std.specs.List.{range_with_len}
use Rattle.std.specs.Option.{option_map_or}
use Rattle.std.proofs.lemmas.List.{set-get_or, length-map}
use Rattle.std.proofs.lemmas.List.FromFn.{length-range_with_len}
use Rattle.std.proofs.lemmas.List.Elements.{All-nil, All-cons}
use Rattle.pdl_lemmas.specs.Tests.{by_test}
use Rattle.pdl_elem.specs.declared.Ty.{Ty}
use Rattle.pdl_elem.specs.declared.Ty.TheVariants.{Byte}
use Rattle.pdl_elem.specs.Types.{InRange}
use Rattle.pdl_shape.specs.Places.{read, write}
use Rattle.pdl_shape.specs.Refusals.{Refusal}
use Rattle.pdl_shape.specs.Shape.{size_of}
use Rattle.pdl_buf.specs.declared.made.Made.{Made}
use Rattle.pdl_ops.specs.Elementwise.{OpRefusal}
use Rattle.pdl_ops.specs.Laws.{IsArray, form, form_of}
use Rattle.pdl_flow.specs.Formula.{IsFormula, arrays_in}
use Rattle.pdl_flow.specs.Meaning.{meaning}
use Rattle.pdl_flow.specs.Laws.{MeaningLaws}
use Rattle.pdl_world.specs.Formula.{child_dims}
use Rattle.pdl_world.specs.World.{World, root, view, Look, look_of_root, look, through, seen_through, is_among, has_repeats, root_elements, set_elements, elements, dims_in, ty_in, assign, assign_through}
use Rattle.pdl_world.specs.Laws.{LooksStay, PathsStay, Reads, ReadsBack, kept_values, AssignsSoundly}
use Rattle.pdl_world.specs.CutLaws.{IsRootIn}
use Rattle.pdl_world.specs.Sound.{NumbersBelow, IsSound, IsLive}
use Rattle.pdl_world.specs.SweepLaws.{IsSeenAsBefore}
use Rattle.pdl_machine.specs.Arrays.{Arrays, array_in}
use Rattle.pdl_machine.specs.Flows.{Flow, Flows}
use Rattle.pdl_machine.specs.Following.{given, follow, followed, AreOlder, IsFlow, RootsAbove, AreFlows}
use Rattle.pdl_machine.specs.DumpableLaws.{ShownAreMade}
use Rattle.pdl_machine.specs.FlowLaws.{KeepsLooks, FlowsFollow, FlowsRest}
use Rattle.pdl_machine.proofs.ArraysRenamed.{look-other}
use Rattle.pdl_machine.proofs.FlowLemmas.{meaning_same}
use Rattle.pdl_machine.proofs.TidyNumbering.{in_world, IsOrderly, orderly_sound}
use Rattle.pdl_machine.proofs.StepQuiet.{live_as}
use Rattle.pdl_machine.proofs.FlowMoves.{AreShown, seen_shows, same_shown, flow_moved}

-- the laws that are used here
pub record Laws : Type 0 where
  pub looks : LooksStay
  pub paths : PathsStay
  pub reads : Reads
  pub back : ReadsBack
  pub sound : AssignsSoundly
  pub shown : ShownAreMade
  pub formulas : MeaningLaws

-- ---- where an array is, and what an assignment leaves

pub below_in : (n : ℕ) (w : World) (v : ℕ) → NumbersBelow n w → in_world w v ≡ true → v < n
below_in n [] v below there = cc
below_in n ((k, d) ∷ w) v below there =
    by_test (k == v) (λ same. let e : k ≡ v = eqb-true k v same in omega (arith, e, below.0)) (λ other. let t : in_world w v ≡ true = rw other at there in below_in n w v below.1 t)

-- a root isn't newer than what shows it
root_low : (w : World) (k : ℕ) (l : Look) → IsOrderly w → look w k ≡ Some l → l.root ≤ k
root_low [] k l order is = cc
root_low ((j, root ty ds es) ∷ w) k l order is = by_test (j == k)
    (λ same. let h : Some (look_of_root j ty ds) ≡ Some l = rw same at is in let r : j ≡ l.root = ap (λ (o : Option Look). option_map_or (λ x. x.root) o 0) h in
    let e : j ≡ k = eqb-true j k same in omega (arith, r, e))
    (λ other. let h : look w k ≡ Some l = rw other at is in root_low w k l order.2 h)
root_low ((j, view p t) ∷ w) k l order is = by_test (j == k)
    (λ same. let h : option_and_then (through t) (look w p) ≡ Some l = rw same at is in
    let low : l.root ≤ p = by_parent (look w p) (λ m e. root_low w p m order.2 e) h refl in
    let lt : p < j = below_in j w p order.0 order.1.0 in
    let e : j ≡ k = eqb-true j k same in omega (arith, low, lt, e))
    (λ other. root_low w k l order.2 (sym (look-other j k (view p t) w other) ∙ is))
  where
    by_dims : (m : Look) (x : Result (List ℕ) Refusal) → seen_through t m x ≡ Some l → m.root ≡ l.root
    by_dims m (Ok ds) e = ap (λ (o : Option Look). option_map_or (λ y. y.root) o 0) e
    by_dims m (Err refusal) e = cc

    by_parent : (o : Option Look) → ((m : Look) → look w p ≡ Some m → m.root ≤ p) → option_and_then (through t) o ≡ Some l → look w p ≡ o → l.root ≤ p
    by_parent None low e at = cc
    by_parent (Some m) low e at = let r : m.root ≡ l.root = by_dims m (child_dims t m.dims) e in omega (arith, low m at, r)

-- what an array of another root is seen as stays
pub elsewhere : Laws → (w : World) (r : ℕ) (lr : Look) (vs : List ℤ) → look w r ≡ Some lr → lr.root ≡ r → (k : ℕ) (m : Look) → look w k ≡ Some m → (m.root == r) ≡ false → IsSeenAsBefore w (assign w r vs) k
elsewhere laws w r lr vs there own k m here apart = record {
  look_is = laws.looks w r k vs;
  elems_are = (let other : (m.root == lr.root) ≡ false = ap (λ x. m.root == x) own ∙ apart in
      let e : elements (assign w r vs) k ≡ read m.places (if m.root == lr.root then write lr.places vs (root_elements w lr.root) else root_elements w m.root) = laws.reads w r k lr m vs there here in
      let f : elements (assign w r vs) k ≡ read m.places (root_elements w m.root) = rw other at e in
      f ∙ sym (ap (λ (o : Option Look). option_map_or (λ l. read l.places (root_elements w l.root)) o []) here));
  path_is = laws.paths w r k vs;
}

-- each position of a root is its own place
among_later : (i a n : ℕ) → i < a → is_among i (map Some (range_with_len a n)) ≡ false
among_later i a zero lt = refl
among_later i a (suc n) lt =
    let other : (i == a) ≡ false = by_test (i == a) (λ same. let e : i ≡ a = eqb-true i a same in absurd (omega (arith, e, lt))) (λ o. o) in
    rw other (among_later i (a + 1) n (omega (arith, lt)))

no_repeats : (a n : ℕ) → has_repeats (map Some (range_with_len a n)) ≡ false
no_repeats a zero = refl
no_repeats a (suc n) = let first : is_among a (map Some (range_with_len (a + 1) n)) ≡ false = among_later a (a + 1) n (omega arith) in rw first (no_repeats (a + 1) n)

all_values : (a n : ℕ) (vs : List ℤ) → length vs ≡ n → kept_values (map Some (range_with_len a n)) vs ≡ vs
all_values a zero [] e = refl
all_values a zero (x ∷ vs) e = absurd (omega (arith, e))
all_values a (suc n) [] e = absurd (omega (arith, e))
all_values a (suc n) (x ∷ vs) e = ap (λ (es : List ℤ). x ∷ es) (all_values (a + 1) n vs (omega (arith, e)))

-- a root has what was assigned to it
root_assigned : Laws → (w : World) (r : ℕ) (l : Look) (vs : List ℤ) → IsSound w → IsRootIn w r l → length vs ≡ size_of l.dims → elements (assign w r vs) r ≡ vs
root_assigned laws w r l vs sound own long =
    laws.back w r (look_of_root r l.ty l.dims) vs sound own.look_is (no_repeats 0 (size_of l.dims))
    (long ∙ sym (length-map (range_with_len 0 (size_of l.dims)) Some ∙ length-range_with_len 0 (size_of l.dims)))
    ∙ all_values 0 (size_of l.dims) vs long

-- ---- one flow

-- a flow whose root has the form of what its formula is
pub record IsFormed (a : Arrays) (f : Flow) : Type 0 where
  pub seen : Look
  pub is_root : IsRootIn a.world f.root seen
  pub is_formula : IsFormula f.formula
  pub older : AreOlder a.world f.root (arrays_in f.formula)
  pub form_is : form (meaning (array_in a) f.formula) ≡ Ok (form_of (array_in a f.root))

pub formed : (a : Arrays) (f : Flow) → IsFlow a f → IsFormed a f
formed a f h = record { seen = h.seen; is_root = h.is_root; is_formula = h.is_formula; older = h.older; form_is = ap form h.equals }

-- arrays of the same forms
abbrev HasForms : (a b : Arrays) → List ℕ → Type 0
HasForms a b ks = All (λ k. form_of (array_in b k) ≡ form_of (array_in a k)) ks

form_seen : (a b : Arrays) (k : ℕ) → look b.world k ≡ look a.world k → form_of (array_in b k) ≡ form_of (array_in a k)
form_seen a b k same =
    ap (λ (o : Option Look). (option_map_or (λ l. l.ty) o Byte, option_map_or (λ l. l.dims) o [])) same

forms_seen : (a b : Arrays) (r : ℕ) (ks : List ℕ) → AreOlder a.world r ks → KeepsLooks a.world b.world → HasForms a b ks
forms_seen a b r [] older keeps = All-nil (λ k. form_of (array_in b k) ≡ form_of (array_in a k))
forms_seen a b r (k ∷ ks) older keeps =
    All-cons (λ k. form_of (array_in b k) ≡ form_of (array_in a k)) k ks (form_seen a b k (keeps k older.1).0) (forms_seen a b r ks older.2 keeps)

older_seen : (w u : World) (r : ℕ) (ks : List ℕ) → AreOlder w r ks → KeepsLooks w u → AreOlder u r ks
older_seen w u r [] older keeps = tt
older_seen w u r (k ∷ ks) older keeps = (older.0, live_as w u k (keeps k older.1).0 older.1, older_seen w u r ks older.2 keeps)

root_live : (w : World) (r : ℕ) (l : Look) → IsRootIn w r l → IsLive w r
root_live w r l own = let P : Option Look → Type 0 = λ o. IsSomeAnd o (λ x. Unit {0}) in subst P (sym own.look_is) tt

-- it stays so where elements change
pub formed_seen : Laws → (a b : Arrays) (f : Flow) → IsFormed a f → KeepsLooks a.world b.world → IsFormed b f
formed_seen laws a b f h keeps =
    let live : IsLive a.world f.root = root_live a.world f.root h.seen h.is_root in
    let here = keeps f.root live in
    record {
      seen = h.seen;
      is_root = record { look_is = here.0 ∙ h.is_root.look_is; path_is = here.1 ∙ h.is_root.path_is };
      is_formula = h.is_formula;
      older = older_seen a.world b.world f.root (arrays_in f.formula) h.older keeps;
      form_is = laws.formulas.alike (array_in b) (array_in a) f.formula h.is_formula (forms_seen a b f.root (arrays_in f.formula) h.older keeps)
          ∙ h.form_is ∙ ap form_ok (sym (form_seen a b f.root here.0));
    }
  where
    form_ok : Ty × List ℕ → Result (Ty × List ℕ) OpRefusal
    form_ok x = Ok x

-- an assignment keeps looks, and so does a flow that follows
given_keeps : Laws → (a : Arrays) (r : ℕ) (x : Result Made OpRefusal) → KeepsLooks a.world (given a r x).world
given_keeps laws a r (Ok m) v live = (laws.looks a.world r v m.elems, laws.paths a.world r v m.elems)
given_keeps laws a r (Err e) v live = (refl, refl)

pub follow_keeps : Laws → (a : Arrays) (f : Flow) → KeepsLooks a.world (follow a f).world
follow_keeps laws a f = given_keeps laws a f.root (meaning (array_in a) f.formula)

pub live_look : (w : World) (k : ℕ) → IsLive w k → (m : Look) × (look w k ≡ Some m)
live_look w k live = by_look (look w k) live refl
  where
    by_look : (o : Option Look) → IsSomeAnd o (λ x. Unit {0}) → look w k ≡ o → (m : Look) × (look w k ≡ Some m)
    by_look (Some m) h e = (m, e)
    by_look None h e = absurd h

-- what is older than a root shows what it did when the root is assigned to
older_elsewhere : Laws → (w : World) (r : ℕ) (l : Look) (vs : List ℤ) → IsOrderly w → IsRootIn w r l → (n : ℕ) → n ≤ r → (ks : List ℕ) → AreOlder w n ks → AreShown w (assign w r vs) ks
older_elsewhere laws w r l vs order own n le [] older = tt
older_elsewhere laws w r l vs order own n le (k ∷ ks) older =
    let seen = live_look w k older.1 in
    let low : seen.0.root ≤ k = root_low w k seen.0 order seen.1 in
    let apart : (seen.0.root == r) ≡ false =
    by_test (seen.0.root == r) (λ same. let e : seen.0.root ≡ r = eqb-true seen.0.root r same in absurd (omega (arith, e, low, older.0, le))) (λ o. o) in
    let s : IsSeenAsBefore w (assign w r vs) k = elsewhere laws w r (look_of_root r l.ty l.dims) vs own.look_is refl k seen.0 seen.1 apart in (
      seen_shows w (assign w r vs) k s,
      live_as w (assign w r vs) k s.look_is older.1,
      older_elsewhere laws w r l vs order own n le ks older.2,
    )

-- what is read are arrays
reads_arrays : Laws → (a : Arrays) (r : ℕ) → IsSound a.world → (ks : List ℕ) → AreOlder a.world r ks → All (λ k. IsArray (array_in a k)) ks
reads_arrays laws a r sound [] older = All-nil (λ k. IsArray (array_in a k))
reads_arrays laws a r sound (k ∷ ks) older = All-cons (λ k. IsArray (array_in a k)) k ks (laws.shown a.world k sound older.1).1 (reads_arrays laws a r sound ks older.2)

-- a flow that has followed, in arrays that are sound
pub record HasFollowed (a : Arrays) (f : Flow) : Type 0 where
  pub sound : IsSound a.world
  pub flow : IsFlow a f

pub follow_one : Laws → (a : Arrays) (f : Flow) → IsSound a.world → IsFormed a f → HasFollowed (follow a f) f
follow_one laws a f sound h = by_value (meaning (array_in a) f.formula) refl
  where
    w : World
    w = a.world

    r : ℕ
    r = f.root

    ks : List ℕ
    ks = arrays_in f.formula

    form_in : Result (Ty × List ℕ) OpRefusal → Ty × List ℕ → Ty × List ℕ
    form_in (Ok x) other = x
    form_in (Err e) other = other

    by_value : (x : Result Made OpRefusal) → meaning (array_in a) f.formula ≡ x → HasFollowed (given a r x) f
    by_value (Err e) is = let no' : Err e ≡ Ok (form_of (array_in a r)) = sym (ap form is) ∙ h.form_is in cc
    by_value (Ok m) is =
        let same : form_of m ≡ form_of (array_in a r) = ap (λ x. form_in x (form_of m)) (sym (ap form is) ∙ h.form_is) in
        let ty : m.ty ≡ ty_in w r = ap (λ x. x.0) same in
        let dims : m.dims ≡ dims_in w r = ap (λ x. x.1) same in
        let seen_ty : ty_in w r ≡ h.seen.ty = ap (λ (o : Option Look). option_map_or (λ l. l.ty) o Byte) h.is_root.look_is in
        let seen_dims : dims_in w r ≡ h.seen.dims = ap (λ (o : Option Look). option_map_or (λ l. l.dims) o []) h.is_root.look_is in
        let made : IsArray m = laws.formulas.arrays (array_in a) f.formula m h.is_formula (reads_arrays laws a r sound ks h.older) is in
        let u : World = assign w r m.elems in
        let b : Arrays = record a { world = u } in
        let keeps : KeepsLooks w u = λ v live. (laws.looks w r v m.elems, laws.paths w r v m.elems) in
        let long : length m.elems ≡ size_of h.seen.dims = made.count ∙ ap size_of (dims ∙ seen_dims) in
        let elems : elements u r ≡ m.elems = root_assigned laws w r h.seen m.elems sound h.is_root long in
        let here = form_seen a b r (laws.looks w r r m.elems) in
        let shows : array_in b r ≡ m = three (ap (λ x. x.0) here ∙ sym ty) (ap (λ x. x.1) here ∙ sym dims) elems in
        record {
          sound = laws.sound w r m.elems sound (subst (λ (t : Ty). All (InRange t) m.elems) ty made.in_range);
          flow = record {
            seen = h.seen;
            is_root = record { look_is = laws.looks w r r m.elems ∙ h.is_root.look_is; path_is = laws.paths w r r m.elems ∙ h.is_root.path_is };
            is_formula = h.is_formula;
            older = older_seen w u r ks h.older keeps;
            equals = meaning_same (array_in b) (array_in a) f.formula
                (same_shown a b ks (older_elsewhere laws w r h.seen m.elems (orderly_sound w sound) h.is_root r (omega arith) ks h.older))
                ∙ is ∙ ap value_is (sym shows);
          };
        }
      where
        value_is : Made → Result Made OpRefusal
        value_is m = Ok m

        made_of : Ty → List ℕ → List ℤ → Made
        made_of t ds es = record { ty = t; dims = ds; elems = es }

        three : {t t' : Ty} {ds ds' : List ℕ} {es es' : List ℤ} → t ≡ t' → ds ≡ ds' → es ≡ es' → made_of t ds es ≡ made_of t' ds' es'
        three p q r = cc

-- ---- one after another

-- a flow stays where a newer one follows
stays_one : Laws → (a : Arrays) (f g : Flow) → IsSound a.world → IsFlow a f → IsFormed a g → f.root < g.root → IsFlow (follow a g) f
stays_one laws a f g sound h next lt = by_value (meaning (array_in a) g.formula)
  where
    w : World
    w = a.world

    by_value : (x : Result Made OpRefusal) → IsFlow (given a g.root x) f
    by_value (Err e) = h
    by_value (Ok m) =
        let order : IsOrderly w = orderly_sound w sound in
        let apart : (f.root == g.root) ≡ false = by_test (f.root == g.root) (λ same. let e : f.root ≡ g.root = eqb-true f.root g.root same in absurd (omega (arith, e, lt))) (λ o. o) in
        flow_moved a (record a { world = assign w g.root m.elems }) f h
        (older_elsewhere laws w g.root next.seen m.elems order next.is_root f.root (omega (arith, lt)) (arrays_in f.formula) h.older)
        (elsewhere laws w g.root (look_of_root g.root next.seen.ty next.seen.dims) m.elems next.is_root.look_is refl f.root (look_of_root f.root h.seen.ty h.seen.dims) h.is_root.look_is apart)

abbrev AreFormed : Arrays → Flows → Type 0
AreFormed a [] = Unit {0}
AreFormed a (f ∷ flows) = IsFormed a f × RootsAbove f.root flows × AreFormed a flows

all_formed : Laws → (a b : Arrays) → KeepsLooks a.world b.world → (flows : Flows) → AreFlows a flows → AreFormed b flows
all_formed laws a b keeps [] h = tt
all_formed laws a b keeps (f ∷ flows) h = (formed_seen laws a b f (formed a f h.0) keeps, h.1, all_formed laws a b keeps flows h.2)

formed_on : Laws → (a b : Arrays) → KeepsLooks a.world b.world → (flows : Flows) → AreFormed a flows → AreFormed b flows
formed_on laws a b keeps [] h = tt
formed_on laws a b keeps (f ∷ flows) h = (formed_seen laws a b f h.0 keeps, h.1, formed_on laws a b keeps flows h.2)

stays_all : Laws → (a : Arrays) (f : Flow) (flows : Flows) → IsSound a.world → IsFlow a f → RootsAbove f.root flows → AreFormed a flows → IsFlow (followed a flows) f
stays_all laws a f [] sound h above formed = h
stays_all laws a f (g ∷ flows) sound h above formed =
    let b : Arrays = follow a g in
    stays_all laws b f flows (follow_one laws a g sound formed.0).sound (stays_one laws a f g sound h formed.0 above.0) above.1
    (formed_on laws a b (follow_keeps laws a g) flows formed.2)

follow_all : Laws → (a : Arrays) (flows : Flows) → IsSound a.world → AreFormed a flows → AreFlows (followed a flows) flows
follow_all laws a [] sound formed = tt
follow_all laws a (f ∷ flows) sound formed =
    let b : Arrays = follow a f in
    let one : HasFollowed b f = follow_one laws a f sound formed.0 in
    let rest : AreFormed b flows = formed_on laws a b (follow_keeps laws a f) flows formed.2 in
    (stays_all laws b f flows one.sound one.flow formed.1 rest, formed.1, follow_all laws b flows one.sound rest)

pub flows_follow : Laws → FlowsFollow
flows_follow laws s a whole sound keeps = follow_all laws a s.flows sound (all_formed laws s.arrays a keeps s.flows whole.flows)

-- ---- where nothing changes

-- writing what is read changes nothing
write_back : (ps : List (Option ℕ)) (es : List ℤ) → write ps (read ps es) es ≡ es
write_back [] es = refl
write_back (None ∷ ps) es = write_back ps es
write_back (Some i ∷ ps) es = ap (λ (x : List ℤ). write ps (read ps es) x) (set-get_or es i _) ∙ write_back ps es

set_none : (w : World) (r : ℕ) (es : List ℤ) → NumbersBelow r w → set_elements w r es ≡ w
set_none [] r es below = refl
set_none ((k, root ty ds old) ∷ w) r es below =
    let other : (k == r) ≡ false = by_test (k == r) (λ same. let e : k ≡ r = eqb-true k r same in absurd (omega (arith, e, below.0))) (λ o. o) in
    rw other (ap (λ (u : World). (k, root ty ds old) ∷ u) (set_none w r es below.1))
set_none ((k, view p t) ∷ w) r es below = ap (λ (u : World). (k, view p t) ∷ u) (set_none w r es below.1)

set_same : (w : World) (r : ℕ) → IsOrderly w → set_elements w r (root_elements w r) ≡ w
set_same [] r order = refl
set_same ((k, root ty ds es) ∷ w) r order = by_test (k == r)
    (λ same. let e : k ≡ r = eqb-true k r same in
    rw same (ap (λ (u : World). (k, root ty ds es) ∷ u) (set_none w r es (subst (λ n. NumbersBelow n w) e order.0))))
    (λ other. rw other (ap (λ (u : World). (k, root ty ds es) ∷ u) (set_same w r order.2)))
set_same ((k, view p t) ∷ w) r order = ap (λ (u : World). (k, view p t) ∷ u) (set_same w r order.2)

-- an array assigned to itself
pub assign_same : (w : World) (v : ℕ) → IsOrderly w → assign w v (elements w v) ≡ w
assign_same w v order = by_look (look w v)
  where
    by_look : (o : Option Look) → assign_through w o (option_map_or (λ l. read l.places (root_elements w l.root)) o []) ≡ w
    by_look None = refl
    by_look (Some l) = ap (set_elements w l.root) (write_back l.places (root_elements w l.root)) ∙ set_same w l.root order

pub flows_rest : FlowsRest
flows_rest a [] sound h = refl
flows_rest a (f ∷ flows) sound h =
    ap (λ (b : Arrays). followed b flows) (ap (given a f.root) h.0.equals ∙ ap (λ (w : World). with_world w) (assign_same a.world f.root (orderly_sound a.world sound)))
    ∙ flows_rest a flows sound h.2
  where
    with_world : World → Arrays
    with_world w = record a { world = w }
