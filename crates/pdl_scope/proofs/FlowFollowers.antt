-- Which flows follow assignments, and what their formulas are then.
use Rattle.std.proofs.Common.{◌≡◌, ◌≢◌, ℕ, zero, suc, ◌+◌, ◌<◌, ◌≤◌, ℤ, List, [], ◌∷◌, ◌++◌, map, drop, length, get_or, All, Bool, true, false, Option, Some, None, Result, Ok, Err, refl, sym, ap, subst, ◌∙◌, arith, eqb-true, eq-eqb}
use Rattle.std.specs.Prelude.{◌==◌, ◌||◌, if◌then◌else◌, IsSomeAnd}
use Rattle.std.specs.List.{list_any}
use Rattle.std.specs.Option.{option_map_or}
use Rattle.std.proofs.lemmas.List.{drop_more}
use Rattle.std.proofs.lemmas.List.Elements.{All-nil, All-cons, All-head, All-tail, All-weaker}
use Rattle.pdl_lemmas.specs.Tests.{by_test}
use Rattle.pdl_elem.specs.declared.Ty.{Ty}
use Rattle.pdl_elem.specs.declared.Ty.TheVariants.{Byte}
use Rattle.pdl_elem.specs.Types.{InRange}
use Rattle.pdl_shape.specs.Shape.{size_of}
use Rattle.pdl_buf.specs.Made.{IsMade}
use Rattle.pdl_buf.specs.declared.made.Made.{Made}
use Rattle.pdl_ops.specs.Answers.{IsRefused}
use Rattle.pdl_ops.specs.Elementwise.{OpRefusal}
use Rattle.pdl_ops.specs.Laws.{IsArray, form, form_of}
use Rattle.pdl_flow.specs.Formula.{arrays_in}
use Rattle.pdl_flow.specs.Inputs.{AreInputs, input_of, made_or, value_in}
use Rattle.pdl_flow.specs.Laws.{MeaningLaws}
use Rattle.pdl_flow.specs.Meaning.{meaning}
use Rattle.pdl_flow.specs.Inputs.{Given}
use Rattle.pdl_world.specs.World.{World, Look, look, look_of_root, assign, dims_in, ty_in}
use Rattle.pdl_world.specs.Paths.{root_of}
use Rattle.pdl_world.specs.Sound.{IsSound, IsLive}
use Rattle.pdl_world.specs.Swept.{is_listed}
use Rattle.pdl_machine.specs.Arrays.{Arrays, array_in}
use Rattle.pdl_machine.specs.DumpableLaws.{ShownAreMade}
use Rattle.pdl_machine.specs.Flows.{Flow, Flows, is_flow, reads_from, affected}
use Rattle.pdl_machine.specs.Following.{given, follow, AreOlder, IsFlow, RootsAbove, AreFlows}
use Rattle.pdl_machine.specs.State.{AreLive}

-- ---- which flows follow

any_same : {A : Type 0} (p q : A → Bool) → ((x : A) → p x ≡ q x) → (xs : List A) → list_any p xs ≡ list_any q xs
any_same p q same [] = refl
any_same p q same (x ∷ xs) = ap (λ b. b || list_any p xs) (same x) ∙ ap (λ b. q x || b) (any_same p q same xs)

reads_same : (w u : World) (f : Flow) (rs qs : List ℕ) → ((k : ℕ) → root_of w k ≡ root_of u k) → ((r : ℕ) → is_listed rs r ≡ is_listed qs r) → reads_from w f rs ≡ reads_from u f qs
reads_same w u f rs qs roots same =
    any_same (λ k. is_listed rs (root_of w k)) (λ k. is_listed qs (root_of u k)) (λ k. ap (is_listed rs) (roots k) ∙ same (root_of u k)) (arrays_in f.formula)

-- the same flows follow where the same roots are listed
pub affected_same : (w u : World) (flows : Flows) (rs qs : List ℕ) → ((k : ℕ) → root_of w k ≡ root_of u k) → ((r : ℕ) → is_listed rs r ≡ is_listed qs r) → affected w flows rs ≡ affected u flows qs
affected_same w u [] rs qs roots same = refl
affected_same w u (f ∷ flows) rs qs roots same =
    ap (λ (b : Bool). if b then f ∷ affected w flows (f.root ∷ rs) else affected w flows rs) (reads_same w u f rs qs roots same)
    ∙ ap (λ (fs : Flows). if reads_from u f qs then f ∷ fs else affected w flows rs) (affected_same w u flows (f.root ∷ rs) (f.root ∷ qs) roots (λ r. ap (λ b. (f.root == r) || b) (same r)))
    ∙ ap (λ (fs : Flows). if reads_from u f qs then f ∷ affected u flows (f.root ∷ qs) else fs) (affected_same w u flows rs qs roots same)

-- no array of another root is among those of one root
pub not_root : (r q : ℕ) → q ≢ r → is_listed (r ∷ []) q ≡ false
not_root r q other = by_test (r == q) (λ same. absurd (other (sym (eqb-true r q same)))) (λ not. rw not refl)

-- the last root stands as well at the head
pub listed_last : (rs : List ℕ) (q r : ℕ) → is_listed (rs ++ q ∷ []) r ≡ is_listed (q ∷ rs) r
listed_last [] q r = refl
listed_last (p ∷ rs) q r = ap (λ b. (p == r) || b) (listed_last rs q r) ∙ swap (p == r) (q == r) (is_listed rs r)
  where
    swap : (a b c : Bool) → (a || (b || c)) ≡ (b || (a || c))
    swap true true c = refl
    swap true false c = refl
    swap false b c = refl

-- what follows, from one flow on
pub affected_next : (w : World) (flows : Flows) (i : ℕ) (rs : List ℕ) (f : Flow) → i < length flows → f ≡ get_or flows i f
    → affected w (drop i flows) rs ≡ (if reads_from w f rs then f ∷ affected w (drop (i + 1) flows) (f.root ∷ rs) else affected w (drop (i + 1) flows) rs)
affected_next w flows i rs f lt is =
    ap (λ (fs : Flows). affected w fs rs) (drop_more flows i f lt ∙ ap (λ (g : Flow). g ∷ drop (i + 1) flows) (sym is))

pub affected_by : (w : World) (flows : Flows) (i : ℕ) (rs : List ℕ) (f : Flow) → i < length flows → f ≡ get_or flows i f → reads_from w f rs ≡ true
    → affected w (drop i flows) rs ≡ f ∷ affected w (drop (i + 1) flows) (rs ++ f.root ∷ [])
affected_by w flows i rs f lt is reads =
    let e : affected w (drop i flows) rs ≡ f ∷ affected w (drop (i + 1) flows) (f.root ∷ rs) = rw reads at (affected_next w flows i rs f lt is) in
    e ∙ ap (λ (fs : Flows). f ∷ fs) (affected_same w w (drop (i + 1) flows) (f.root ∷ rs) (rs ++ f.root ∷ []) (λ k. refl) (λ r. sym (listed_last rs f.root r)))

pub affected_past : (w : World) (flows : Flows) (i : ℕ) (rs : List ℕ) (f : Flow) → i < length flows → f ≡ get_or flows i f → reads_from w f rs ≡ false
    → affected w (drop i flows) rs ≡ affected w (drop (i + 1) flows) rs
affected_past w flows i rs f lt is none = rw none at (affected_next w flows i rs f lt is)

-- ---- the flow at a place

-- the flow, and those behind it, which have newer roots
pub record IsFlowAt (a : Arrays) (f : Flow) (behind : Flows) : Type 0 where
  pub flow : IsFlow a f
  pub above : RootsAbove f.root behind

pub flow_at : (a : Arrays) (flows : Flows) (i : ℕ) (f : Flow) → AreFlows a flows → i < length flows → f ≡ get_or flows i f → IsFlowAt a f (drop (i + 1) flows)
flow_at a flows i f h lt is =
    let opened : drop i flows ≡ f ∷ drop (i + 1) flows = drop_more flows i f lt ∙ ap (λ (g : Flow). g ∷ drop (i + 1) flows) (sym is) in
    let there : AreFlows a (f ∷ drop (i + 1) flows) = subst (AreFlows a) opened (dropped flows i h) in
    record { flow = there.0; above = there.1 }
  where
    dropped : (fs : Flows) (n : ℕ) → AreFlows a fs → AreFlows a (drop n fs)
    dropped [] zero all = all
    dropped [] (suc n) all = tt
    dropped (g ∷ fs) zero all = all
    dropped (g ∷ fs) (suc n) all = dropped fs n all.2

pub above_apart : (n : ℕ) (flows : Flows) (r : ℕ) → RootsAbove n flows → is_flow flows r ≡ true → (n == r) ≡ false
above_apart n [] r above here = cc
above_apart n (f ∷ flows) r above here = by_test (f.root == r)
    (λ is. by_test (n == r) (λ same. let d : f.root ≡ r = eqb-true f.root r is in let e : n ≡ r = eqb-true n r same in absurd (omega (arith, d, e, above.0))) (λ o. o))
    (λ other. let t : is_flow flows r ≡ true = rw other at here in above_apart n flows r above.1 t)

-- what a flow reads is there
pub older_live : (w : World) (r : ℕ) (ks : List ℕ) → AreOlder w r ks → AreLive w ks
older_live w r [] h = tt
older_live w r (k ∷ ks) h = (h.1, older_live w r ks h.2)

-- ---- what a formula is

form_seen : (a b : Arrays) (k : ℕ) → look b.world k ≡ look a.world k → form_of (array_in b k) ≡ form_of (array_in a k)
form_seen a b k same =
    ap (λ (o : Option Look). (option_map_or (λ l. l.ty) o Byte, option_map_or (λ l. l.dims) o [])) same

forms_seen : (a b : Arrays) → ((k : ℕ) → look b.world k ≡ look a.world k) → (ks : List ℕ) → All (λ k. form_of (array_in b k) ≡ form_of (array_in a k)) ks
forms_seen a b looks [] = All-nil (λ k. form_of (array_in b k) ≡ form_of (array_in a k))
forms_seen a b looks (k ∷ ks) = All-cons (λ k. form_of (array_in b k) ≡ form_of (array_in a k)) k ks (form_seen a b k (looks k)) (forms_seen a b looks ks)

abbrev form_in : Result (Ty × List ℕ) OpRefusal → Ty × List ℕ → Ty × List ℕ
form_in (Ok x) other = x
form_in (Err e) other = other

abbrev made_in : Result Made OpRefusal → Made → Made
made_in (Ok m) other = m
made_in (Err e) other = other

-- What a flow's formula is where elements changed: it has the form that the flow's root has.
pub record IsFormed (a b : Arrays) (f : Flow) (x : Result Made OpRefusal) : Type 0 where
  pub made : Made
  pub is : x ≡ Ok made
  pub ty_is : made.ty ≡ ty_in a.world f.root
  pub dims_are : made.dims ≡ dims_in a.world f.root

pub formed : MeaningLaws → (a b : Arrays) (f : Flow) → IsFlow a f → ((k : ℕ) → look b.world k ≡ look a.world k) → IsFormed a b f (meaning (array_in b) f.formula)
formed laws a b f h looks = by_value (meaning (array_in b) f.formula)
    (laws.alike (array_in b) (array_in a) f.formula h.is_formula (forms_seen a b looks (arrays_in f.formula)) ∙ ap form h.equals)
  where
    by_value : (x : Result Made OpRefusal) → form x ≡ Ok (form_of (array_in a f.root)) → IsFormed a b f x
    by_value (Ok m) is =
        let same : form_of m ≡ form_of (array_in a f.root) = ap (λ x. form_in x (form_of m)) is in
        record { made = m; is = refl; ty_is = ap (λ x. x.0) same; dims_are = ap (λ x. x.1) same }
    by_value (Err e) is = cc

-- ---- a formula's inputs

listed_more : (j k : ℕ) (ks : List ℕ) → is_listed ks k ≡ true → is_listed (j ∷ ks) k ≡ true
listed_more j k ks t = by_test (j == k) (λ same. rw same refl) (λ other. rw other t)

listed_first : (k : ℕ) (ks : List ℕ) → is_listed (k ∷ ks) k ≡ true
listed_first k ks = let self : (k == k) ≡ true = eq-eqb k k refl in rw self refl

all_listed : (P : ℕ → Type 0) (ks : List ℕ) → ((k : ℕ) → is_listed ks k ≡ true → P k) → All P ks
all_listed P [] each = All-nil P
all_listed P (k ∷ ks) each = All-cons P k ks (each k (listed_first k ks)) (all_listed P ks (λ j t. each j (listed_more k j ks t)))

live_listed : (w : World) (ks : List ℕ) (k : ℕ) → AreLive w ks → is_listed ks k ≡ true → IsLive w k
live_listed w [] k live t = cc
live_listed w (j ∷ ks) k live t = by_test (j == k)
    (λ same. subst (IsLive w) (eqb-true j k same) live.0)
    (λ other. let rest : is_listed ks k ≡ true = rw other at t in live_listed w ks k live.1 rest)

-- and so is each that is listed
pub listed_all : (P : ℕ → Type 0) (ks : List ℕ) → All P ks → (k : ℕ) → is_listed ks k ≡ true → P k
listed_all P [] all k t = cc
listed_all P (j ∷ ks) all k t = by_test (j == k)
    (λ same. subst P (eqb-true j k same) (All-head P j ks all))
    (λ other. let rest : is_listed ks k ≡ true = rw other at t in listed_all P ks (All-tail P j ks all) k rest)

-- these arrays have inputs, each of what its array shows
abbrev pub ShowAll : Arrays → List Given → List ℕ → Type 0
ShowAll b is ks = All (λ k. input_of is k ≡ Some (array_in b k)) ks

-- the same inputs are those of the same arrays
pub inputs_show : (b : Arrays) (is js : List Given) (ks qs : List ℕ) → js ≡ is → ks ≡ qs → ShowAll b is ks → ShowAll b js qs
inputs_show b is js ks qs same alike h =
    subst (λ (xs : List Given). ShowAll b xs qs) (sym same) (subst (ShowAll b is) alike h)

-- each array that the formula reads has an input, which is what it shows
pub are_inputs : ShownAreMade → (b : Arrays) (f : Flow) (inputs : List Given) → IsSound b.world → AreLive b.world (arrays_in f.formula) → ShowAll b inputs (arrays_in f.formula) → AreInputs inputs f.formula
are_inputs shown b f inputs sound live is =
    all_listed (λ k. IsSomeAnd (input_of inputs k) IsArray) (arrays_in f.formula)
    (λ k t. subst (λ (o : Option Made). IsSomeAnd o IsArray) (sym (listed_all (λ j. input_of inputs j ≡ Some (array_in b j)) (arrays_in f.formula) is k t))
    (shown b.world k sound (live_listed b.world (arrays_in f.formula) k live t)).1)

-- so the formula is of them what it is of the arrays
pub of_inputs : MeaningLaws → (b : Arrays) (f : Flow) (inputs : List Given) → ShowAll b inputs (arrays_in f.formula) → meaning (value_in inputs) f.formula ≡ meaning (array_in b) f.formula
of_inputs laws b f inputs is =
    laws.same (value_in inputs) (array_in b) f.formula
    (All-weaker (λ k. input_of inputs k ≡ Some (array_in b k)) (λ k. value_in inputs k ≡ array_in b k) (λ k same. ap made_or same) (arrays_in f.formula) is)

-- a flow follows by the elements of what its formula is
pub follows_by : (b : Arrays) (f : Flow) (m : Made) (es : List ℤ) → meaning (array_in b) f.formula ≡ Ok m → es ≡ m.elems → follow b f ≡ record b { world = assign b.world f.root es }
follows_by b f m es is same = ap (given b f.root) is ∙ ap (λ (xs : List ℤ). assigned_to xs) (sym same)
  where
    assigned_to : List ℤ → Arrays
    assigned_to xs = record b { world = assign b.world f.root xs }

-- the elements of what the formula is are those of a value that the root can have
pub made_at : (a b : Arrays) (f : Flow) (m : Made) (es : List ℤ) → IsFormed a b f (meaning (array_in b) f.formula) → meaning (array_in b) f.formula ≡ Ok m → IsArray m → es ≡ m.elems
    → IsMade (ty_in a.world f.root) (dims_in a.world f.root) es
made_at a b f m es h is array same = record {
  count = ap length same ∙ array.count ∙ ap size_of (ap (λ (n : Made). n.dims) one ∙ h.dims_are);
  in_range = subst (λ (xs : List ℤ). All (InRange (ty_in a.world f.root)) xs) (sym same) (subst (λ (ty : Ty). All (InRange ty) m.elems) (ap (λ (n : Made). n.ty) one ∙ h.ty_is) array.in_range);
}
  where
    one : m ≡ h.made
    one = ap (λ (x : Result Made OpRefusal). made_in x m) (sym is ∙ h.is)

-- where there is a value a fault names no refusal
pub unrefused : (x : Result Made OpRefusal) (m : Made) (named : Option OpRefusal) → x ≡ Ok m → IsRefused x named → named ≡ None
unrefused x m None is refused = refl
unrefused x m (Some refusal) is refused = cc
