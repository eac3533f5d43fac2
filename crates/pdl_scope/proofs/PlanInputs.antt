-- What arrays show after assignments, as inputs of formulas.
use Rattle.std.proofs.Common.{◌≡◌, ◌+◌, ◌<◌, ◌≤◌, ℕ, ℤ, All, List, [], ◌∷◌, ◌++◌, get_or, length, take, Option, Some, None, true, refl, sym, ap, subst, ◌∙◌, eqb-true, eq-eqb, true≢false}
use Rattle.std.specs.Prelude.{◌==◌, if◌then◌else◌, Bool, false, IfSome, is_some}
use Rattle.std.proofs.lemmas.List.{take_all, take_more}
use Rattle.std.proofs.lemmas.List.Elements.{All-append, All-cons, All-nil, All-weaker}
use Rattle.pdl_lemmas.specs.Tests.{by_test}
use Rattle.pdl_elem.specs.declared.Ty.{Ty}
use Rattle.pdl_buf.specs.Made.{IsMade}
use Rattle.pdl_buf.specs.declared.made.Made.{Made}
use Rattle.pdl_flow.specs.Inputs as inputs
use Rattle.pdl_flow.specs.Inputs.{Given}
use Rattle.pdl_world.specs.CutLaws.{CutsAreRoots, RootsAreUncut}
use Rattle.pdl_world.specs.Laws.{AssignsSoundly, LooksStay, ReadsBack}
use Rattle.pdl_world.specs.Paths.{root_of}
use Rattle.pdl_world.specs.Sound.{IsLive, IsSound}
use Rattle.pdl_world.specs.World.{World, Look, assign, dims_in, elements, ty_in}
use Rattle.pdl_engine.specs.State.{State as Engine}
use Rattle.pdl_machine.specs.Arrays.{Arrays, array_in}
use Rattle.pdl_machine.specs.DumpableLaws.{ShownAreMade}
use Rattle.pdl_scope.specs.Plans.{AreForetold, AreShown, AreSingle, IsChange, KeepInputs, all_assigned, change_to, input_at, listed, planned}
use Rattle.pdl_scope.specs.declared.following.Change.{Change}
use Rattle.pdl_scope.proofs.PlanLemmas.{dims_by, type_by}
use Rattle.pdl_scope.proofs.PlanAssignments.{Laws, live_stays, looks_after, root_assigned, shown_found, shown_kept}

abbrev pub input_of : ℕ → Ty → List ℕ → List ℤ → Given
input_of k ty ds es = record { array = k; value = record { ty = ty; dims = ds; elems = es } }

pub inputs_same : (k : ℕ) {t u : Ty} {ds bs : List ℕ} {es fs : List ℤ} → t ≡ u → ds ≡ bs → es ≡ fs → input_of k t ds es ≡ input_of k u bs fs
inputs_same k p q r = cc

-- an array's input is of what it shows after the assignments
pub input_shown : LooksStay → (a : Arrays) (cs : List Change) (u : ℕ) (es : List ℤ) → es ≡ elements (all_assigned a.world cs) u
    → input_of u (ty_in a.world u) (dims_in a.world u) es ≡ input_at (planned a cs) u
input_shown looks a cs u es shows =
    let seen = sym (looks_after looks a.world cs u) in
    inputs_same u (ap type_by seen) (ap dims_by seen) shows

-- the assignment to an array's root leaves of it what all leave
pub input_found : Laws → (a : Arrays) (cs : List Change) (u : ℕ) (c : Change) → AreForetold a.world cs → IsLive a.world u → change_to cs (root_of a.world u) ≡ Some c
    → input_at (planned a (c ∷ [])) u ≡ input_at (planned a cs) u
input_found laws a cs u c h live is =
    sym (input_shown laws.looks a (c ∷ []) u (elements (all_assigned a.world (c ∷ [])) u) refl)
    ∙ input_shown laws.looks a cs u (elements (all_assigned a.world (c ∷ [])) u) (sym (shown_found laws a.world cs u c h live is))

-- without one it shows what it did
pub input_kept : Laws → (a : Arrays) (cs : List Change) (u : ℕ) → AreForetold a.world cs → change_to cs (root_of a.world u) ≡ None → input_at a u ≡ input_at (planned a cs) u
input_kept laws a cs u h is = input_shown laws.looks a cs u (elements a.world u) (sym (shown_kept laws a.world cs u h is))

-- ---- inputs one after another

-- an input behind others is found where none of these is the array's
kept_behind : (is : List Given) (i : Given) (k : ℕ) → is_some (inputs.input_of is k) ≡ true → inputs.input_of (is ++ i ∷ []) k ≡ inputs.input_of is k
kept_behind [] i k t = cc
kept_behind (j ∷ is) i k t = by_test (j.array == k)
    (λ same. rw same refl)
    (λ other. let rest : is_some (inputs.input_of is k) ≡ true = rw other at t in rw other (kept_behind is i k rest))

found_behind : (is : List Given) (i : Given) (k : ℕ) → inputs.input_of is k ≡ None → inputs.input_of (is ++ i ∷ []) k ≡ inputs.input_of (i ∷ []) k
found_behind [] i k none = refl
found_behind (j ∷ is) i k none = by_test (j.array == k)
    (λ same. let some : Some j.value ≡ None = rw same at none in cc)
    (λ other. let rest : inputs.input_of is k ≡ None = rw other at none in rw other (found_behind is i k rest))

-- what had an input has it still, and so has the array of the new one
pub inputs_kept : (is : List Given) (i : Given) → KeepInputs is (is ++ i ∷ [])
inputs_kept is i k t = ap is_some (kept_behind is i k t) ∙ t

pub input_there : (is : List Given) (i : Given) → is_some (inputs.input_of (is ++ i ∷ []) i.array) ≡ true
input_there [] i = let self : (i.array == i.array) ≡ true = eq-eqb i.array i.array refl in rw self refl
input_there (j ∷ is) i = by_test (j.array == i.array) (λ same. rw same refl) (λ other. rw other (input_there is i))

-- an array that had none has just the new one
pub single_more : (is : List Given) (i : Given) → AreSingle is → is_some (inputs.input_of is i.array) ≡ false → AreSingle (is ++ i ∷ [])
single_more [] i single none = (refl, tt)
single_more (j ∷ is) i single none = by_test (j.array == i.array)
    (λ same. let there : true ≡ false = rw same at none in cc)
    (λ other. let rest : is_some (inputs.input_of is i.array) ≡ false = rw other at none in (found_behind is i j.array single.0 ∙ apart (i.array == j.array) refl other, single_more is i single.1 rest))
  where
    apart : (b : Bool) → (i.array == j.array) ≡ b → (j.array == i.array) ≡ false → inputs.input_of (i ∷ []) j.array ≡ None
    apart true same other = absurd (true≢false (sym (eq-eqb j.array i.array (sym (eqb-true i.array j.array same))) ∙ other))
    apart false same other = rw same refl

-- the new one is of what its array shows, as the others are
pub shown_more : (a : Arrays) (is : List Given) (i : Given) → AreShown a is → i ≡ input_at a i.array → AreShown a (is ++ i ∷ [])
shown_more a is i h own k = by_input (inputs.input_of is k) refl
  where
    shown : Option Made → Type 0
    shown o = IfSome o (λ m. m ≡ array_in a k)

    single : (b : Bool) → (b ≡ true → i.value ≡ array_in a k) → shown (if b then Some i.value else None)
    single true same = same refl
    single false same = tt

    by_input : (o : Option Made) → inputs.input_of is k ≡ o → shown (inputs.input_of (is ++ i ∷ []) k)
    by_input (Some m) e = subst shown (sym (kept_behind is i k (ap is_some e))) (h k)
    by_input None e = subst shown (sym (found_behind is i k e)) (single (i.array == k)
        (λ same. ap (λ (x : Given). x.value) own ∙ ap (array_in a) (eqb-true i.array k same)))

-- so each that has one has what its array shows
input_is : (a : Arrays) (is : List Given) (k : ℕ) → AreShown a is → is_some (inputs.input_of is k) ≡ true → inputs.input_of is k ≡ Some (array_in a k)
input_is a is k h there = by_input (inputs.input_of is k) there (h k)
  where
    by_input : (o : Option Made) → is_some o ≡ true → IfSome o (λ m. m ≡ array_in a k) → o ≡ Some (array_in a k)
    by_input (Some m) t same = ap (λ (n : Made). Some n) same
    by_input None t same = cc

-- one array more has an input
pub inputs_more : (is js : List Given) (ks : List ℕ) (i : ℕ) → i < length ks → KeepInputs is js → is_some (inputs.input_of js (get_or ks i 0)) ≡ true
    → All (λ k. is_some (inputs.input_of is k) ≡ true) (take i ks) → All (λ k. is_some (inputs.input_of js k) ≡ true) (take (i + 1) ks)
inputs_more is js ks i lt kept here found =
    let k : ℕ = get_or ks i 0 in
    subst (All has) (sym (take_more ks i 0 lt))
    (All-append has (take i ks) (k ∷ []) (All-weaker (λ j. is_some (inputs.input_of is j) ≡ true) has kept (take i ks) found) (All-cons has k [] here (All-nil has)))
  where
    has : ℕ → Type 0
    has j = is_some (inputs.input_of js j) ≡ true

-- and all have inputs of what they show
pub inputs_shown : (a : Arrays) (is : List Given) (ks : List ℕ) (i : ℕ) → length ks ≤ i → AreShown a is → All (λ k. is_some (inputs.input_of is k) ≡ true) (take i ks)
    → All (λ k. inputs.input_of is k ≡ Some (array_in a k)) ks
inputs_shown a is ks i past shown found =
    All-weaker has (λ k. inputs.input_of is k ≡ Some (array_in a k)) (λ k there. input_is a is k shown there) ks (subst (All has) (take_all i ks past) found)
  where
    has : ℕ → Type 0
    has k = is_some (inputs.input_of is k) ≡ true

-- ---- one assignment

-- a root that is assigned to shows the values
pub values_shown : CutsAreRoots → RootsAreUncut → ReadsBack → (e : Engine) (c : Change) (u : ℕ) → IsSound e.world → IsChange e c → u ≡ c.target → u ≡ c.root
    → listed c.values ≡ elements (all_assigned e.world (c ∷ [])) u
values_shown cuts uncut back e c u sound is at own =
    let v = c.target in
    let vs = listed c.values in
    let root : root_of e.world v ≡ v = sym is.root ∙ sym own ∙ at in
    sym (ap (elements (assign e.world v vs)) at ∙ root_assigned cuts uncut back e.world v vs sound is.can.live root is.can.count)

-- what any array shows afterwards is an array
pub after_made : ShownAreMade → AssignsSoundly → LooksStay → (e : Engine) (c : Change) (u : ℕ) (es : List ℤ) → IsSound e.world → IsChange e c → IsLive e.world u → es ≡ elements (all_assigned e.world (c ∷ [])) u
    → IsMade (ty_in e.world u) (dims_in e.world u) es
after_made shown assigns looks e c u es sound is live same =
    let vs = listed c.values in
    let x : World = assign e.world c.target vs in
    let there = shown x u (assigns e.world c.target vs sound is.can.in_range) (live_stays looks e.world c.target u vs live) in
    let seen = looks e.world c.target u vs in
    subst (λ (xs : List ℤ). IsMade (ty_in e.world u) (dims_in e.world u) xs) (sym same)
    (subst (λ (o : Option Look). IsMade (type_by o) (dims_by o) (elements x u)) seen there.1)
