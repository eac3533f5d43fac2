-- The flow of a root is found by halves, since roots rise.
use Rattle.std.proofs.Common.{◌≡◌, ℕ, zero, suc, ◌<◌, ◌≤◌, [], ◌∷◌, length, get_or, true, false, Option, Some, None, Result, Ok, Err, inl, inr, refl, sym, ap, subst, ◌∙◌, arith, eqb-true, eq-eqb}
use Rattle.std.specs.Prelude.{◌==◌, is_some, IfErr, IfNone, IfOk, IfSome}
use Rattle.std.specs.List.Sorted.{IsBinarySearchResult, IsNonDecreasingBy, IsSearchInRange}
use Rattle.std.specs.Ordering.{nat_cmp, ordering_index}
use Rattle.std.specs.Result.{result_ok}
use Rattle.std.proofs.lemmas.Bool.{cases_lt}
use Rattle.std.proofs.lemmas.Bool.Decides.{nat_tests}
use Rattle.std.proofs.lemmas.Cmp.{ranked}
use Rattle.std.proofs.lemmas.List.Sorted.{IsNonDecreasingBy-from_default}
use Rattle.std.proofs.lemmas.Option.{slice_get-get_or}
use Rattle.pdl_lemmas.specs.Tests.{by_test}
use Rattle.pdl_machine.specs.Flows.{Flow, Flows, is_flow}
use Rattle.pdl_machine.specs.Following.{RootsAbove}
use Rattle.pdl_scope.specs.Flowing.{HasRootAt, RootsRise}
use Rattle.pdl_scope.proofs.LetGoNeeds.{no_flow}

above_at : (n : ℕ) (flows : Flows) (j : ℕ) → RootsAbove n flows → j < length flows → n < (get_or flows j no_flow).root
above_at n [] j above lt = absurd (omega arith)
above_at n (f ∷ flows) zero above lt = above.0
above_at n (f ∷ flows) (suc j) above lt = above_at n flows j above.1 (omega arith)

rise_at : (flows : Flows) (i j : ℕ) → RootsRise flows → i ≤ j → j < length flows → (get_or flows i no_flow).root ≤ (get_or flows j no_flow).root
rise_at [] i j rise le lt = absurd (omega arith)
rise_at (f ∷ flows) zero zero rise le lt = omega arith
rise_at (f ∷ flows) zero (suc j) rise le lt = (let up = above_at f.root flows j rise.0 (omega arith) in omega (arith, up))
rise_at (f ∷ flows) (suc i) zero rise le lt = absurd (omega arith)
rise_at (f ∷ flows) (suc i) (suc j) rise le lt = rise_at flows i j rise.1 (omega arith) (omega arith)

-- the comparisons with a root rise along the flows
comparisons_rise : (flows : Flows) (r : ℕ) → RootsRise flows → IsNonDecreasingBy (λ (f : Flow). ordering_index (nat_cmp f.root r)) flows
comparisons_rise flows r rise = IsNonDecreasingBy-from_default (λ (f : Flow). ordering_index (nat_cmp f.root r)) flows no_flow (λ i j le lt.
    (let up = rise_at flows i j rise le lt in grind (arith, nat_tests)))

none_here : (flows : Flows) (r : ℕ) → ((j : ℕ) → j < length flows → (get_or flows j no_flow).root ≡ r → ⊥) → is_flow flows r ≡ false
none_here [] r other = refl
none_here (f ∷ flows) r other = by_test (f.root == r)
    (λ same. absurd (other 0 (omega arith) (eqb-true f.root r same)))
    (λ apart. rw apart (none_here flows r (λ j lt. other (suc j) (omega arith))))

-- the search ends at the root's flow, or there is none
pub search_ends : (flows : Flows) (r : ℕ) (found : Result ℕ ℕ) → RootsRise flows → IsSearchInRange found (length flows) → IsBinarySearchResult (λ (f : Flow). nat_cmp f.root r) flows found
    → IfOk found (HasRootAt flows r) × IfErr found (λ at. is_flow flows r ≡ false)
search_ends flows r (Ok at) rise within equal = (record { flow = get_or flows at no_flow; is = slice_get-get_or flows at no_flow within; root = ranked _ r _ (sym (equal no_flow)) }, tt)
search_ends flows r (Err at) rise within parted = (tt, none_here flows r other)
  where
    other : (j : ℕ) → j < length flows → (get_or flows j no_flow).root ≡ r → ⊥
    other j lt same = elim (cases_lt j at) [
      | inl before ↦ (let low : (get_or flows j no_flow).root < r = ranked _ r _ (sym ((parted (comparisons_rise flows r rise)).0 j no_flow (omega arith) before)) in omega (arith, low, same))
      | inr behind ↦ (let up : r < (get_or flows j no_flow).root = ranked _ r _ (sym ((parted (comparisons_rise flows r rise)).1 j no_flow behind lt)) in omega (arith, up, same))
    ]

-- a flow that stands at a place is one
flow_here : (flows : Flows) (r at : ℕ) → HasRootAt flows r at → is_flow flows r ≡ true
flow_here [] r at h = (let is = h.is in cc)
flow_here (x ∷ flows) r zero h =
    let is = h.is in
    let same : x ≡ h.flow = cc in
    let here : (x.root == r) ≡ true = eq-eqb x.root r (ap (λ (f : Flow). f.root) same ∙ h.root) in
    rw here refl
flow_here (x ∷ flows) r (suc at) h = by_test (x.root == r)
    (λ here. rw here refl)
    (λ other. rw other (flow_here flows r at (record { flow = h.flow; is = h.is; root = h.root })))

-- whether there is a place tells whether there is a flow
pub place_tells : (flows : Flows) (r : ℕ) (place : Option ℕ) → IfSome place (HasRootAt flows r) → IfNone place (is_flow flows r ≡ false) → is_some place ≡ is_flow flows r
place_tells flows r (Some at) here none = sym (flow_here flows r at here)
place_tells flows r None here none = sym none

-- what a search found, as a place or none
pub found_place : (P : ℕ → Type 0) (Q : Type 0) (found : Result ℕ ℕ) (place : Option ℕ) → place ≡ result_ok found → IfOk found P × IfErr found (λ at. Q) → IfSome place P × IfNone place Q
found_place P Q (Ok at) place is both = let S : Option ℕ → Type 0 = λ o. IfSome o P × IfNone o Q in subst S (sym is) (both.0, tt)
found_place P Q (Err at) place is both = let S : Option ℕ → Type 0 = λ o. IfSome o P × IfNone o Q in subst S (sym is) (tt, both.1)
