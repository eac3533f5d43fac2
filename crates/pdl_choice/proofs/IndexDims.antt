-- The dimensions of an index view.
use Rattle.std.proofs.Common.{◌≡◌, ℕ, ◌+◌, ◌-◌, ◌<◌, ◌≤◌, false, nat_lt, List, [], ◌∷◌, length, refl, ap, sym, ◌∙◌, arith, Option, Some, None, Result, Ok, Err, ℤ, subst}
use Rattle.std.proofs.Common.{inl, inr}
use Rattle.std.proofs.lemmas.Bool.{cases_lt}
use Rattle.std.proofs.lemmas.Bool.Decides.{nat_tests}
use Rattle.pdl_shape.specs.Broadcast.{join, join_cons, join_size}
use Rattle.pdl_shape.specs.Joined.{joined_dims, checked_join}
use Rattle.pdl_shape.specs.Shape.{IsDims, dims_limit, extent, extent_limit}
use Rattle.pdl_shape.specs.Refusals.{Refusal, Refuses, mismatch, too_large}
use Rattle.std.specs.Option.{option_map_or}
use Rattle.pdl_shape.specs.Limits.{checked_dims}
use Rattle.pdl_choice.specs.Choice.{refusal_past, unless_outside}
use Rattle.pdl_choice.specs.Index.{first_outside, index_dims}
use Rattle.pdl_choice.proofs.ChoiceLimits.{checked_dims-large}

cons_length : (o : Option ℕ) (r : Option (List ℕ)) (js : List ℕ) (m : ℕ) → join_cons o r ≡ Some js → ((ds : List ℕ) → r ≡ Some ds → length ds ≤ m) → length js ≤ m + 1
cons_length None r js m is rest = cc
cons_length (Some d) None js m is rest = cc
cons_length (Some d) (Some ds) js m is rest =
    let same : d ∷ ds ≡ js = cc in
    omega (arith, rest ds refl, ap length same)

-- joined dimensions are no more than those that join
pub join-length : (xs ys js : List ℕ) (m : ℕ) → join xs ys ≡ Some js → length xs ≤ m → length ys ≤ m → length js ≤ m
join-length [] ys js m is few_xs few_ys = let same : ys ≡ js = cc in omega (arith, ap length same)
join-length (x ∷ xs) [] js m is few_xs few_ys = let same : x ∷ xs ≡ js = cc in omega (arith, ap length same)
join-length (x ∷ xs) (y ∷ ys) js m is few_xs few_ys =
    omega (arith, cons_length (join_size x y) (join xs ys) js (m - 1) is (λ ds e. join-length xs ys ds (m - 1) e (omega arith) (omega arith)))

past_limit : (js : List ℕ) → Err too_large ≡ checked_join (Some js) → extent_limit < extent js
past_limit js is =
    elim (cases_lt extent_limit (extent js)) [
      | inl past ↦ past
      | inr fits ↦
          let small : nat_lt extent_limit (extent js) ≡ false = grind (arith, nat_tests) in
          let same : checked_join (Some js) ≡ Ok js = rw small refl in
          cc
    ]

large : (o : Option (List ℕ)) (w : Option ℕ) → ((js : List ℕ) → o ≡ Some js → length js ≤ dims_limit) → Err too_large ≡ checked_join o
    → option_map_or (λ met. unless_outside w (checked_dims met)) o (Err mismatch) ≡ Err (refusal_past w)
large None w few is = let same : too_large ≡ mismatch = cc in cc
large (Some js) (Some at) few is = refl
large (Some js) None few is = checked_dims-large js (few js refl) (past_limit js is)

-- dimensions that join to a too large extent are refused after the index values
pub index_dims-large : (parent : List ℕ) (n : ℕ) (rest ind_dims : List ℕ) (ind : List ℤ) → parent ≡ n ∷ rest → IsDims parent → IsDims ind_dims
    → Err too_large ≡ joined_dims ind_dims rest
    → index_dims parent ind_dims ind ≡ Err (refusal_past (first_outside n ind))
index_dims-large parent n rest ind_dims ind is limits index_limits refused =
    let few : length rest ≤ dims_limit = omega (arith, ap length is, limits.count) in
    ap (λ (ds : List ℕ). index_dims ds ind_dims ind) is
    ∙ large (join ind_dims rest) (first_outside n ind) (λ js e. join-length ind_dims rest js dims_limit e index_limits.count few) refused

-- what is refused by the refusal that a fault names
pub refused_so : (wanted : Result (List ℕ) Refusal) (named : Option Refusal) (refusal : Refusal) → named ≡ Some refusal → wanted ≡ Err refusal → Refuses wanted named
refused_so wanted named refusal e h = subst (Refuses wanted) (sym e) h
