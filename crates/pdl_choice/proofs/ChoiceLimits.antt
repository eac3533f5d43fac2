-- Sizes that stand within the limits of an array.
use Rattle.std.proofs.Common.{subst, ◌≡◌, ◌⊎◌, inl, inr, ℕ, ◌*◌, ◌<◌, ◌≤◌, max, min, true, false, nat_lt, List, [], ◌∷◌, ◌++◌, length, length-append, length-drop, take, drop, map, refl, ap, sym, ◌∙◌, arith, Result, Ok, Err, IfOk, IfErr}
use Rattle.std.proofs.Math.Nat.{mul-le-mul, mul_assoc, le-mul_of_pos_right}
use Rattle.std.proofs.lemmas.Bool.{cases_lt}
use Rattle.std.proofs.lemmas.Bool.Decides.{nat_tests}
use Rattle.std.proofs.lemmas.List.{take-append-drop, length-map}
use Rattle.pdl_shape.specs.Laws.{SizeLaws}
use Rattle.pdl_shape.specs.Shape.{IsDims, dims_limit, extent, extent_limit, size_of}
use Rattle.pdl_shape.specs.Limits.{checked_dims}
use Rattle.pdl_shape.specs.Refusals.{Refusal, Refuses, too_large}
use Rattle.pdl_choice.specs.declared.answers.ChoiceFault.{ChoiceFault}
use Rattle.pdl_choice.specs.Choice.{Makes, refusal_of}
use Rattle.pdl_shape.specs.Limits.{checked_dims}
use Rattle.pdl_choice.specs.Range.{capped}

pub extent-append : (xs ys : List ℕ) → extent (xs ++ ys) ≡ extent xs * extent ys
extent-append [] ys = omega arith
extent-append (x ∷ xs) ys = ap (λ n. max x 1 * n) (extent-append xs ys) ∙ sym (mul_assoc (max x 1) (extent xs) (extent ys))

pub other_factor : (a b : ℕ) → 0 < a → b ≤ a * b
other_factor a b h = omega (arith, mul-le-mul {n₁ = 1} {m₁ = b} {n₂ = a} {m₂ = b} h (omega arith))

-- a front of the sizes has no larger extent
pub extent-take : SizeLaws → (n : ℕ) (ds : List ℕ) → extent (take n ds) ≤ extent ds
extent-take extents n ds =
    let split : extent (take n ds) * extent (drop n ds) ≡ extent ds = sym (extent-append (take n ds) (drop n ds)) ∙ ap extent (take-append-drop n ds) in
    omega (arith, le-mul_of_pos_right (extent (take n ds)) (extents.extent_above (drop n ds)))

positive_product : (n m : ℕ) → n ≤ m → 0 < m → max n 1 ≤ m
positive_product n m h p = omega arith

-- the sizes with the first of them as one stay within the limits
pub clumped_limits : SizeLaws → (ds : List ℕ) (n : ℕ) → IsDims ds → (0 < n) ⊎ (ds ≡ []) → n ≤ length ds → IsDims (size_of (take n ds) ∷ drop n ds)
clumped_limits extents ds n limits some enough = record {
  count = clumped_count ds n limits.count some enough;
  within =
      let split : extent (take n ds) * extent (drop n ds) ≡ extent ds = sym (extent-append (take n ds) (drop n ds)) ∙ ap extent (take-append-drop n ds) in
      let one : max (size_of (take n ds)) 1 ≤ extent (take n ds) = positive_product _ _ (extents.size_within (take n ds)) (extents.extent_above (take n ds)) in
      let times : max (size_of (take n ds)) 1 * extent (drop n ds) ≤ extent (take n ds) * extent (drop n ds) =
      mul-le-mul {n₁ = max (size_of (take n ds)) 1} {m₁ = extent (drop n ds)} {n₂ = extent (take n ds)} {m₂ = extent (drop n ds)} one (omega arith) in
      omega (arith, limits.within);
}
  where
    clumped_count : (ds : List ℕ) (n : ℕ) → length ds ≤ dims_limit → (0 < n) ⊎ (ds ≡ []) → n ≤ length ds → length (size_of (take n ds) ∷ drop n ds) ≤ dims_limit
    clumped_count ds n few (inl some) enough = omega (arith, length-drop n ds)
    clumped_count ds n few (inr none) enough = omega (arith, length-drop n ds, ap length none)

-- sizes within the limits are dimensions
pub checked_dims-fits : (ds : List ℕ) → IsDims ds → checked_dims ds ≡ Ok ds
checked_dims-fits ds limits =
    let few : nat_lt dims_limit (length ds) ≡ false = grind (arith, nat_tests, limits.count) in
    let small : nat_lt extent_limit (extent ds) ≡ false = grind (arith, nat_tests, limits.within) in
    rw few (rw small refl)

pub checked_dims-large : (ds : List ℕ) → length ds ≤ dims_limit → extent_limit < extent ds → checked_dims ds ≡ Err too_large
checked_dims-large ds count past =
    let few : nat_lt dims_limit (length ds) ≡ false = grind (arith, nat_tests) in
    let large : nat_lt extent_limit (extent ds) ≡ true = grind (arith, nat_tests) in
    rw few (rw large refl)

-- sizes that stand at the largest number are the same, or both lists are too large
abbrev CappedCases : List ℕ → Type 0
CappedCases ws = (map capped ws ≡ ws) ⊎ ((extent_limit < extent ws) × (extent_limit < extent (map capped ws)))

capped_first : SizeLaws → (w : ℕ) (ws : List ℕ) → 4294967295 < w → CappedCases (w ∷ ws)
capped_first extents w ws past = inr (
  omega (arith, le-mul_of_pos_right (max w 1) (extents.extent_above ws)),
  omega (arith, le-mul_of_pos_right (max (min w 4294967295) 1) (extents.extent_above (map capped ws))),
)

capped_more : (w : ℕ) (ws : List ℕ) → w ≤ 4294967295 → CappedCases ws → CappedCases (w ∷ ws)
capped_more w ws fits (inl same) =
    let stays : capped w ≡ w = omega arith in
    inl (ap (λ n. n ∷ map capped ws) stays ∙ ap (λ us. w ∷ us) same)
capped_more w ws fits (inr both) = inr (
  omega (arith, both.0, other_factor (max w 1) (extent ws) (at_least_one w)),
  omega (arith, both.1, other_factor (max (min w 4294967295) 1) (extent (map capped ws)) (at_least_one (min w 4294967295))),
)
  where
    at_least_one : (n : ℕ) → 0 < max n 1
    at_least_one n = omega arith

capped_cases : SizeLaws → (ws : List ℕ) → CappedCases ws
capped_cases extents [] = inl refl
capped_cases extents (w ∷ ws) =
    elim (cases_lt 4294967295 w) [
      | inl past ↦ capped_first extents w ws past
      | inr fits ↦ capped_more w ws fits (capped_cases extents ws)
    ]

same_refusal : (xs ys : List ℕ) → length xs ≡ length ys → extent_limit < extent xs → extent_limit < extent ys → checked_dims xs ≡ checked_dims ys
same_refusal xs ys same past_xs past_ys =
    let large_xs : nat_lt extent_limit (extent xs) ≡ true = grind (arith, nat_tests) in
    let large_ys : nat_lt extent_limit (extent ys) ≡ true = grind (arith, nat_tests) in
    rw same (rw large_xs (rw large_ys refl))

past_middle : SizeLaws → (xs ys zs : List ℕ) → extent_limit < extent ys → extent_limit < extent (xs ++ (ys ++ zs))
past_middle extents xs ys zs past =
    let whole : extent (xs ++ (ys ++ zs)) ≡ extent xs * (extent ys * extent zs) = extent-append xs (ys ++ zs) ∙ ap (λ n. extent xs * n) (extent-append ys zs) in
    omega (arith, whole, le-mul_of_pos_right (extent ys) (extents.extent_above zs), other_factor (extent xs) (extent ys * extent zs) (extents.extent_above xs))

-- the limits refuse sizes alike where some stand at the largest number
pub checked_dims-capped : SizeLaws → (xs ws zs : List ℕ) → checked_dims (xs ++ (map capped ws ++ zs)) ≡ checked_dims (xs ++ (ws ++ zs))
checked_dims-capped extents xs ws zs = elim (capped_cases extents ws) [
  | inl same ↦ ap (λ (us : List ℕ). checked_dims (xs ++ (us ++ zs))) same
  | inr both ↦ same_refusal (xs ++ (map capped ws ++ zs)) (xs ++ (ws ++ zs))
      (omega (arith, length-append xs (map capped ws ++ zs), length-append (map capped ws) zs, length-append xs (ws ++ zs), length-append ws zs, length-map ws capped))
      (past_middle extents xs (map capped ws) zs both.1) (past_middle extents xs ws zs both.0)
]

pub ok_of : (w v : Result (List ℕ) Refusal) (r : Result (List ℕ) ChoiceFault) → Makes w r → w ≡ v → IfOk r (λ ds. v ≡ Ok ds)
ok_of w v (Ok ds) is same = sym same ∙ is
ok_of w v (Err f) is same = tt

pub err_of : (w v : Result (List ℕ) Refusal) (r : Result (List ℕ) ChoiceFault) → Makes w r → w ≡ v → IfErr r (λ f. Refuses v (refusal_of f))
err_of w v (Ok ds) is same = tt
err_of w v (Err f) is same = subst (λ u. Refuses u (refusal_of f)) same is
