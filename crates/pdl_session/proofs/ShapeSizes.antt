-- Sizes within the limit are small.
use Rattle.std.proofs.Common.{◌≡◌, ℕ, ℤ, pos, zero, suc, ◌*◌, ◌<◌, ◌≤◌, max, map, List, [], ◌∷◌, length, get_or, All, sym, subst, arith, rules}
use Rattle.std.proofs.Math.Nat.{mul-le-mul}
use Rattle.std.proofs.lemmas.List.{get_or-map, length-map}
use Rattle.pdl_buf.specs.Made.{IsMade}
use Rattle.pdl_elem.specs.Types.{InRange}
use Rattle.pdl_elem.specs.declared.Ty.TheVariants.{Long}
use Rattle.pdl_shape.specs.Shape.{extent}

abbrev pub ExtentsAbove : Type 0
ExtentsAbove = (ds : List ℕ) → 0 < extent ds

pub first_small : ExtentsAbove → (d : ℕ) (ds : List ℕ) → d ≤ extent (d ∷ ds)
first_small above d ds =
    let more : max d 1 * 1 ≤ max d 1 * extent ds = mul-le-mul {n₁ = max d 1} {m₁ = 1} {n₂ = max d 1} {m₂ = extent ds} (omega arith) (omega (arith, above ds)) in
    omega arith

pub rest_small : (d : ℕ) (ds : List ℕ) → extent ds ≤ extent (d ∷ ds)
rest_small d ds =
    let more : 1 * extent ds ≤ max d 1 * extent ds = mul-le-mul {n₁ = 1} {m₁ = extent ds} {n₂ = max d 1} {m₂ = extent ds} (omega arith) (omega arith) in
    omega arith

-- each size is at most the extent
pub sizes_small : ExtentsAbove → (ds : List ℕ) (m : ℕ) → extent ds ≤ m → All (λ n. n ≤ m) ds
sizes_small above [] m fits = λ k d l. absurd (omega arith)
sizes_small above (s ∷ ds) m fits =
    by_place (omega (arith, first_small above s ds)) (sizes_small above ds m (omega (arith, rest_small s ds)))
  where
    by_place : s ≤ m → All (λ n. n ≤ m) ds → (k d : ℕ) → k < length (s ∷ ds) → get_or (s ∷ ds) k d ≤ m
    by_place first rest zero d l = first
    by_place first rest (suc k) d l = rest k d (omega arith)

-- numbers below a small one are small
pub below_small : (ps : List ℕ) (n m : ℕ) → n ≤ m → All (λ p. p < n) ps → All (λ p. p ≤ m) ps
below_small ps n m fits below = λ k d l. omega (arith, below k d l)

small_long : (n : ℕ) → n ≤ 1048576 → InRange Long (pos n)
small_long n small = search (rules, arith)

-- small numbers are an array of type long
pub numbers_made : (ns : List ℕ) (ds : List ℕ) (es : List ℤ) → ds ≡ length ns ∷ [] → es ≡ map pos ns → All (λ n. n ≤ 1048576) ns → IsMade Long ds es
numbers_made ns ds es dims elems small =
    subst (λ (ds : List ℕ). IsMade Long ds es) (sym dims) (subst (λ (es : List ℤ). IsMade Long (length ns ∷ []) es) (sym elems) (record {
      count = omega (arith, length-map ns pos);
      in_range = λ k d l.
          (let low : k < length ns = omega (arith, length-map ns pos) in
          subst (λ (z : ℤ). InRange Long z) (sym (get_or-map pos ns k 0 d low)) (small_long (get_or ns k 0) (small k 0 low)));
    }))
