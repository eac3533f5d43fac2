-- Places within the limits of an array.
use Rattle.std.proofs.Common.{◌≡◌, ℕ, ◌+◌, ◌*◌, ◌<◌, ◌≤◌, List, ◌∷◌, max, arith, subst}
use Rattle.std.proofs.Math.Nat.{mul-le-mul, mul-le-mul_left}
use Rattle.std.proofs.Math.Numerals.{add-one-le}
use Rattle.pdl_shape.specs.Laws.{SizeLaws}
use Rattle.pdl_shape.specs.Shape.{extent, extent_limit, size_of}

-- the dimensions past the first are within the limits too, and so are the elements
pub record Rest (n : ℕ) (rest : List ℕ) : Type 0 where
  pub extent_fits : extent rest ≤ extent_limit
  pub size_fits : size_of rest ≤ extent_limit
  pub all_fits : n * size_of rest ≤ extent_limit

pub rest_of : SizeLaws → (parent : List ℕ) (n : ℕ) (rest : List ℕ) → parent ≡ n ∷ rest → extent parent ≤ extent_limit → Rest n rest
rest_of extents parent n rest is fits =
    let whole : extent (n ∷ rest) ≤ extent_limit = subst (λ (ds : List ℕ). extent ds ≤ extent_limit) is fits in
    let one : 1 * extent rest ≤ max n 1 * extent rest = mul-le-mul {n₁ = 1} {m₁ = extent rest} {n₂ = max n 1} {m₂ = extent rest} (omega arith) (omega arith) in
    let times : n * size_of rest ≤ max n 1 * extent rest = mul-le-mul {n₁ = n} {m₁ = size_of rest} {n₂ = max n 1} {m₂ = extent rest} (omega arith) (extents.size_within rest) in
    record {
      extent_fits = omega arith;
      size_fits = omega (arith, extents.size_within rest);
      all_fits = omega arith;
    }

r≤s : (r s : ℕ) → r < s → r ≤ s
r≤s r s h = omega arith

pub times_below : (n s r : ℕ) → r < s → n * s ≤ extent_limit → n * r ≤ extent_limit
times_below n s r hr fits = omega (arith, mul-le-mul_left n (r≤s r s hr))

-- the numbers of each corner stand in the list of all
pub corner_fits : (len at corners n : ℕ) → at < corners → n ≡ len * corners → len * at + len ≤ n
corner_fits len at corners n below is =
    let whole : len * (at + 1) ≤ len * corners = mul-le-mul_left len (add-one-le below) in
    omega (arith, whole)
