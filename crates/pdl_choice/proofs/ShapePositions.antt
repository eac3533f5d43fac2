-- Positions and coordinates of dimensions that stand one after another.
use Rattle.std.proofs.Common.{◌≡◌, ℕ, zero, suc, ◌+◌, ◌*◌, ◌/◌, ◌%◌, ◌<◌, List, [], ◌∷◌, ◌++◌, length, refl, ap, sym, ◌∙◌, arith}
use Rattle.std.proofs.Math.Nat.{add-mul-div_left, add-mul-mod_self_left, mul_assoc}
use Rattle.pdl_shape.specs.Laws.{PositionLaws}
use Rattle.pdl_shape.specs.Shape.{size_of, position_of, coordinates_of}

-- there is a coordinate for each size
pub length-coordinates_of : (ds : List ℕ) (p : ℕ) → length (coordinates_of ds p) ≡ length ds
length-coordinates_of [] p = refl
length-coordinates_of (d ∷ ds) p = ap suc (length-coordinates_of ds (p / d))

pub size_of-append : (xs ys : List ℕ) → size_of (xs ++ ys) ≡ size_of xs * size_of ys
size_of-append [] ys = omega arith
size_of-append (x ∷ xs) ys = ap (λ n. x * n) (size_of-append xs ys) ∙ sym (mul_assoc x (size_of xs) (size_of ys))

pub position_of-append : (xs ys cs es : List ℕ) → length cs ≡ length xs → position_of (xs ++ ys) (cs ++ es) ≡ position_of xs cs + size_of xs * position_of ys es
position_of-append [] ys [] es h = omega arith
position_of-append [] ys (c ∷ cs) es h = absurd (omega arith)
position_of-append (x ∷ xs) ys [] es h = absurd (omega arith)
position_of-append (x ∷ xs) ys (c ∷ cs) es h =
    ap (λ n. c + x * n) (position_of-append xs ys cs es (omega arith))
    ∙ regroup c x (position_of xs cs) (size_of xs) (position_of ys es)
  where
    regroup : (c x p s q : ℕ) → c + x * (p + s * q) ≡ c + x * p + x * s * q
    regroup c x p s q = grind arith

-- a position in the first dimensions and one in the others
pub coordinates_of-append : PositionLaws → (xs ys : List ℕ) (q r : ℕ) → q < size_of xs → coordinates_of (xs ++ ys) (q + size_of xs * r) ≡ coordinates_of xs q ++ coordinates_of ys r
coordinates_of-append positions [] ys q r h = ap (coordinates_of ys) (omega arith)
coordinates_of-append positions (x ∷ xs) ys q r h =
    let here : (q + x * size_of xs * r) % x ≡ q % x =
    ap (λ n. (q + n) % x) (mul_assoc x (size_of xs) r) ∙ add-mul-mod_self_left q x (size_of xs * r) in
    let there : (q + x * size_of xs * r) / x ≡ q / x + size_of xs * r =
    ap (λ n. (q + n) / x) (mul_assoc x (size_of xs) r) ∙ add-mul-div_left q (size_of xs * r) {y = x} (positions.quotient_below x xs q h).0 in
    ap (λ n. n ∷ coordinates_of (xs ++ ys) ((q + x * size_of xs * r) / x)) here
    ∙ ap (λ n. q % x ∷ coordinates_of (xs ++ ys) n) there
    ∙ ap (λ cs. q % x ∷ cs) (coordinates_of-append positions xs ys (q / x) r (positions.quotient_below x xs q h).1)

-- what is below a product has a first factor
pub positive_left : (n m p : ℕ) → p < n * m → 0 < n
positive_left zero m p h = absurd (omega arith)
positive_left (suc n) m p h = omega arith
