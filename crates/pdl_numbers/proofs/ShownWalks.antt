-- The walk over sizes and increments that finds a window's place, one dimension at a time.
use Rattle.std.proofs.Common.{◌≡◌, ℕ, suc, ◌+◌, ◌*◌, ◌<◌, ◌≤◌, ◌%◌, ◌/◌, ℤ, pos, negsuc, ◌+ℤ◌, ◌*ℤ◌, ◌≤ℤ◌, ◌<ℤ◌, List, [], ◌∷◌, length, drop, get_or, arith, refl, ap, sym, ◌∙◌, subst, to_z, of_z}
use Rattle.std.proofs.lemmas.List.{at_drop_more, drop_all}
use Rattle.std.proofs.lemmas.List.FromFn.{get_or-map-range_with_len}
use Rattle.std.proofs.lemmas.Int.{ints, to_z-of_z}
use Rattle.std.proofs.Math.Path.{ap₂}
use Rattle.std.proofs.Math.Nat.{mul-le-mul, mod-le, div-le_self}
use Rattle.std.proofs.Math.IntN.{+ℤ_assoc}
use Rattle.std.specs.Int.{w32, w64}
use Rattle.std.specs.Int.RustNames.{FitsSigned, unsigned_abs}
use Rattle.pdl_shape.specs.Shape.{IsDims, IsWithin, size_of, coordinates_of}
use Rattle.pdl_shape.specs.Laws.{PositionLaws, SizeLaws}
use Rattle.pdl_shape.specs.Triple.{Triple, IsTriple, IsPlace, moved, place_of, Reaches}
use Rattle.pdl_numbers.specs.Shown.{place_at, shown_through}

-- the walk has gone over k dimensions: what is left of the position, and the place so far
pub record Walk (is : List ℤ) (ds : List ℕ) (k rest : ℕ) (place goal : ℤ) : Type 0 where
  pub small : rest < 1048576
  pub inside : rest < size_of (drop k ds)
  pub left : place +ℤ moved (drop k is) (coordinates_of (drop k ds) rest) ≡ goal
  pub high : place ≤ℤ pos (4294967296 + k * 2251799813685248)
  pub low : negsuc (k * 2251799813685248) ≤ℤ place

size_more : (ds : List ℕ) (k : ℕ) → k < length ds → size_of (drop k ds) ≡ get_or ds k 0 * size_of (drop (k + 1) ds)
size_more ds k h = at_drop_more size_of ds k 0 h

pub walk_size : PositionLaws → (ds : List ℕ) (k rest : ℕ) → k < length ds → rest < size_of (drop k ds) → 0 < get_or ds k 0
walk_size laws ds k rest h inside = (laws.quotient_below (get_or ds k 0) (drop (k + 1) ds) rest (subst (λ n. rest < n) (size_more ds k h) inside)).0

-- an increment times a coordinate stays far from the ends of a word
pub record IsStep (p : ℤ) : Type 0 where
  pub high : p ≤ℤ pos 2251799813685248
  pub low : negsuc 2251799813685247 ≤ℤ p

pub step_bound : (z : ℤ) (c : ℕ) → FitsSigned w32 z → c < 1048576 → IsStep (z *ℤ pos c)
step_bound (pos n) c f h =
    let b : n * c ≤ 2147483648 * 1048576 = mul-le-mul {n₁ = n} {m₁ = c} {n₂ = 2147483648} {m₂ = 1048576} (omega (arith, f.sfits)) (omega arith) in
    record { high = omega (arith, ints); low = omega (arith, ints) }
step_bound (negsuc n) c f h =
    let b : suc n * c ≤ 2147483648 * 1048576 = mul-le-mul {n₁ = suc n} {m₁ = c} {n₂ = 2147483648} {m₂ = 1048576} (omega (arith, f.sfits)) (omega arith) in
    record { high = omega (arith, ints); low = omega (arith, ints) }

pub walk_next : PositionLaws → (is : List ℤ) (ds : List ℕ) (k rest : ℕ) (place goal : ℤ) → k < length is → k < length ds → Walk is ds k rest place goal
    → FitsSigned w32 (get_or is k (pos 0)) → Walk is ds (k + 1) (rest / get_or ds k 0) (place +ℤ get_or is k (pos 0) *ℤ pos (rest % get_or ds k 0)) goal
walk_next laws is ds k rest place goal hi hd w f =
    let d : ℕ = get_or ds k 0 in
    let z : ℤ = get_or is k (pos 0) in
    let some : 0 < d = walk_size laws ds k rest hd w.inside in
    let part : rest % d ≤ rest = mod-le rest d in
    let step : IsStep (z *ℤ pos (rest % d)) = step_bound z (rest % d) f (omega (arith, w.small)) in
    let e1 : moved (drop k is) (coordinates_of (drop k ds) rest) ≡ moved (z ∷ drop (k + 1) is) (coordinates_of (drop k ds) rest) = at_drop_more (λ xs. moved xs (coordinates_of (drop k ds) rest)) is k (pos 0) hi in
    let e2 : moved (z ∷ drop (k + 1) is) (coordinates_of (drop k ds) rest) ≡ moved (z ∷ drop (k + 1) is) (coordinates_of (d ∷ drop (k + 1) ds) rest) = at_drop_more (λ xs. moved (z ∷ drop (k + 1) is) (coordinates_of xs rest)) ds k 0 hd in
    record {
      small = omega (arith, w.small, div-le_self rest d);
      inside = (laws.quotient_below (get_or ds k 0) (drop (k + 1) ds) rest (subst (λ n. rest < n) (size_more ds k hd) w.inside)).1;
      left = +ℤ_assoc place (z *ℤ pos (rest % d)) (moved (drop (k + 1) is) (coordinates_of (drop (k + 1) ds) (rest / d))) ∙ ap (λ m. place +ℤ m) (sym (e1 ∙ e2)) ∙ w.left;
      high = omega (arith, ints, w.high, step.high);
      low = omega (arith, ints, w.low, step.low);
    }

-- before any dimension
pub walk_start : SizeLaws → (is : List ℤ) (ds : List ℕ) (p n : ℕ) → IsDims ds → p < size_of ds → n < 4294967296
    → Walk is ds 0 p (pos n) (pos n +ℤ moved is (coordinates_of ds p))
walk_start laws is ds p n d h small = record {
  small = omega (arith, d.within, laws.size_within ds);
  inside = h;
  left = refl;
  high = omega (arith, ints);
  low = omega (arith, ints);
}

-- after all dimensions
pub walk_end : (is : List ℤ) (ds : List ℕ) (k rest : ℕ) (place goal : ℤ) → length is ≤ k → Walk is ds k rest place goal → place ≡ goal
walk_end is ds k rest place goal h w =
    let e : drop k is ≡ [] = drop_all k is h in
    let z : moved (drop k is) (coordinates_of (drop k ds) rest) ≡ pos 0 = ap (λ xs. moved xs (coordinates_of (drop k ds) rest)) e in
    omega (arith, ints, w.left, z)

-- ---- what the words hold

fits_between : (p : ℤ) → p ≤ℤ pos 4611686018427387904 → negsuc 4611686018427387904 ≤ℤ p → FitsSigned w64 p
fits_between (pos n) h k = record { sfits = omega (arith, ints) }
fits_between (negsuc n) h k = record { sfits = omega (arith, ints) }

-- the words of an increment and a coordinate have their product
pub product_is : (r s z : ℤ) (c : ℕ) → FitsSigned w64 r → FitsSigned w64 s → r ≡ z → s ≡ pos c → to_z w64 (of_z w64 r) *ℤ to_z w64 (of_z w64 s) ≡ z *ℤ pos c
product_is r s z c f g e h = ap₂ (λ x y. x *ℤ y) (to_z-of_z w64 r f ∙ e) (to_z-of_z w64 s g ∙ h)

pub step_fits : (p : ℤ) → IsStep p → FitsSigned w64 p
step_fits p b = fits_between p (omega (arith, ints, b.high)) (omega (arith, ints, b.low))

pub sum_fits : (k : ℕ) (p s : ℤ) → k < 16 → p ≤ℤ pos (4294967296 + k * 2251799813685248) → negsuc (k * 2251799813685248) ≤ℤ p → IsStep s → FitsSigned w64 (p +ℤ s)
sum_fits k p s h high low b = fits_between (p +ℤ s) (omega (arith, ints, b.high)) (omega (arith, ints, b.low))

-- ---- the place that a triple shows

-- a position's place is a natural number below n
pub record IsShown (t : Triple) (n p : ℕ) : Type 0 where
  pub is : place_of t (coordinates_of t.dims p) ≡ pos (place_at t p)
  pub below : place_at t p < n
  pub small : place_at t p < 1048576

natural : (z : ℤ) → pos 0 ≤ℤ z → z ≡ pos (unsigned_abs z)
natural (pos n) h = refl
natural (negsuc n) h = absurd h.le

abs_below : (z : ℤ) (n : ℕ) → pos 0 ≤ℤ z → z <ℤ pos n → unsigned_abs z < n
abs_below (pos m) n h k = omega (arith, ints)
abs_below (negsuc m) n h k = absurd h.le

-- a position's place is a natural number
pub record Shows (t : Triple) (p : ℕ) : Type 0 where
  pub is : place_of t (coordinates_of t.dims p) ≡ pos (place_at t p)
  pub small : place_at t p < 1048576

pub shows_at : PositionLaws → (t : Triple) (p : ℕ) → IsTriple t → p < size_of t.dims → Shows t p
shows_at laws t p ok h =
    let place : IsPlace (place_of t (coordinates_of t.dims p)) = ok.reachable (coordinates_of t.dims p) (laws.coordinates_within t.dims p h) in
    record { is = natural (place_of t (coordinates_of t.dims p)) place.low; small = abs_below (place_of t (coordinates_of t.dims p)) 1048576 place.low place.high }

pub shown_at : PositionLaws → (t : Triple) (n p : ℕ) → IsTriple t → Reaches t n → p < size_of t.dims → IsShown t n p
shown_at laws t n p ok reach h =
    let cs : List ℕ = coordinates_of t.dims p in
    let w : IsWithin t.dims cs = laws.coordinates_within t.dims p h in
    let place : IsPlace (place_of t cs) = ok.reachable cs w in
    record {
      is = natural (place_of t cs) place.low;
      below = abs_below (place_of t cs) n place.low (reach cs w);
      small = abs_below (place_of t cs) 1048576 place.low place.high;
    }

-- what is shown at a position is the number at its place
pub shown_element : (t : Triple) (es elems : List ℤ) (p : ℕ) → shown_through t es ≡ elems → p < size_of t.dims → get_or es (place_at t p) (pos 0) ≡ get_or elems p (pos 0)
shown_element t es elems p e h =
    sym (get_or-map-range_with_len (λ k. get_or es (place_at t k) (pos 0)) 0 (size_of t.dims) p p (pos 0) h (omega arith)) ∙ ap (λ (xs : List ℤ). get_or xs p (pos 0)) e
