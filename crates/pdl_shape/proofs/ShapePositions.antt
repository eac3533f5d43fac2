-- Positions and coordinates are inverse to each other.
use Rattle.std.proofs.Common.{◌≡◌, ℕ, zero, suc, ◌+◌, ◌-◌, ◌*◌, ◌/◌, ◌%◌, ◌<◌, ◌≤◌, List, [], ◌∷◌, ◌++◌, length, get_or, drop, max, refl, ap, sym, ◌∙◌, arith, lit<, lit≤, div-lt_iff_lt-mul, mod-lt, append-nil}
use Rattle.std.proofs.lemmas.List.{at_drop_all, at_drop_more}
use Rattle.std.proofs.Math.Nat.{mul-le-mul, mul-le-mul_left, mul_comm, add-mul-div_left, add-mul-mod_self_left, div-eq_of_lt, mod-eq_of_lt}
use Rattle.pdl_shape.specs.Shape.{extent, size_of, IsWithin, position_of, coordinates_of}
use Rattle.pdl_shape.proofs.ShapeExtents.{size_le-extent}

-- a place is below the number of elements
pub position_below : (ds cs : List ℕ) → IsWithin ds cs → position_of ds cs < size_of ds
position_below [] [] w = lit< tt
position_below [] (c ∷ cs) w = absurd w
position_below (d ∷ ds) [] w = absurd w
position_below (d ∷ ds) (c ∷ cs) w =
    let more : d * suc (position_of ds cs) ≤ d * size_of ds = mul-le-mul_left d (position_below ds cs w.1) in
    omega (arith, w.0, more)

-- one row and a place in it
quotient : (c d q : ℕ) → c < d → (c + d * q) / d ≡ q
quotient c d q h = add-mul-div_left c q (omega arith) ∙ omega (arith, div-eq_of_lt h)

remainder : (c d q : ℕ) → c < d → (c + d * q) % d ≡ c
remainder c d q h = add-mul-mod_self_left c d q ∙ mod-eq_of_lt h

-- the coordinates at the place of coordinates are these
pub coordinates-position : (ds cs : List ℕ) → IsWithin ds cs → coordinates_of ds (position_of ds cs) ≡ cs
coordinates-position [] [] w = refl
coordinates-position [] (c ∷ cs) w = absurd w
coordinates-position (d ∷ ds) [] w = absurd w
coordinates-position (d ∷ ds) (c ∷ cs) w =
    rw (quotient c d (position_of ds cs) w.0, remainder c d (position_of ds cs) w.0) (ap (λ rest. c ∷ rest) (coordinates-position ds cs w.1))

-- a place below the number of elements leaves a quotient below that of the rest
pub quotient_below : (d : ℕ) (ds : List ℕ) (p : ℕ) → p < size_of (d ∷ ds) → (0 < d) × (p / d < size_of ds)
quotient_below zero ds p h = absurd (omega arith)
quotient_below (suc d) ds p h = (omega arith, (div-lt_iff_lt-mul {k = suc d} {x = p} {y = size_of ds} (omega arith)).1 (omega (arith, mul_comm (suc d) (size_of ds))))

-- the coordinates at a place lie within the sizes
pub coordinates_within : (ds : List ℕ) (p : ℕ) → p < size_of ds → IsWithin ds (coordinates_of ds p)
coordinates_within [] p h = tt
coordinates_within (d ∷ ds) p h = let q = quotient_below d ds p h in (mod-lt p q.0, coordinates_within ds (p / d) q.1)

-- the place of the coordinates at a place is it
pub position-coordinates : (ds : List ℕ) (p : ℕ) → p < size_of ds → position_of ds (coordinates_of ds p) ≡ p
position-coordinates [] p h = omega arith
position-coordinates (d ∷ ds) p h =
    let q = quotient_below d ds p h in
    rw (position-coordinates ds (p / d) q.1) (omega (arith, q.0))

-- the sizes from one on have at most the extent of all
pub extent-drop : (ds : List ℕ) (i : ℕ) → extent (drop i ds) ≤ extent ds
extent-drop [] zero = lit≤ tt
extent-drop [] (suc i) = lit≤ tt
extent-drop (d ∷ ds) zero = omega arith
extent-drop (d ∷ ds) (suc i) =
    let more : 1 * extent ds ≤ max d 1 * extent ds = mul-le-mul {n₁ = 1} {m₁ = extent ds} {n₂ = max d 1} {m₂ = extent ds} (omega arith) (omega arith) in
    omega (arith, extent-drop ds i)

-- what of coordinates lies from one on, within these sizes
pub within-drop : (ds cs : List ℕ) (i : ℕ) → IsWithin ds cs → IsWithin (drop i ds) (drop i cs)
within-drop [] [] zero w = tt
within-drop [] [] (suc i) w = tt
within-drop [] (c ∷ cs) i w = absurd w
within-drop (d ∷ ds) [] i w = absurd w
within-drop (d ∷ ds) (c ∷ cs) zero w = w
within-drop (d ∷ ds) (c ∷ cs) (suc i) w = within-drop ds cs i w.1

pub within-length : (ds cs : List ℕ) → IsWithin ds cs → length cs ≡ length ds
within-length [] [] w = refl
within-length [] (c ∷ cs) w = absurd w
within-length (d ∷ ds) [] w = absurd w
within-length (d ∷ ds) (c ∷ cs) w = ap suc (within-length ds cs w.1)

-- one more coordinate in front
pub position_more : (ds cs : List ℕ) (i : ℕ) → i < length ds → IsWithin ds cs → get_or cs i 0 + get_or ds i 0 * position_of (drop (i + 1) ds) (drop (i + 1) cs) ≡ position_of (drop i ds) (drop i cs)
position_more ds cs i h w =
    let d = at_drop_more (λ rest. position_of rest (drop i cs)) ds i 0 h in
    let short : i < length cs = omega (arith, within-length ds cs w) in
    let c = at_drop_more (λ rest. position_of (get_or ds i 0 ∷ drop (i + 1) ds) rest) cs i 0 short in
    sym (d ∙ c)

-- one step down through the coordinates: the place from i - 1 on, which is small
pub record Stepped (ds cs : List ℕ) (i p : ℕ) : Type 0 where
  pub inside : i - 1 < length cs
  pub next : get_or cs (i - 1) 0 + get_or ds (i - 1) 0 * p ≡ position_of (drop (i - 1) ds) (drop (i - 1) cs)
  pub small : get_or cs (i - 1) 0 + get_or ds (i - 1) 0 * p < 1048576

stepped_at : (ds cs : List ℕ) (i p : ℕ) → i < length ds → IsWithin ds cs → extent ds ≤ 1048576 → p ≡ position_of (drop (i + 1) ds) (drop (i + 1) cs) → get_or cs i 0 + get_or ds i 0 * p ≡ position_of (drop i ds) (drop i cs)
stepped_at ds cs i p h w small e = rw e (position_more ds cs i h w)

pub stepped : (sizes ds cs : List ℕ) (i p : ℕ) → sizes ≡ ds → 0 < i → i ≤ length sizes → IsWithin ds cs → extent ds ≤ 1048576 → p ≡ position_of (drop i sizes) (drop i cs) → Stepped sizes cs i p
stepped sizes ds cs i p same above inside w small e =
    let w' : IsWithin sizes cs = rw same w in
    let small' : extent sizes ≤ 1048576 = rw same small in
    let up : i - 1 + 1 ≡ i = omega arith in
    let e' : p ≡ position_of (drop (i - 1 + 1) sizes) (drop (i - 1 + 1) cs) = rw up e in
    let next = stepped_at sizes cs (i - 1) p (omega arith) w' small' e' in
    record {
      inside = omega (arith, within-length sizes cs w');
      next = next;
      small = omega (arith, next, position_below (drop (i - 1) sizes) (drop (i - 1) cs) (within-drop sizes cs (i - 1) w'), size_le-extent (drop (i - 1) sizes), extent-drop sizes (i - 1));
    }

-- so many first coordinates of a place are listed, and the rest of it gives those that lack
pub record Listed (items : List ℕ) (room i q : ℕ) (rest ds : List ℕ) (p : ℕ) : Type 0 where
  pub room_is : room ≡ 16
  pub count : length items ≡ i
  pub below : q < size_of rest
  pub same : items ++ coordinates_of rest q ≡ coordinates_of ds p

-- all coordinates are listed
pub listed_all : (items : List ℕ) (room i q : ℕ) (sizes ds : List ℕ) (p : ℕ) → Listed items room i q (drop i sizes) sizes p → sizes ≡ ds → length sizes ≤ i → items ≡ coordinates_of ds p
listed_all items room i q sizes ds p l same end =
    let none = at_drop_all (λ rest. items ++ coordinates_of rest q) sizes i end in
    sym (append-nil items) ∙ sym none ∙ l.same ∙ ap (λ s. coordinates_of s p) same

-- the place of all coordinates
pub placed_all : (sizes ds cs : List ℕ) (i p : ℕ) → sizes ≡ ds → i ≤ 0 → p ≡ position_of (drop i sizes) (drop i cs) → p ≡ position_of ds cs
placed_all sizes ds cs zero p same end e = e ∙ ap (λ s. position_of s cs) same
placed_all sizes ds cs (suc i) p same end e = absurd (omega arith)
