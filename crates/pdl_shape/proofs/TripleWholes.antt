-- The triple of an array whose elements lie in order.
use Rattle.std.proofs.Common.{◌≡◌, ℕ, suc, ◌+◌, ◌-◌, ◌*◌, ◌<◌, ◌≤◌, nat_le, ℤ, pos, ◌+ℤ◌, ◌*ℤ◌, List, [], ◌∷◌, ◌++◌, length, drop, max, refl, ap, sym, ◌∙◌, arith, unsigned_abs, if◌then◌else◌, append_assoc, append-nil, mul-zero}
use Rattle.std.proofs.Math.Nat.{mul-le-mul, mul-le-mul_left}
use Rattle.std.proofs.lemmas.Bool.Decides.{nat_tests}
use Rattle.std.proofs.lemmas.Int.{ints}
use Rattle.std.proofs.lemmas.List.{at_drop_all, length_push}
use Rattle.pdl_lemmas.specs.Numbers.{product_within, pos-lt}
use Rattle.pdl_shape.specs.Shape.{extent, size_of, IsWithin, position_of}
use Rattle.pdl_shape.specs.Triple.{moved, place_of, IsPlace, spread, IsTriple, whole_incs, whole_triple, Reaches}
use Rattle.pdl_shape.proofs.ShapeExtents.{extent_positive, size_le-extent}
use Rattle.pdl_shape.proofs.ShapePositions.{position_below}

-- the increments of an array in order, times coordinates, are the position
step_moved : (n d c q : ℕ) → c < d → ((if nat_le d 1 then pos 0 else pos n) *ℤ pos c) +ℤ pos (n * d * q) ≡ pos (n * (c + d * q))
step_moved n d c q h = grind (arith, nat_tests, ints)

pub moved-whole : (n : ℕ) (ds cs : List ℕ) → IsWithin ds cs → moved (whole_incs n ds) cs ≡ pos (n * position_of ds cs)
moved-whole n [] [] w = ap pos (sym (mul-zero n))
moved-whole n [] (c ∷ cs) w = absurd w
moved-whole n (d ∷ ds) [] w = absurd w
moved-whole n (d ∷ ds) (c ∷ cs) w = rw (moved-whole (n * d) ds cs w.1) (step_moved n d c (position_of ds cs) w.0)

-- they spread less far than the extent
step_spread : (n d e s : ℕ) → 0 < e → s + n * d ≤ n * d * e → unsigned_abs (if nat_le d 1 then pos 0 else pos n) * (d - 1) + s + n ≤ n * (max d 1 * e)
step_spread n d e s h k = grind (arith, nat_tests, mul-le-mul_left)

pub spread-whole : (n : ℕ) (ds : List ℕ) → spread (whole_incs n ds) ds + n ≤ n * extent ds
spread-whole n [] = omega arith
spread-whole n (d ∷ ds) = step_spread n d (extent ds) (spread (whole_incs (n * d) ds) ds) (extent_positive ds) (spread-whole (n * d) ds)

pub length-whole : (n : ℕ) (ds : List ℕ) → length (whole_incs n ds) ≡ length ds
length-whole n [] = refl
length-whole n (d ∷ ds) = ap suc (length-whole (n * d) ds)

-- each place is a position
pub place-whole : (ds cs : List ℕ) → IsWithin ds cs → place_of (whole_triple ds) cs ≡ pos (position_of ds cs)
place-whole ds cs w = rw (moved-whole 1 ds cs w) (omega (arith, ints))

-- each is one of the elements
pub reaches-whole : (ds : List ℕ) → Reaches (whole_triple ds) (size_of ds)
reaches-whole ds = λ cs w. rw (place-whole ds cs w) (pos-lt (position_of ds cs) (size_of ds) (position_below ds cs w))

place_small : (p : ℕ) → p < 1048576 → IsPlace (pos p)
place_small p h = record { low = omega (arith, ints); high = omega (arith, ints) }

pub IsTriple-whole : (ds : List ℕ) → extent ds ≤ 1048576 → IsTriple (whole_triple ds)
IsTriple-whole ds small = record {
  paired = length-whole 1 ds;
  reachable = λ cs w. rw (place-whole ds cs w) (place_small (position_of ds cs) (omega (arith, position_below ds cs w, size_le-extent ds)));
  narrow = omega (arith, spread-whole 1 ds);
}

-- the increments listed so far, and those of the rest
pub record Walked (items : List ℤ) (room i n : ℕ) (rest ds : List ℕ) : Type 0 where
  pub room_is : room ≡ 16
  pub count : length items ≡ i
  pub same : items ++ whole_incs n rest ≡ whole_incs 1 ds
  pub small : n * extent rest ≤ extent ds

pub walked_more : (items : List ℤ) (room i n d : ℕ) (z : ℤ) (rest ds : List ℕ) → z ≡ (if nat_le d 1 then pos 0 else pos n) → Walked items room i n (d ∷ rest) ds → Walked (items ++ z ∷ []) room (i + 1) (n * d) rest ds
walked_more items room i n d z rest ds e w = record {
  room_is = w.room_is;
  count = length_push items z ∙ ap (λ k. k + 1) w.count;
  same = append_assoc items (z ∷ []) (whole_incs (n * d) rest) ∙ ap (λ i. items ++ i ∷ whole_incs (n * d) rest) e ∙ w.same;
  small = product_within n d (extent rest) (extent ds) w.small;
}

-- the step fits an array's
pub walked_step : (items : List ℤ) (room i n : ℕ) (rest sizes ds : List ℕ) → sizes ≡ ds → extent ds ≤ 1048576 → Walked items room i n rest sizes → n ≤ 1048576
walked_step items room i n rest sizes ds p small w =
    omega (arith, ap extent p, w.small, mul-le-mul {n₁ = n} {m₁ = 1} {n₂ = n} {m₂ = extent rest} (omega arith) (extent_positive rest))

-- all increments are listed
pub walked_all : (items : List ℤ) (room i n : ℕ) (sizes ds : List ℕ) → sizes ≡ ds → length sizes ≤ i → Walked items room i n (drop i sizes) sizes → items ≡ whole_incs 1 ds
walked_all items room i n sizes ds p end w =
    let none = at_drop_all (λ rest. items ++ whole_incs n rest) sizes i end in
    sym (append-nil items) ∙ sym none ∙ w.same ∙ ap (whole_incs 1) p
