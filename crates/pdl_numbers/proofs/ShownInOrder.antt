-- Windows whose elements are neighbours in the buffer, in order.
use Rattle.std.proofs.Common.{◌≡◌, ℕ, zero, suc, ◌+◌, ◌*◌, ◌<◌, ◌≤◌, ℤ, pos, ◌+ℤ◌, ◌*ℤ◌, List, [], ◌∷◌, length, drop, get_or, arith, ap, sym, ◌∙◌, subst, mul-zero}
use Rattle.std.proofs.lemmas.Int.{ints}
use Rattle.std.proofs.lemmas.List.{at_drop_more, drop_all}
use Rattle.std.proofs.Math.Nat.{mul-le-mul}
use Rattle.std.specs.Int.RustNames.{unsigned_abs}
use Rattle.pdl_lemmas.specs.Numbers.{product_within}
use Rattle.pdl_shape.specs.Shape.{extent, size_of, coordinates_of, position_of}
use Rattle.pdl_shape.specs.Triple.{Triple, moved}
use Rattle.pdl_shape.specs.Laws.{PositionLaws, SizeLaws}
use Rattle.pdl_numbers.specs.Shown.{IsInOrder, place_at}

pub in_order_at : PositionLaws → (t : Triple) (p : ℕ) → IsInOrder 1 t.incs t.dims → p < size_of t.dims → place_at t p ≡ t.offset + p
in_order_at laws t p o h =
    let e : moved t.incs (coordinates_of t.dims p) ≡ pos (1 * position_of t.dims (coordinates_of t.dims p)) = o (coordinates_of t.dims p) (laws.coordinates_within t.dims p h) in
    ap (λ m. unsigned_abs (pos t.offset +ℤ m)) e ∙ ap (λ k. t.offset + 1 * k) (laws.position_again t.dims p h) ∙ omega arith

-- a coordinate along a dimension where one step goes n elements far, before q rows of them
step_moved : (n d c q : ℕ) (z : ℤ) → c < d → (1 < d → z ≡ pos n) → (z *ℤ pos c) +ℤ pos (n * d * q) ≡ pos (n * (c + d * q))
step_moved n d zero q z h f = grind (arith, ints)
step_moved n d (suc c) q z h f =
    let e : z ≡ pos n = f (omega arith) in
    subst (λ (y : ℤ). (y *ℤ pos (suc c)) +ℤ pos (n * d * q) ≡ pos (n * (suc c + d * q))) (sym e) (grind (arith, ints))

-- the dimensions from one on lie in order where the rest does
ordered_cons : (n d : ℕ) (z : ℤ) (is : List ℤ) (ds : List ℕ) → (1 < d → z ≡ pos n) → IsInOrder (n * d) is ds → IsInOrder n (z ∷ is) (d ∷ ds)
ordered_cons n d z is ds f o [] w = absurd w
ordered_cons n d z is ds f o (c ∷ cs) w =
    ap (λ m. (z *ℤ pos c) +ℤ m) (o cs w.1) ∙ step_moved n d c (position_of ds cs) z w.0 f

-- the dimensions before k lie in order: n elements lie in them, and all lie in order where the rest does
pub record Ordering (is : List ℤ) (ds : List ℕ) (k n : ℕ) : Type 0 where
  pub small : n * extent (drop k ds) ≤ 1048576
  pub rest : IsInOrder n (drop k is) (drop k ds) → IsInOrder 1 is ds

pub ordering_start : (is : List ℤ) (ds : List ℕ) → extent ds ≤ 1048576 → Ordering is ds 0 1
ordering_start is ds h = record { small = omega (arith, h); rest = λ o. o }

-- one dimension more
pub ordering_next : (is : List ℤ) (ds : List ℕ) (k n : ℕ) → k < length is → k < length ds → (1 < get_or ds k 0 → get_or is k (pos 0) ≡ pos n)
    → Ordering is ds k n → Ordering is ds (k + 1) (n * get_or ds k 0)
ordering_next is ds k n hi hd f w =
    let d : ℕ = get_or ds k 0 in
    let z : ℤ = get_or is k (pos 0) in
    record {
      small = product_within n d (extent (drop (k + 1) ds)) 1048576 (subst (λ (e : ℕ). n * e ≤ 1048576) (at_drop_more extent ds k 0 hd) w.small);
      rest = λ o. w.rest
          (subst (λ (js : List ℤ). IsInOrder n js (drop k ds)) (sym (at_drop_more (λ xs. xs) is k (pos 0) hi))
          (subst (λ (es : List ℕ). IsInOrder n (z ∷ drop (k + 1) is) es) (sym (at_drop_more (λ xs. xs) ds k 0 hd))
          (ordered_cons n d z (drop (k + 1) is) (drop (k + 1) ds) f o)));
    }

pub step_small : SizeLaws → (is : List ℤ) (ds : List ℕ) (k n : ℕ) → Ordering is ds k n → n ≤ 1048576
step_small laws is ds k n w = omega (arith, w.small, mul-le-mul {n₁ = n} {m₁ = 1} {n₂ = n} {m₂ = extent (drop k ds)} (omega arith) (laws.extent_above (drop k ds)))

none_in_order : (n : ℕ) → IsInOrder n [] []
none_in_order n cs w = ap pos (sym (mul-zero n))

-- after all dimensions
pub ordering_end : (is : List ℤ) (ds : List ℕ) (k n : ℕ) → length is ≤ k → length ds ≤ k → Ordering is ds k n → IsInOrder 1 is ds
ordering_end is ds k n hi hd w =
    w.rest (subst (λ (js : List ℤ). IsInOrder n js (drop k ds)) (sym (drop_all k is hi))
    (subst (λ (es : List ℕ). IsInOrder n [] es) (sym (drop_all k ds hd)) (none_in_order n)))
