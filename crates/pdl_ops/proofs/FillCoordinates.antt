-- The coordinates of one position after another along dimensions 0 and 1.
use Rattle.std.proofs.Common.{◌≡◌, ℕ, zero, suc, ◌+◌, ◌*◌, ◌/◌, ◌%◌, ◌<◌, ◌≤◌, ℤ, pos, List, [], ◌∷◌, length, map, get_or, All, arith, refl, ap, sym, subst, ◌∙◌}
use Rattle.std.proofs.Math.Nat.{add-div_right, add-mod_right, div-le_self, mod-le, mod-one, mul-mod_left, mul-zero}
use Rattle.std.proofs.lemmas.List.FromFn.{length-map-range_with_len, get_or-map-range_with_len}
use Rattle.std.proofs.lemmas.Nat.{div-add-mod', div-mul-add, mod-mul-add}
use Rattle.std.specs.List.{range_with_len}
use Rattle.pdl_elem.specs.Types.{InRange}
use Rattle.pdl_elem.specs.declared.Ty.TheVariants.{Long}
use Rattle.pdl_shape.specs.Shape.{coordinates_of, extent_limit, size_of}
use Rattle.pdl_ops.specs.Fills.{fill_element}
use Rattle.pdl_ops.specs.declared.fills.Fill.{Fill}
use Rattle.pdl_ops.specs.declared.fills.Fill.TheVariants.{Zeroes, Ones, Sequence, Xvals, Yvals}

-- one position more in the same row
next_split : (p w : ℕ) → p + 1 ≡ p / w * w + (p % w + 1)
next_split p w = omega (arith, div-add-mod' p w)

pub rest_more : (p w : ℕ) → p % w + 1 < w → (p + 1) % w ≡ p % w + 1
rest_more p w h = ap (λ (n : ℕ). n % w) (next_split p w) ∙ mod-mul-add (p / w) w (p % w + 1) h

pub rows_same : (p w : ℕ) → p % w + 1 < w → (p + 1) / w ≡ p / w
rows_same p w h = ap (λ (n : ℕ). n / w) (next_split p w) ∙ div-mul-add (p / w) w (p % w + 1) h

-- the first position of the next row
full_split : (p w : ℕ) → p % w + 1 ≡ w → p + 1 ≡ p / w * w + w
full_split p w e = omega (arith, div-add-mod' p w, e)

pub rest_none : (p w : ℕ) → p % w + 1 ≡ w → (p + 1) % w ≡ 0
rest_none p w e = ap (λ (n : ℕ). n % w) (full_split p w e) ∙ add-mod_right (p / w * w) w ∙ mul-mod_left (p / w) w

pub rows_more : (p w : ℕ) → 0 < w → p % w + 1 ≡ w → (p + 1) / w ≡ p / w + 1
rows_more p w some e =
    let exact : p / w * w / w ≡ p / w = ap (λ (n : ℕ). n / w) (omega arith) ∙ div-mul-add (p / w) w 0 some in
    ap (λ (n : ℕ). n / w) (full_split p w e) ∙ add-div_right (p / w * w) some ∙ ap (λ (n : ℕ). n + 1) exact

-- ---- the coordinates along dimensions 0 and 1

pub x_at : (ds : List ℕ) (p : ℕ) → get_or (coordinates_of ds p) 0 0 ≡ p % get_or ds 0 1
x_at [] p = sym (mod-one p)
x_at (d ∷ ds) p = refl

pub y_at : (ds : List ℕ) (p : ℕ) → get_or (coordinates_of ds p) 1 0 ≡ p / get_or ds 0 1 % get_or ds 1 1
y_at [] p = sym (mod-one (p / 1))
y_at (d ∷ []) p = sym (mod-one (p / d))
y_at (d ∷ e ∷ ds) p = refl

-- where there is a position, no size is 0
pub some_width : (ds : List ℕ) (p : ℕ) → p < size_of ds → 0 < get_or ds 0 1
some_width [] p h = omega arith
some_width (zero ∷ ds) p h = absurd (omega (arith, h))
some_width (suc d ∷ ds) p h = omega arith

pub some_height : (ds : List ℕ) (p : ℕ) → p < size_of ds → 0 < get_or ds 1 1
some_height [] p h = omega arith
some_height (d ∷ []) p h = omega arith
some_height (d ∷ zero ∷ ds) p h = absurd (omega (arith, h, mul-zero d))
some_height (d ∷ suc e ∷ ds) p h = omega arith

-- ---- a long holds each element

element_small : (kind : Fill) (ds : List ℕ) (p : ℕ) → fill_element kind ds p ≤ p + 1
element_small Zeroes ds p = omega arith
element_small Ones ds p = omega arith
element_small Sequence ds p = omega arith
element_small Xvals ds p = omega (arith, x_at ds p, mod-le p (get_or ds 0 1))
element_small Yvals ds p = omega (arith, y_at ds p, mod-le (p / get_or ds 0 1) (get_or ds 1 1), div-le_self p (get_or ds 0 1))

long_holds : (m : ℕ) → m ≤ 1048576 → InRange Long (pos m)
long_holds m h = grind (arith, h)

pub long_holds_block : (kind : Fill) (ds : List ℕ) (first n : ℕ) → first + n ≤ size_of ds → size_of ds ≤ extent_limit → All (InRange Long) (map (λ i. pos (fill_element kind ds (first + i))) (range_with_len 0 n))
long_holds_block kind ds first n inside h k d below =
    let f : ℕ → ℤ = λ i. pos (fill_element kind ds (first + i)) in
    let l : length (map f (range_with_len 0 n)) ≡ n = length-map-range_with_len f 0 n in
    let small : k < n = omega (arith, l, below) in
    subst (InRange Long) (sym (get_or-map-range_with_len f 0 n k k d small (omega arith))) (long_holds (fill_element kind ds (first + k)) (omega (arith, element_small kind ds (first + k), h, inside, small)))
