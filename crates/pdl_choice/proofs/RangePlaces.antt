-- The place of a position of a window, and the positions of a window in order.
use Rattle.std.proofs.Common.{◌≡◌, ℕ, zero, suc, ◌+◌, ◌*◌, ◌/◌, ◌%◌, ◌<◌, ◌≤◌, max, min, List, [], ◌∷◌, ◌++◌, length, length-take, length-drop, length-append, take, drop, map, filter, refl, ap, sym, ◌∙◌, arith, Option, Some, None, ℤ, pos, ◌+ℤ◌}
use Rattle.std.specs.Option.{option_map}
use Rattle.std.proofs.Math.Nat.{mod-eq_of_lt, le-mul_of_pos_right}
use Rattle.std.proofs.lemmas.Int.{ints}
use Rattle.std.proofs.lemmas.List.{length-map}
use Rattle.std.proofs.lemmas.Nat.{div_below}
use Rattle.pdl_shape.specs.Laws.{PositionLaws, SizeLaws}
use Rattle.pdl_shape.specs.Shape.{extent, extent_limit, size_of, position_of, coordinates_of}
use Rattle.pdl_choice.specs.declared.edges.Edge.{Edge}
use Rattle.pdl_choice.specs.Edges.{edge_coordinate}
use Rattle.pdl_choice.specs.Range.{capped, inner_dims, is_positive, put_first, window_source}
use Rattle.pdl_choice.specs.Rounds.{place_first, placed}
use Rattle.pdl_choice.proofs.ChoiceLimits.{extent-append, other_factor}
use Rattle.pdl_choice.proofs.RoundsStrides.{placed-nil}

-- the place that a window's position has
abbrev pub window_position : Edge → List ℕ → List ℕ → List ℤ → ℕ → Option ℕ
window_position edge parent windows corner p =
    option_map (position_of parent) (window_source edge parent windows corner (coordinates_of (inner_dims parent windows) p))

-- the sizes that a window's positions go through: a size of 0 as 1, and what is left as one size
abbrev pub rounds : List ℕ → List ℕ → List ℕ
rounds parent windows = map (λ w. max w 1) windows ++ size_of (drop (length windows) parent) ∷ []

pub size_of-inner_dims-cons : (n : ℕ) (parent : List ℕ) (w : ℕ) (windows : List ℕ) → size_of (inner_dims (n ∷ parent) (w ∷ windows)) ≡ max w 1 * size_of (inner_dims parent windows)
size_of-inner_dims-cons n parent zero windows = omega arith
size_of-inner_dims-cons n parent (suc w) windows = rw (at_least w) refl
  where
    at_least : (w : ℕ) → max (suc w) 1 ≡ suc w
    at_least w = omega arith

-- there are as many of these as positions
pub size_of-rounds : (parent windows : List ℕ) → length windows ≤ length parent → size_of (rounds parent windows) ≡ size_of (inner_dims parent windows)
size_of-rounds parent [] fit = omega arith
size_of-rounds [] (w ∷ windows) fit = absurd (omega arith)
size_of-rounds (n ∷ parent) (w ∷ windows) fit =
    ap (λ s. max w 1 * s) (size_of-rounds parent windows (omega arith)) ∙ sym (size_of-inner_dims-cons n parent w windows)

pub length-rounds : (parent windows : List ℕ) → length (rounds parent windows) ≡ length windows + 1
length-rounds parent windows = length-append (map (λ w. max w 1) windows) (size_of (drop (length windows) parent) ∷ []) ∙ omega (arith, length-map windows (λ w. max w 1))

put-place : (n : ℕ) (parent : List ℕ) (c : Option ℕ) (rest : Option (List ℕ)) → option_map (position_of (n ∷ parent)) (put_first c rest) ≡ place_first n c (option_map (position_of parent) rest)
put-place n parent None rest = refl
put-place n parent (Some c) None = refl
put-place n parent (Some c) (Some cs) = refl

pub plus_none : (v : ℤ) (p : ℕ) → p ≡ 0 → v ≡ v +ℤ pos p
plus_none v p is = omega (arith, ints)

at_least_one : (w : ℕ) → max (suc w) 1 ≡ suc w
at_least_one w = omega arith

one_row : (p : ℕ) → p / 1 ≡ p
one_row p = omega arith

in_one : (p : ℕ) → p % 1 ≡ 0
in_one p = omega arith

some_below : (w s p : ℕ) → p < suc w * s → p / suc w < s
some_below w s p h = div_below p (suc w) s (omega arith) (omega arith)

-- the place of a position is that of the coordinates that lie so far past the corner
pub window_position-placed : PositionLaws → (edge : Edge) (parent windows : List ℕ) (corner : List ℤ) (p : ℕ) → length windows ≤ length parent → length corner ≡ length windows → p < size_of (inner_dims parent windows)
    → window_position edge parent windows corner p ≡ placed edge parent corner (coordinates_of (rounds parent windows) p)
window_position-placed positions edge parent [] [] p fit paired h =
    ap Some (positions.position_again parent p h ∙ sym (mod-eq_of_lt h)) ∙ sym (placed-nil edge parent (p % size_of parent) [])
window_position-placed positions edge parent [] (v ∷ corner) p fit paired h = absurd (omega arith)
window_position-placed positions edge parent (w ∷ windows) [] p fit paired h = absurd (omega arith)
window_position-placed positions edge [] (w ∷ windows) (v ∷ corner) p fit paired h = absurd (omega arith)
window_position-placed positions edge (n ∷ parent) (zero ∷ windows) (v ∷ corner) p fit paired h =
    put-place n parent (edge_coordinate edge n v) (window_source edge parent windows corner (coordinates_of (inner_dims parent windows) p))
    ∙ ap (place_first n (edge_coordinate edge n v)) (window_position-placed positions edge parent windows corner p (omega arith) (omega arith) h)
    ∙ ap (λ z. place_first n (edge_coordinate edge n z) (placed edge parent corner (coordinates_of (rounds parent windows) p))) (plus_none v (p % 1) (in_one p))
    ∙ ap (λ q. place_first n (edge_coordinate edge n (v +ℤ pos (p % 1))) (placed edge parent corner (coordinates_of (rounds parent windows) q))) (sym (one_row p))
window_position-placed positions edge (n ∷ parent) (suc w ∷ windows) (v ∷ corner) p fit paired h =
    put-place n parent (edge_coordinate edge n (v +ℤ pos (p % suc w))) (window_source edge parent windows corner (coordinates_of (inner_dims parent windows) (p / suc w)))
    ∙ ap (place_first n (edge_coordinate edge n (v +ℤ pos (p % suc w)))) (window_position-placed positions edge parent windows corner (p / suc w) (omega arith) (omega arith) (some_below w (size_of (inner_dims parent windows)) p h))
    ∙ ap (λ m. place_first n (edge_coordinate edge n (v +ℤ pos (p % m))) (placed edge parent corner (coordinates_of (rounds parent windows) (p / m)))) (sym (at_least_one w))

-- sizes within the limits are no larger where they stand at the largest number
pub rounds-capped : SizeLaws → (windows : List ℕ) → extent (filter is_positive windows) ≤ extent_limit → map (λ w. max (capped w) 1) windows ≡ map (λ w. max w 1) windows
rounds-capped extents [] h = refl
rounds-capped extents (zero ∷ windows) h = ap (λ ws. 1 ∷ ws) (rounds-capped extents windows h)
rounds-capped extents (suc w ∷ windows) h =
    let first : max (suc w) 1 ≤ extent_limit = omega (arith, le-mul_of_pos_right (max (suc w) 1) (extents.extent_above (filter is_positive windows))) in
    let rest : extent (filter is_positive windows) ≤ extent_limit = omega (arith, other_factor (max (suc w) 1) (extent (filter is_positive windows)) (omega arith)) in
    ap (λ n. n ∷ map (λ w. max (capped w) 1) windows) (stays (suc w) first) ∙ ap (λ ws. max (suc w) 1 ∷ ws) (rounds-capped extents windows rest)
  where
    stays : (w : ℕ) → max w 1 ≤ extent_limit → max (min w 4294967295) 1 ≡ max w 1
    stays w h = omega arith

pub inner_front : SizeLaws → (parent windows : List ℕ) → extent (inner_dims parent windows) ≤ extent_limit → extent (filter is_positive windows) ≤ extent_limit
inner_front extents parent windows h =
    omega (arith, extent-append (filter is_positive windows) (drop (length windows) parent), le-mul_of_pos_right (extent (filter is_positive windows)) (extents.extent_above (drop (length windows) parent)))

-- a corner that stands whole in the list has as many numbers as the window
pub length-corner : (ind : List ℤ) (len at : ℕ) → len * at + len ≤ length ind → length (take len (drop (len * at) ind)) ≡ len
length-corner ind len at fits = omega (arith, length-take {A = ℤ}, length-drop {A = ℤ})
