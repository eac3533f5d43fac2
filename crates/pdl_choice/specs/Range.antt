-- range: a window of the parent at each corner that an index lists (PDL::Slices, range).
use Rattle.std.specs.Prelude.{◌≡◌, ◌<◌, ℕ, min, zero, suc, ◌%◌, nat_lt, ◌==◌, ◌||◌, Bool, true, false, if◌then◌else◌, List, [], ◌∷◌, ◌++◌, length, get_or, take, drop, map, filter, position, replicate, Option, Some, None, Result, Err, ℤ, pos, negsuc, ◌+ℤ◌}
use Rattle.std.specs.Option.{option_map, option_map_or}
use Rattle.std.specs.List.{range_with_len, list_any}
use Rattle.pdl_shape.specs.Shape.{position_of}
use Rattle.pdl_shape.specs.Limits.{checked_dims}
use Rattle.pdl_shape.specs.Refusals.{Refusal, bad_dimension, mismatch}
use Rattle.pdl_choice.specs.declared.edges.Edge.{Edge}
use Rattle.pdl_choice.specs.Choice.{unless_outside}
use Rattle.pdl_choice.specs.Edges.{from_zero, edge_coordinate, edge_refuses}

-- how many numbers a corner has: the index's first size, and 1 for an index without dimensions
abbrev pub corner_len : List ℕ → ℕ
corner_len [] = 1
corner_len (n ∷ outer) = n

-- whether a number is below 0
abbrev pub is_negative : ℤ → Bool
is_negative (pos n) = false
is_negative (negsuc n) = true

-- one size of a window for each number of a corner: a lone size counts for all
abbrev pub window_sizes : ℕ → List ℤ → List ℕ
window_sizes count sizes =
    (if length sizes == 1 then replicate count (from_zero (get_or sizes 0 (pos 0)))
    else map from_zero sizes)

-- the first index value at which the edge refuses its window
abbrev pub first_refused : Edge → (parent windows : List ℕ) → (ind : List ℤ) → Option ℕ
first_refused edge parent windows ind =
    position
    (λ p. edge_refuses edge (get_or parent (p % length windows) 0)
    (get_or windows (p % length windows) 0) (get_or ind p (pos 0)))
    (range_with_len 0 (length ind))

-- whether a size is above 0
abbrev pub is_positive : ℕ → Bool
is_positive zero = false
is_positive (suc n) = true

-- the windows' sizes that aren't 0, then the parent's dimensions past the windows
abbrev pub inner_dims : List ℕ → List ℕ → List ℕ
inner_dims parent windows = filter is_positive windows ++ drop (length windows) parent

-- the index's dimensions past its first, then those of a window
abbrev pub windowed_dims : List ℕ → List ℕ → List ℕ → List ℕ
windowed_dims parent ind_dims windows = drop 1 ind_dims ++ inner_dims parent windows

-- why sizes are no window's in so many dimensions at corners of so many numbers
abbrev pub window_refusal : ℕ → ℕ → List ℤ → Option Refusal
window_refusal dims count sizes =
    (if nat_lt dims count || list_any is_negative sizes then Some bad_dimension
    else (if length sizes == 1 || length sizes == count then None else Some mismatch))

-- the dimensions of a view of windows, or the first refusal
abbrev pub range_dims : (parent ind_dims : List ℕ) → (ind sizes : List ℤ) → Edge
    → Result (List ℕ) Refusal
range_dims parent ind_dims ind sizes edge =
    let windows = window_sizes (corner_len ind_dims) sizes in
    option_map_or (λ refusal. Err refusal)
    (window_refusal (length parent) (corner_len ind_dims) sizes)
    (unless_outside (first_refused edge parent windows ind)
    (checked_dims (windowed_dims parent ind_dims windows)))

-- the first index value that the edge refuses
abbrev pub range_outside : (parent ind_dims : List ℕ) → (ind sizes : List ℤ) → Edge → Option ℕ
range_outside parent ind_dims ind sizes edge =
    first_refused edge parent (window_sizes (corner_len ind_dims) sizes) ind

-- the index values at these coordinates past the index's first dimension
abbrev pub corner_at : List ℕ → List ℤ → List ℕ → List ℤ
corner_at ind_dims ind outer =
    map (λ j. get_or ind (position_of (corner_len ind_dims ∷ drop 1 ind_dims) (j ∷ outer)) (pos 0))
    (range_with_len 0 (corner_len ind_dims))

-- a coordinate before others, or nothing where either is
abbrev pub put_first : Option ℕ → Option (List ℕ) → Option (List ℕ)
put_first None rest = None
put_first (Some c) rest = option_map (λ cs. c ∷ cs) rest

-- each number of the corner plus the window's coordinate, which is 0 for a size of 0, by the edge;
-- then the coordinates that are left
abbrev pub window_source : Edge → (parent windows : List ℕ) → (corner : List ℤ) → (at : List ℕ)
    → Option (List ℕ)
window_source edge parent [] corner at = Some at
window_source edge [] (w ∷ windows) corner at = Some at
window_source edge (n ∷ parent) (w ∷ windows) [] at = Some at
window_source edge (n ∷ parent) (zero ∷ windows) (v ∷ corner) at =
    put_first (edge_coordinate edge n v) (window_source edge parent windows corner at)
window_source edge (n ∷ parent) (suc w ∷ windows) (v ∷ corner) [] = Some []
window_source edge (n ∷ parent) (suc w ∷ windows) (v ∷ corner) (c ∷ at) =
    put_first (edge_coordinate edge n (v +ℤ pos c)) (window_source edge parent windows corner at)

-- the parent's coordinates under a window, or nothing beyond an edge that reads 0
abbrev pub range_source : (parent ind_dims : List ℕ) → (ind sizes : List ℤ) → Edge → (at : List ℕ)
    → Option (List ℕ)
range_source parent ind_dims ind sizes edge at =
    let outer = length (drop 1 ind_dims) in
    window_source edge parent (window_sizes (corner_len ind_dims) sizes)
    (corner_at ind_dims ind (take outer at)) (drop outer at)

-- a size that a u32 has: the size, or the largest of these
abbrev pub capped : ℕ → ℕ
capped n = min n 4294967295

-- no edge refuses a window at any corner
abbrev pub AllAllowed : Edge → (parent windows : List ℕ) → (ind : List ℤ) → Type 0
AllAllowed edge parent windows ind =
    (k : ℕ) → k < length ind
    → edge_refuses edge (get_or parent (k % length windows) 0)
    (get_or windows (k % length windows) 0) (get_or ind k (pos 0)) ≡ false
