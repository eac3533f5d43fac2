-- How the places of a view are found one from another, without a division.
use Rattle.std.specs.Prelude.{◌≡◌, ◌⊎◌, ℕ, ◌+◌, ◌*◌, ◌/◌, ◌%◌, ◌<◌, ◌≤◌, IsTrue, List, [], ◌∷◌, All, length, map, replicate, take, drop, slice_index, slice_index_or, Option, Some, None, ℤ, pos, ◌+ℤ◌}
use Rattle.std.specs.List.{Any, range_with_len}
use Rattle.std.specs.Option.{option_map, unwrap_or}
use Rattle.pdl_choice.specs.declared.edges.Edge.{Edge}
use Rattle.pdl_choice.specs.declared.edges.Edge.TheVariants.{Zero}
use Rattle.pdl_choice.specs.declared.indices.Line.{Line}
use Rattle.pdl_choice.specs.Edges.{CanPlace, edge_coordinate, is_within, start_count}
use Rattle.pdl_shape.specs.Counting.{from_end}
use Rattle.pdl_shape.specs.Shape.{coordinates_of, extent_limit, position_of}
use Rattle.pdl_choice.specs.Range.{inner_dims, window_source}

-- the position at place c of a row
abbrev pub line_at : Line → ℕ → ℕ
line_at line c = line.from + line.step * c

-- the place so far past that of an index value's coordinate along a dimension of size n
abbrev pub counted_place : (size past : ℕ) → (value : ℤ) → ℕ
counted_place n past value = unwrap_or (from_end value n) 0 + past

-- the place at column c of a row of an index view: the index value's coordinate along the
-- first dimension, of size n
abbrev pub row_place : (size : ℕ) → (ind : List ℤ) → (ind_line rest_line : Line) → (column : ℕ) → ℕ
row_place n ind ind_line rest_line c =
    unwrap_or (from_end (slice_index_or ind (line_at ind_line c) (pos 0)) n) 0
    + n * line_at rest_line c

-- the numbers of a corner that has q corners before it
abbrev pub numbers_at : List ℤ → ℕ → ℕ → List ℤ
numbers_at ind len q = take len (drop (len * q) ind)

-- a coordinate before the place of the others, in a dimension of size n
abbrev pub place_first : ℕ → Option ℕ → Option ℕ → Option ℕ
place_first n None rest = None
place_first n (Some c) rest = option_map (λ p. c + n * p) rest

-- the place of the coordinates that lie so far past a corner; the last number is the place in the
-- dimensions past the corner's
abbrev pub placed : Edge → (parent : List ℕ) → (corner : List ℤ) → (at : List ℕ) → Option ℕ
placed edge parent corner [] = Some 0
placed edge parent [] (q ∷ at) = Some q
placed edge [] (v ∷ corner) (c ∷ at) = Some 0
placed edge (n ∷ parent) (v ∷ corner) (c ∷ at) =
    place_first n (edge_coordinate edge n (v +ℤ pos c)) (placed edge parent corner at)

-- the edges place the numbers that lie so far past a corner
abbrev pub CanPlaceEach : Edge → (parent : List ℕ) → (corner : List ℤ) → (at : List ℕ) → Type 0
CanPlaceEach edge parent corner at =
    (j : ℕ) → j < length corner
    → CanPlace edge (slice_index parent j) (slice_index_or corner j (pos 0)
    +ℤ pos (slice_index at j))

-- the edges place the numbers that lie so far past each corner of so many numbers
abbrev pub CanPlaceAll : Edge → (parent : List ℕ) → (ind : List ℤ) → (len : ℕ) → (at : List ℕ)
    → Type 0
CanPlaceAll edge parent ind len at =
    (q j : ℕ) → j < len → len * q + j < length ind
    → CanPlace edge (slice_index parent j) (slice_index_or ind (len * q + j) (pos 0)
    +ℤ pos (slice_index at j))

-- the place of the position p of windows at so many corners, where the corners are fastest
abbrev pub window_place : Edge → (parent windows : List ℕ) → (ind : List ℤ) → (corners position : ℕ)
    → Option ℕ
window_place edge parent windows ind corners p =
    let corner = numbers_at ind (length windows) (p % corners) in
    let at = coordinates_of (inner_dims parent windows) (p / corners) in
    option_map (position_of parent) (window_source edge parent windows corner at)

-- along each dimension of the windows, at how many coordinates one may begin and lie inside
abbrev pub window_starts : (parent windows : List ℕ) → List ℕ
window_starts parent windows =
    map (λ j. start_count (slice_index parent j) (slice_index windows j))
    (range_with_len 0 (length windows))

-- a corner whose numbers lie below these stands at this place of the parent
pub record StandsAt (parent starts : List ℕ) (corner : List ℤ) (place : ℕ) : Type 0 where
  pub inside : (j : ℕ) → j < length corner
      → IsTrue (is_within (slice_index starts j) (slice_index_or corner j (pos 0)))
  pub is : placed Zero parent corner (replicate (length corner + 1) 0) ≡ Some place

-- each corner is listed as one that reaches beyond, or stands at its base
pub record AreCorners (parent starts : List ℕ) (ind : List ℤ) (bases beyond : List ℕ) : Type 0 where
  pub small : All (λ base. base ≤ extent_limit) bases
  pub numbers : All (λ q. q < length bases) beyond
  pub each : (q : ℕ) → q < length bases → Any (λ b. b ≡ q) beyond
      ⊎ StandsAt parent starts (numbers_at ind (length starts) q) (slice_index bases q)
