-- The places of a view of windows, corner by corner.
use Rattle.std.proofs.Common.{◌≡◌, ℕ, ◌+◌, ◌*◌, ◌/◌, ◌%◌, ◌<◌, ◌≤◌, List, [], ◌∷◌, ◌++◌, length, take, drop, get_or, map, refl, ap, sym, ◌∙◌, arith, None, ℤ, pos}
use Rattle.std.specs.Option.{option_map}
use Rattle.std.specs.List.{range_with_len}
use Rattle.std.proofs.Math.Seq.{take-append_seam, drop-append_seam}
use Rattle.std.proofs.lemmas.List.{get_or-take, get_or-drop}
use Rattle.std.proofs.lemmas.List.FromFn.{fill_by_all}
use Rattle.std.proofs.lemmas.Nat.{mod_below, div-add-mod'}
use Rattle.pdl_lemmas.specs.Lists.{map-range_same}
use Rattle.pdl_shape.specs.Laws.{PositionLaws}
use Rattle.pdl_shape.specs.Shape.{size_of, position_of, coordinates_of}
use Rattle.pdl_choice.specs.declared.edges.Edge.{Edge}
use Rattle.pdl_shape.specs.Places.{places_of}
use Rattle.pdl_choice.specs.Range.{corner_len, corner_at, inner_dims, windowed_dims, window_sizes, window_source, range_source}
use Rattle.pdl_choice.proofs.ShapeBounds.{corner_fits}
use Rattle.pdl_choice.proofs.ShapePositions.{coordinates_of-append, size_of-append, length-coordinates_of, positive_left}
use Rattle.pdl_choice.proofs.RangePlaces.{length-corner}

-- the numbers of a corner stand together in the index values
corner_at-list : PositionLaws → (ind_dims : List ℕ) (ind : List ℤ) (len q : ℕ) → len ≡ corner_len ind_dims → q < size_of (drop 1 ind_dims) → len * q + len ≤ length ind
    → corner_at ind_dims ind (coordinates_of (drop 1 ind_dims) q) ≡ take len (drop (len * q) ind)
corner_at-list positions ind_dims ind len q is below fits =
    let place : (j : ℕ) → j + corner_len ind_dims * position_of (drop 1 ind_dims) (coordinates_of (drop 1 ind_dims) q) ≡ len * q + j =
    λ (j : ℕ). ap (λ n. j + corner_len ind_dims * n) (positions.position_again (drop 1 ind_dims) q below) ∙ ap (λ n. j + n * q) (sym is) ∙ omega arith in
    sym (ap (λ n. take n (drop (len * q) ind)) is
    ∙ fill_by_all (λ j. get_or ind (j + corner_len ind_dims * position_of (drop 1 ind_dims) (coordinates_of (drop 1 ind_dims) q)) (pos 0))
    (take (corner_len ind_dims) (drop (len * q) ind)) (corner_len ind_dims) (pos 0)
    (ap (λ n. length (take n (drop (len * q) ind))) (sym is) ∙ length-corner ind len q fits ∙ is)
    (λ j h. get_or-take (corner_len ind_dims) (drop (len * q) ind) j (pos 0) h ∙ get_or-drop (len * q) ind j (pos 0) ∙ ap (λ n. get_or ind n (pos 0)) (sym (place j))))

-- the source of the coordinates of one position
source_at : PositionLaws → (edge : Edge) (parent ind_dims : List ℕ) (ind sizes : List ℤ) (windows : List ℕ) (q r : ℕ)
    → windows ≡ window_sizes (corner_len ind_dims) sizes → length windows ≡ corner_len ind_dims → q < size_of (drop 1 ind_dims) → length windows * q + length windows ≤ length ind
    → range_source parent ind_dims ind sizes edge (coordinates_of (drop 1 ind_dims) q ++ coordinates_of (inner_dims parent windows) r)
    ≡ window_source edge parent windows (take (length windows) (drop (length windows * q) ind)) (coordinates_of (inner_dims parent windows) r)
source_at positions edge parent ind_dims ind sizes windows q r is len below fits =
    let outer : List ℕ = coordinates_of (drop 1 ind_dims) q in
    let inner : List ℕ = coordinates_of (inner_dims parent windows) r in
    let front : take (length (drop 1 ind_dims)) (outer ++ inner) ≡ outer =
    ap (λ n. take n (outer ++ inner)) (sym (length-coordinates_of (drop 1 ind_dims) q)) ∙ take-append_seam outer inner in
    let back : drop (length (drop 1 ind_dims)) (outer ++ inner) ≡ inner =
    ap (λ n. drop n (outer ++ inner)) (sym (length-coordinates_of (drop 1 ind_dims) q)) ∙ drop-append_seam outer inner in
    ap (λ (us : List ℕ). window_source edge parent us (corner_at ind_dims ind (take (length (drop 1 ind_dims)) (outer ++ inner))) (drop (length (drop 1 ind_dims)) (outer ++ inner))) (sym is)
    ∙ ap (λ (cs : List ℕ). window_source edge parent windows (corner_at ind_dims ind cs) (drop (length (drop 1 ind_dims)) (outer ++ inner))) front
    ∙ ap (λ (cs : List ℕ). window_source edge parent windows (corner_at ind_dims ind outer) cs) back
    ∙ ap (λ (vs : List ℤ). window_source edge parent windows vs inner) (corner_at-list positions ind_dims ind (length windows) q len below fits)

-- a position is one of a corner and one in its window
position_at : PositionLaws → (edge : Edge) (parent ind_dims : List ℕ) (ind sizes : List ℤ) (windows : List ℕ) (corners p : ℕ)
    → windows ≡ window_sizes (corner_len ind_dims) sizes → length windows ≡ corner_len ind_dims → corners ≡ size_of (drop 1 ind_dims)
    → length ind ≡ length windows * corners → p < corners * size_of (inner_dims parent windows)
    → window_source edge parent windows (take (length windows) (drop (length windows * (p % corners)) ind)) (coordinates_of (inner_dims parent windows) (p / corners))
    ≡ range_source parent ind_dims ind sizes edge (coordinates_of (windowed_dims parent ind_dims windows) p)
position_at positions edge parent ind_dims ind sizes windows corners p is len outer cornered within =
    let some : 0 < corners = positive_left corners (size_of (inner_dims parent windows)) p within in
    let below : p % corners < corners = mod_below p corners some in
    let below_outer : p % corners < size_of (drop 1 ind_dims) = omega (arith, outer) in
    let same : p % corners + size_of (drop 1 ind_dims) * (p / corners) ≡ p =
    ap (λ n. p % corners + n * (p / corners)) (sym outer) ∙ omega (arith, div-add-mod' p corners) in
    let split : coordinates_of (windowed_dims parent ind_dims windows) p ≡ coordinates_of (drop 1 ind_dims) (p % corners) ++ coordinates_of (inner_dims parent windows) (p / corners) =
    ap (coordinates_of (windowed_dims parent ind_dims windows)) (sym same) ∙ coordinates_of-append positions (drop 1 ind_dims) (inner_dims parent windows) (p % corners) (p / corners) below_outer in
    sym (ap (range_source parent ind_dims ind sizes edge) split
    ∙ source_at positions edge parent ind_dims ind sizes windows (p % corners) (p / corners) is len below_outer (corner_fits (length windows) (p % corners) corners (length ind) below cornered))

-- the places of all windows are those of the sources of their coordinates
pub window_places_are : PositionLaws → (edge : Edge) (parent ind_dims : List ℕ) (ind sizes : List ℤ) (windows : List ℕ) (corners count : ℕ)
    → windows ≡ window_sizes (corner_len ind_dims) sizes → length windows ≡ corner_len ind_dims → corners ≡ size_of (drop 1 ind_dims)
    → count ≡ size_of (windowed_dims parent ind_dims windows) → length ind ≡ length windows * corners
    → map (λ p. option_map (position_of parent) (window_source edge parent windows (take (length windows) (drop (length windows * (p % corners)) ind)) (coordinates_of (inner_dims parent windows) (p / corners)))) (range_with_len 0 count)
    ≡ places_of (windowed_dims parent ind_dims windows) parent (range_source parent ind_dims ind sizes edge)
window_places_are positions edge parent ind_dims ind sizes windows corners count is len outer whole cornered =
    let all : size_of (windowed_dims parent ind_dims windows) ≡ size_of (drop 1 ind_dims) * size_of (inner_dims parent windows) = size_of-append (drop 1 ind_dims) (inner_dims parent windows) in
    ap (λ n. map (λ p. option_map (position_of parent) (window_source edge parent windows (take (length windows) (drop (length windows * (p % corners)) ind)) (coordinates_of (inner_dims parent windows) (p / corners)))) (range_with_len 0 n)) whole
    ∙ map-range_same _ _ (size_of (windowed_dims parent ind_dims windows)) None
    (λ p h. ap (option_map (position_of parent)) (position_at positions edge parent ind_dims ind sizes windows corners p is len outer cornered (omega (arith, all, ap (λ n. n * size_of (inner_dims parent windows)) outer, h))))

-- an index has the numbers of a corner for each corner
pub corner_size : (ind_dims : List ℕ) → size_of ind_dims ≡ corner_len ind_dims * size_of (drop 1 ind_dims)
corner_size [] = omega arith
corner_size (n ∷ outer) = refl

-- how many that is, by the sizes
pub first_corner : (ind_dims : List ℕ) → corner_len ind_dims ≡ get_or ind_dims 0 1
first_corner [] = refl
first_corner (n ∷ outer) = refl
