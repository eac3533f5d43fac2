-- How a view is shown over what its parent is shown over (PDL::API, affine transformations).
use Rattle.std.specs.Prelude.{◌≡◌, ℕ, Bool, true, not, ◌&&◌, ◌||◌, ◌==◌, nat_le, if◌then◌else◌, List, [], ◌∷◌, map, length, get_or, take, filter, replicate, set, ℤ, pos, nat_abs, ◌-ℤ◌, ◌*ℤ◌, Option, Some, None, Result, Ok, Err, zip}
use Rattle.std.specs.List.{list_any, range_with_len}
use Rattle.std.specs.Ordering.{int_eq}
use Rattle.pdl_shape.specs.Shape.{size_of, IsWithin}
use Rattle.pdl_shape.specs.Triple.{Triple, place_of}
use Rattle.pdl_affine.specs.declared.Affine.{Affine}
use Rattle.pdl_shape.specs.Refusals.{Refusal}
use Rattle.pdl_affine.specs.Views.{Form, sliced, exchanged, shifted, arranged, inserted, diagonal, squeezed, clumped, resolved, sizes, form_source, source}

-- each next increment is the one before times its size
abbrev pub is_chain : List (ℤ × ℕ) → Bool
is_chain [] = true
is_chain (p ∷ []) = true
is_chain (p ∷ q ∷ ps) = int_eq q.0 (p.0 *ℤ pos p.1) && is_chain (q ∷ ps)

-- dimensions can be joined to one: without those of size 1 their increments are a chain,
-- or there are no elements
abbrev pub do_join : List ℤ → List ℕ → Bool
do_join incs ds = list_any (λ d. d == 0) ds || is_chain (filter (λ p. not (p.1 == 1)) (zip incs ds))

-- a view can be shown over the same base, unless it is a clump of dimensions that don't join
abbrev pub is_window : Form → Triple → Bool
is_window (clumped n) over = do_join (take n over.incs) (take n over.dims)
is_window (sliced lines) over = true
is_window (exchanged a b) over = true
is_window (shifted a b) over = true
is_window (arranged order) over = true
is_window (inserted p m) over = true
is_window (diagonal is) over = true
is_window squeezed over = true

-- the first coordinates of a view of n dimensions
abbrev pub origin : ℕ → List ℕ
origin n = replicate n 0

-- the coordinates one step along dimension i from these
abbrev pub neighbour : ℕ → ℕ → List ℕ
neighbour n i = set (replicate n 0) i 1

-- how far the place moves with one step along dimension i; 0 along a size of 0 or 1
abbrev pub increment : (List ℕ → ℤ) → List ℕ → ℕ → ℤ
increment place ds i = if nat_le (get_or ds i 0) 1 then pos 0
    else place (neighbour (length ds) i) -ℤ place (origin (length ds))

-- the triple by which places are shown at coordinates: the place of the first element,
-- and how far one step goes
abbrev pub triple_showing : (List ℕ → ℤ) → List ℕ → Triple
triple_showing place ds = record {
  offset = if size_of ds == 0 then 0 else nat_abs (place (origin (length ds)));
  incs = map (increment place ds) (range_with_len 0 (length ds));
  dims = ds;
}

-- the places over the base of what coordinates of a view stand for
abbrev pub form_place : Form → Triple → List ℕ → ℤ
form_place form over cs = place_of over (form_source form over.dims cs)

-- the triple by which a view is shown over the base of its parent, if it can be
abbrev pub windowed : Form → Triple → Option Triple
windowed form over = if is_window form over
    then Some (triple_showing (form_place form over) (sizes form over.dims)) else None

abbrev pub composed : Affine → Triple → Option Triple
composed trans over = window (resolved trans over.dims) where
  window : Result Form Refusal → Option Triple
  window (Err refusal) = None
  window (Ok form) = windowed form over

-- the place over the base of the parent's coordinates that a view's coordinates stand for
abbrev pub base_place : Affine → Triple → List ℕ → ℤ
base_place trans over cs = place_of over (source trans over.dims cs)

-- a triple shows these places at all coordinates within it
abbrev pub Shows : Triple → (List ℕ → ℤ) → Type 0
Shows over place = (cs : List ℕ) → IsWithin over.dims cs → place_of over cs ≡ place cs

-- each place that a triple shows is one that another shows
abbrev pub LiesIn : Triple → Triple → Type 0
LiesIn t over = (cs : List ℕ) → IsWithin t.dims cs → (bs : List ℕ) × IsWithin over.dims bs ×
    (place_of t cs ≡ place_of over bs)
