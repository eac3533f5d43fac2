-- What a triple shows of a list of numbers (PDL::API, affine transformations).
use Rattle.std.specs.Prelude.{◌≡◌, ℕ, ◌*◌, ℤ, pos, unsigned_abs, List, map, get_or}
use Rattle.std.specs.List.{range_with_len}
use Rattle.pdl_shape.specs.Shape.{IsWithin, coordinates_of, position_of, size_of}
use Rattle.pdl_shape.specs.Triple.{Triple, moved, place_of}

-- by these increments the elements lie in order, n places apart
abbrev pub IsInOrder : ℕ → List ℤ → List ℕ → Type 0
IsInOrder n is ds = (cs : List ℕ) → IsWithin ds cs → moved is cs ≡ pos (n * position_of ds cs)

-- the place at a position
abbrev pub place_at : Triple → ℕ → ℕ
place_at t p = unsigned_abs (place_of t (coordinates_of t.dims p))

-- the numbers at the places of all positions, in order
abbrev pub shown_through : Triple → List ℤ → List ℤ
shown_through t es = map (λ p. get_or es (place_at t p) (pos 0)) (range_with_len 0 (size_of t.dims))
