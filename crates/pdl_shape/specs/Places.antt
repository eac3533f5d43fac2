-- Reading and writing a list of elements through a list of places, where a place is
-- a position or nothing.
use Rattle.std.specs.Prelude.{ℕ, ℤ, pos, ◌<◌, List, [], ◌∷◌, map, All, get_or, slice_set, Option, Some, None, option_map}
use Rattle.std.specs.List.{range_with_len}
use Rattle.pdl_shape.specs.Shape.{size_of, position_of, coordinates_of}

-- the element at a place, and 0 where there is none
abbrev pub element_at : List ℤ → Option ℕ → ℤ
element_at es None = pos 0
element_at es (Some i) = get_or es i (pos 0)

-- the elements at the places
abbrev pub read : List (Option ℕ) → List ℤ → List ℤ
read ps es = map (element_at es) ps

-- the elements after one value was put at its place; a value without a place is dropped
abbrev pub put : Option ℕ → ℤ → List ℤ → List ℤ
put None x es = es
put (Some i) x es = slice_set es i x

-- the elements after each value was put at its place, in order: the last value of
-- a repeated place stays
abbrev pub write : List (Option ℕ) → List ℤ → List ℤ → List ℤ
write [] vs es = es
write (p ∷ ps) [] es = es
write (p ∷ ps) (x ∷ vs) es = write ps vs (put p x es)

-- the place is nothing or a position below n
abbrev pub IsBelow : ℕ → Option ℕ → Type 0
IsBelow n None = Unit {0}
IsBelow n (Some i) = i < n

-- each of the places is nothing or a position below n
abbrev pub AllBelow : ℕ → List (Option ℕ) → Type 0
AllBelow n ps = All (IsBelow n) ps

-- the parent's position at a position of a child: that of the coordinates that its
-- own come from, or nothing
abbrev pub place_in : (child parent : List ℕ) → (List ℕ → Option (List ℕ)) → ℕ → Option ℕ
place_in child parent source p = option_map (position_of parent) (source (coordinates_of child p))

-- the parent's positions at the positions of a child, in order
abbrev pub places_of : (child parent : List ℕ) → (List ℕ → Option (List ℕ)) → List (Option ℕ)
places_of child parent source = map (place_in child parent source)
    (range_with_len 0 (size_of child))
