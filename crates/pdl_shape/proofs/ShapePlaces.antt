-- A child's places lie in its parent.
use Rattle.std.proofs.Common.{ℕ, ◌<◌, List, Option, Some, None, IfSome, option_map, sym, subst, arith}
use Rattle.std.proofs.lemmas.List.FromFn.{length-map-range_with_len, get_or-map-range_with_len}
use Rattle.pdl_shape.specs.Shape.{IsWithin, size_of, position_of, coordinates_of}
use Rattle.pdl_shape.specs.Places.{IsBelow, place_in}
use Rattle.pdl_shape.specs.Laws.{PlacesLieInParent}
use Rattle.pdl_shape.proofs.ShapePositions.{coordinates_within, position_below}

lies_below : (parent : List ℕ) (o : Option (List ℕ)) → IfSome o (IsWithin parent) → IsBelow (size_of parent) (option_map (position_of parent) o)
lies_below parent None h = tt
lies_below parent (Some cs) h = position_below parent cs h

pub places_lie_in_parent : PlacesLieInParent
places_lie_in_parent = λ child parent source inside k d h.
    let f : ℕ → Option ℕ = place_in child parent source in
    let low : k < size_of child = omega (arith, length-map-range_with_len f 0 (size_of child)) in
    let here : IsBelow (size_of parent) (f k) = lies_below parent (source (coordinates_of child k)) (inside (coordinates_of child k) (coordinates_within child k low)) in
    subst (IsBelow (size_of parent)) (sym (get_or-map-range_with_len f 0 (size_of child) k k d low (omega arith))) here
