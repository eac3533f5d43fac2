-- What holds of all sizes, positions and places.
use Rattle.std.specs.Prelude.{◌≡◌, ◌⊎◌, ℕ, ℤ, pos, ◌/◌, ◌<◌, ◌≤◌, List, ◌∷◌, length, get_or, drop, All, Option, Some, None, IfSome}
use Rattle.std.specs.List.{Contains}
use Rattle.pdl_shape.specs.Broadcast.{BroadcastsTo, cut_to, join}
use Rattle.pdl_shape.specs.Shape.{IsDims, dims_limit, extent_limit, extent, size_of, IsWithin, position_of, coordinates_of}
use Rattle.pdl_shape.specs.Triple.{IsTriple, place_of, whole_triple}
use Rattle.pdl_shape.specs.Places.{AllBelow, places_of, write}

-- how many dimensions an array has at most, and how large its extent is
pub record LimitsAre : Type 0 where
  pub count : dims_limit ≡ 16
  pub largest : extent_limit ≡ 1048576

-- Coordinates and positions are inverse to each other, and both stay within the sizes.
-- What is left of a position past the first dimension is a position of the rest.
pub record PositionLaws : Type 0 where
  pub coordinates_within : (ds : List ℕ) (p : ℕ) → p < size_of ds →
      IsWithin ds (coordinates_of ds p)
  pub position_below : (ds cs : List ℕ) → IsWithin ds cs → position_of ds cs < size_of ds
  pub position_again : (ds : List ℕ) (p : ℕ) → p < size_of ds →
      position_of ds (coordinates_of ds p) ≡ p
  pub coordinates_again : (ds cs : List ℕ) → IsWithin ds cs →
      coordinates_of ds (position_of ds cs) ≡ cs
  pub as_many : (ds cs : List ℕ) → IsWithin ds cs → length cs ≡ length ds
  pub quotient_below : (d : ℕ) (ds : List ℕ) (p : ℕ) → p < size_of (d ∷ ds) →
      (0 < d) × (p / d < size_of ds)

-- There are at most as many elements as the extent, which isn't 0; the dimensions from one on
-- have no greater extent.
pub record SizeLaws : Type 0 where
  pub size_within : (ds : List ℕ) → size_of ds ≤ extent ds
  pub extent_above : (ds : List ℕ) → 0 < extent ds
  pub rest_within : (ds : List ℕ) (i : ℕ) → extent (drop i ds) ≤ extent ds

-- What a stretched argument uses of coordinates lies within it.
abbrev pub CutsWithin : Type 0
CutsWithin = (ds joined cs : List ℕ) → BroadcastsTo ds joined → IsWithin joined cs →
    IsWithin ds (cut_to ds cs)

-- Sizes stretch to what they join to.
abbrev pub JoinsStretch : Type 0
JoinsStretch = (a b joined : List ℕ) → join a b ≡ Some joined →
    BroadcastsTo a joined × BroadcastsTo b joined

-- A whole array's places are its positions.
abbrev pub WholesAreInOrder : Type 0
WholesAreInOrder = (ds cs : List ℕ) → IsWithin ds cs →
    place_of (whole_triple ds) cs ≡ pos (position_of ds cs)

-- The triple of a whole array is one that shows places of a buffer.
abbrev pub WholesAreTriples : Type 0
WholesAreTriples = (ds : List ℕ) → IsDims ds → IsTriple (whole_triple ds)

-- A child's places lie in its parent where the coordinates that its own come from do.
abbrev pub PlacesLieInParent : Type 0
PlacesLieInParent =
    (child parent : List ℕ) (source : List ℕ → Option (List ℕ))
    → ((cs : List ℕ) → IsWithin child cs → IfSome (source cs) (IsWithin parent))
    → AllBelow (size_of parent) (places_of child parent source)

-- the last value that was put at a place stays
abbrev pub LastStays : Type 0
LastStays =
    (ps : List (Option ℕ)) (vs es : List ℤ) (j i : ℕ) (d : ℤ) → j < length vs → i < length es →
    get_or ps j None ≡ Some i
    → ((k : ℕ) → j < k → k < length vs → get_or ps k None ≡ Some i → ⊥) →
    get_or (write ps vs es) i d ≡ get_or vs j d

-- an element at no place that is written stays
abbrev pub OthersStay : Type 0
OthersStay =
    (ps : List (Option ℕ)) (vs es : List ℤ) (i : ℕ) (d : ℤ)
    → ((k : ℕ) → k < length vs → get_or ps k None ≡ Some i → ⊥) →
    get_or (write ps vs es) i d ≡ get_or es i d

-- What a write leaves: the last value of each place, and else the element that was
-- there; as many elements as before; and no number that was neither a value nor an element.
pub record WriteLaws : Type 0 where
  pub last : LastStays
  pub others : OthersStay
  pub as_many : (ps : List (Option ℕ)) (vs es : List ℤ) → length (write ps vs es) ≡ length es
  pub given : (ps : List (Option ℕ)) (vs es : List ℤ) →
      All (λ z. Contains vs z ⊎ Contains es z) (write ps vs es)
