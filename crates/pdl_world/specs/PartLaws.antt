-- What holds of assignments in parts, in every world.
use Rattle.std.specs.Prelude.{◌≡◌, ℕ, ◌+◌, ◌==◌, if◌then◌else◌, ℤ, false, List, [], ◌++◌, length, drop, All, Some}
use Rattle.pdl_elem.specs.Types.{InRange}
use Rattle.pdl_shape.specs.Places.{read, write}
use Rattle.pdl_world.specs.Paths.{root_of}
use Rattle.pdl_world.specs.Sound.{IsSound}
use Rattle.pdl_world.specs.World.{World, Look, look, has_repeats, elements, root_elements, assign, ty_in}
use Rattle.pdl_world.specs.Parts.{assign_part, IsReadBefore}

-- the whole assignment is the part from the first position on
abbrev pub WholesAreParts : Type 0
WholesAreParts = (w : World) (v : ℕ) (vs : List ℤ) → assign w v vs ≡ assign_part w v 0 vs

-- two parts one after another are one
abbrev pub PartsJoin : Type 0
PartsJoin =
    (w : World) (v first : ℕ) (vs us : List ℤ)
    → assign_part (assign_part w v first vs) v (first + length vs) us
    ≡ assign_part w v first (vs ++ us)

-- a part changes nothing of what is seen through any array
abbrev pub PartsLeaveLooks : Type 0
PartsLeaveLooks =
    (w : World) (v u first : ℕ) (vs : List ℤ) → look (assign_part w v first vs) u ≡ look w u

-- the elements of u after a part was assigned to v
abbrev pub PartsRead : Type 0
PartsRead =
    (w : World) (v u first : ℕ) (l m : Look) (vs : List ℤ) → look w v ≡ Some l → look w u ≡ Some m
    → elements (assign_part w v first vs) u
    ≡ read m.places (if m.root == l.root then write (drop first l.places) vs (root_elements w l.root)
    else root_elements w m.root)

-- arrays of other roots keep their elements
abbrev pub PartsLeaveOthers : Type 0
PartsLeaveOthers =
    (w : World) (v u first : ℕ) (vs : List ℤ) → (root_of w u ≡ root_of w v → ⊥)
    → elements (assign_part w v first vs) u ≡ elements w u

-- u keeps its elements at later positions, where it reads there none of the places written before
abbrev pub PartsLeaveLater : Type 0
PartsLeaveLater =
    (w : World) (v u first : ℕ) (l m : Look) (vs : List ℤ) → look w v ≡ Some l → look w u ≡ Some m
    → IsReadBefore l.places m.places
    → drop (first + length vs) (elements (assign_part w v first vs) u)
    ≡ drop (first + length vs) (elements w u)

-- so does an array without repeats itself
abbrev pub PartsLeaveRest : Type 0
PartsLeaveRest =
    (w : World) (v first : ℕ) (l : Look) (vs : List ℤ) → look w v ≡ Some l
    → has_repeats l.places ≡ false
    → drop (first + length vs) (elements (assign_part w v first vs) v)
    ≡ drop (first + length vs) (elements w v)

-- a world stays sound where numbers of the type are assigned
abbrev pub PartsAssignSoundly : Type 0
PartsAssignSoundly =
    (w : World) (v first : ℕ) (vs : List ℤ) → IsSound w → All (InRange (ty_in w v)) vs
    → IsSound (assign_part w v first vs)

-- no values change nothing
abbrev pub NothingStays : Type 0
NothingStays = (w : World) (v : ℕ) → IsSound w → assign_part w v 0 [] ≡ w
