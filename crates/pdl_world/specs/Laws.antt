-- What holds of every world.
use Rattle.std.specs.Prelude.{◌≡◌, ℕ, ℤ, pos, ◌<◌, ◌==◌, if◌then◌else◌, false, List, [], ◌∷◌, length, get_or, All, Option, Some, None, Ok}
use Rattle.pdl_elem.specs.declared.Ty.{Ty}
use Rattle.pdl_elem.specs.Types.{InRange}
use Rattle.pdl_shape.specs.Places.{places_of, read, write}
use Rattle.pdl_shape.specs.Shape.{size_of}
use Rattle.pdl_world.specs.declared.Trans.{Trans}
use Rattle.pdl_world.specs.Formula.{child_dims, source}
use Rattle.pdl_world.specs.Paths.{depth_limit, path, root_of}
use Rattle.pdl_world.specs.World.{World, ArrayDef, root, view, Look, look_of_root, look, has_repeats, elements, root_elements, assign, dims_in, ty_in}
use Rattle.pdl_world.specs.Sound.{NumbersBelow, IsAllowed, IsSound, IsLive}

-- at most so many views are on a path
abbrev pub LimitIs : Type 0
LimitIs = depth_limit ≡ 64

-- an assignment changes nothing of what is seen through any array
abbrev pub LooksStay : Type 0
LooksStay = (w : World) (v u : ℕ) (vs : List ℤ) → look (assign w v vs) u ≡ look w u

-- nor any path
abbrev pub PathsStay : Type 0
PathsStay = (w : World) (v u : ℕ) (vs : List ℤ) → path (assign w v vs) u ≡ path w u

-- nor any number
abbrev pub NumbersStay : Type 0
NumbersStay =
    (w : World) (n v : ℕ) (vs : List ℤ) → NumbersBelow n w → NumbersBelow n (assign w v vs)

-- the elements of u after values were assigned to v: those of its root at its places,
-- where these have the values if both arrays have one root
abbrev pub Reads : Type 0
Reads =
    (w : World) (v u : ℕ) (l m : Look) (vs : List ℤ) → look w v ≡ Some l → look w u ≡ Some m
    → elements (assign w v vs) u
    ≡ read m.places (if m.root == l.root then write l.places vs (root_elements w l.root)
    else root_elements w m.root)

-- the values at positions that have a place, and 0 at the others
abbrev pub kept_values : (places : List (Option ℕ)) → (values : List ℤ) → List ℤ
kept_values [] vs = []
kept_values (p ∷ ps) [] = []
kept_values (None ∷ ps) (x ∷ vs) = pos 0 ∷ kept_values ps vs
kept_values (Some i ∷ ps) (x ∷ vs) = x ∷ kept_values ps vs

-- an array without repeats has afterwards what was assigned to it, and 0 where it has no place
abbrev pub ReadsBack : Type 0
ReadsBack =
    (w : World) (v : ℕ) (l : Look) (vs : List ℤ) → IsSound w → look w v ≡ Some l
    → has_repeats l.places ≡ false
    → length vs ≡ length l.places → elements (assign w v vs) v ≡ kept_values l.places vs

-- each place is one of an element of the root
abbrev pub PlacesLieWithin : Type 0
PlacesLieWithin =
    (w : World) (v : ℕ) (l : Look) (j i : ℕ) → IsSound w → look w v ≡ Some l
    → get_or l.places j None ≡ Some i
    → i < length (root_elements w l.root)

-- and these are numbers of the type
abbrev pub RootsAreInRange : Type 0
RootsAreInRange =
    (w : World) (v : ℕ) (l : Look) → IsSound w → look w v ≡ Some l
    → All (InRange l.ty) (root_elements w l.root)

-- a live array's number is below one that is above all
abbrev pub LiveLieBelow : Type 0
LiveLieBelow = (w : World) (n v : ℕ) → NumbersBelow n w → IsLive w v → v < n

-- a world stays sound where numbers of the type are assigned
abbrev pub AssignsSoundly : Type 0
AssignsSoundly =
    (w : World) (v : ℕ) (vs : List ℤ) → IsSound w → All (InRange (ty_in w v)) vs
    → IsSound (assign w v vs)

-- and where an allowed array with a number above all joins it
abbrev pub JoinsSoundly : Type 0
JoinsSoundly =
    (w : World) (k : ℕ) (d : ArrayDef) → IsSound w → NumbersBelow k w → IsAllowed w d
    → IsSound ((k, d) ∷ w)

-- what is seen through an older array stays when a newer one joins
abbrev pub OlderStay : Type 0
OlderStay =
    (w : World) (k v : ℕ) (d : ArrayDef) → NumbersBelow k w → IsLive w v
    → look ((k, d) ∷ w) v ≡ look w v

-- so do its elements
abbrev pub OlderElementsStay : Type 0
OlderElementsStay =
    (w : World) (k v : ℕ) (d : ArrayDef) → NumbersBelow k w → IsLive w v
    → elements ((k, d) ∷ w) v ≡ elements w v

-- and its path
abbrev pub OlderPathsStay : Type 0
OlderPathsStay =
    (w : World) (k v : ℕ) (d : ArrayDef) → NumbersBelow k w → IsLive w v
    → path ((k, d) ∷ w) v ≡ path w v

-- an allowed array is live once it has joined
abbrev pub NewIsLive : Type 0
NewIsLive = (w : World) (k : ℕ) (d : ArrayDef) → IsAllowed w d → IsLive ((k, d) ∷ w) k

-- the array has this root, type and dimensions, and these elements
pub record IsSeenAs (w : World) (v r : ℕ) (ty : Ty) (ds : List ℕ) (es : List ℤ) : Type 0 where
  pub root_is : root_of w v ≡ r
  pub ty_is : ty_in w v ≡ ty
  pub dims_are : dims_in w v ≡ ds
  pub elems_are : elements w v ≡ es

-- a new root shows the elements that it was made of
abbrev pub NewRootIsSeen : Type 0
NewRootIsSeen =
    (w : World) (k : ℕ) (ty : Ty) (ds : List ℕ) (es : List ℤ) → length es ≡ size_of ds
    → IsSeenAs ((k, root ty ds es) ∷ w) k k ty ds es

-- each of its positions is its own place
abbrev pub NewRootIsWhole : Type 0
NewRootIsWhole =
    (w : World) (k : ℕ) (ty : Ty) (ds : List ℕ) (es : List ℤ)
    → look ((k, root ty ds es) ∷ w) k ≡ Some (look_of_root k ty ds)

-- a new view has at each position its parent's element at the source of the position, and
-- 0 where that is nothing
abbrev pub NewViewIsSeen : Type 0
NewViewIsSeen =
    (w : World) (k p : ℕ) (t : Trans) (ds : List ℕ) → IsLive w p
    → child_dims t (dims_in w p) ≡ Ok ds
    → IsSeenAs
    ((k, view p t) ∷ w)
    k
    (root_of w p)
    (ty_in w p)
    ds
    (read (places_of ds (dims_in w p) (source t (dims_in w p))) (elements w p))

-- the path of a new root is the root itself
abbrev pub NewRootHasPath : Type 0
NewRootHasPath =
    (w : World) (k : ℕ) (ty : Ty) (ds : List ℕ) (es : List ℤ)
    → path ((k, root ty ds es) ∷ w) k ≡ k ∷ []

-- and that of a new view is the view itself, and then its parent's path
abbrev pub NewViewHasPath : Type 0
NewViewHasPath = (w : World) (k p : ℕ) (t : Trans) → path ((k, view p t) ∷ w) k ≡ k ∷ path w p
