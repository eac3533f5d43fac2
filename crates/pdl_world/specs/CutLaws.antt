-- What holds of every cut, and of every other shape.
use Rattle.std.specs.Prelude.{◌≡◌, ◌≢◌, ℕ, ℤ, pos, ◌<◌, true, false, List, [], ◌∷◌, ◌++◌, length, drop, get_or, Some}
use Rattle.pdl_shape.specs.Shape.{size_of}
use Rattle.pdl_world.specs.declared.Trans.{Trans}
use Rattle.pdl_world.specs.Cut.{sever, has_views, fitted, reshape}
use Rattle.pdl_world.specs.Laws.{IsSeenAs}
use Rattle.pdl_world.specs.Paths.{path, root_of}
use Rattle.pdl_world.specs.Sound.{NumbersBelow, IsSound, IsLive}
use Rattle.pdl_world.specs.SweepLaws.{IsSeenAsBefore}
use Rattle.pdl_world.specs.Swept.{is_listed, Has}
use Rattle.pdl_world.specs.World.{World, view, Look, look_of_root, look, through_places, dims_in, ty_in, elements}

-- the array has the type, the dimensions and the elements that it had
pub record ShowsTheSame (old new : World) (u : ℕ) : Type 0 where
  pub ty_is : ty_in new u ≡ ty_in old u
  pub dims_are : dims_in new u ≡ dims_in old u
  pub elems_are : elements new u ≡ elements old u

-- after a cut each array has these
abbrev pub CutsLeaveElements : Type 0
CutsLeaveElements = (w : World) (v u : ℕ) → IsSound w → ShowsTheSame w (sever w v) u

-- the array is a root that shows its own elements, and its path ends there
pub record IsRootIn (w : World) (v : ℕ) (l : Look) : Type 0 where
  pub look_is : look w v ≡ Some (look_of_root v l.ty l.dims)
  pub path_is : path w v ≡ v ∷ []

-- what was cut is a root of the type and the dimensions that were seen through it
abbrev pub CutsAreRoots : Type 0
CutsAreRoots =
    (w : World) (v : ℕ) (l : Look) → IsSound w → look w v ≡ Some l → IsRootIn (sever w v) v l

-- to cut a root is nothing
abbrev pub RootsAreUncut : Type 0
RootsAreUncut = (w : World) (v : ℕ) → IsSound w → root_of w v ≡ v → sever w v ≡ w

-- an array that isn't shown through the one that was cut is seen as before
abbrev pub CutsLeaveOthers : Type 0
CutsLeaveOthers =
    (w : World) (v u : ℕ) → IsSound w → is_listed (path w u) v ≡ false
    → IsSeenAsBefore w (sever w v) u

-- so is each array of another family
abbrev pub CutsLeaveFamilies : Type 0
CutsLeaveFamilies =
    (w : World) (v u : ℕ) → IsSound w → root_of w u ≢ root_of w v
    → IsSeenAsBefore w (sever w v) u

-- what is seen as by m, whose root is an array that is itself seen as by l
abbrev pub seen_over : (l m : Look) → Look
seen_over l m = record m { root = l.root; places = through_places m.places l.places }

-- u is a view of the new root v by way of what it was before: its places in the old
-- root are those of v at its places in v, and its path went on with that of v
pub record IsViewOfCut (old new : World) (v u : ℕ) (l : Look) : Type 0 where
  pub seen : Look
  pub look_is : look new u ≡ Some seen
  pub root_is : seen.root ≡ v
  pub was : look old u ≡ Some (seen_over l seen)
  pub path_was : path old u ≡ path new u ++ drop 1 (path old v)

-- an array that is shown through the one that was cut stays with it
abbrev pub CutsTakeTheirViews : Type 0
CutsTakeTheirViews =
    (w : World) (v u : ℕ) (l : Look) → IsSound w → look w v ≡ Some l → is_listed (path w u) v ≡ true
    → IsViewOfCut w (sever w v) v u l

-- a sound world stays sound
abbrev pub CutsSoundly : Type 0
CutsSoundly = (w : World) (v : ℕ) → IsSound w → IsSound (sever w v)

-- the same arrays are there
pub record HasSameNumbers (old new : World) : Type 0 where
  pub count : length new ≡ length old
  pub below : (n : ℕ) → NumbersBelow n old → NumbersBelow n new
  pub live : (u : ℕ) → IsLive old u → IsLive new u

abbrev pub CutsLeaveNumbers : Type 0
CutsLeaveNumbers = (w : World) (v : ℕ) → IsSound w → HasSameNumbers w (sever w v)

-- an array has views exactly where it is the parent of one
pub record HasViewsExactly (w : World) (v : ℕ) : Type 0 where
  pub there : has_views w v ≡ true → (u : ℕ) × (t : Trans) × Has w u (view v t)
  pub found : (u : ℕ) (t : Trans) → Has w u (view v t) → has_views w v ≡ true

abbrev pub ViewsAreFound : Type 0
ViewsAreFound = (w : World) (v : ℕ) → HasViewsExactly w v

-- as many elements as are wanted; each is the one that was there, and 0 past these
pub record IsFitted (n : ℕ) (es new : List ℤ) : Type 0 where
  pub count : length new ≡ n
  pub first : (i : ℕ) → i < n → get_or new i (pos 0) ≡ get_or es i (pos 0)

abbrev pub FittedIsFitted : Type 0
FittedIsFitted = (n : ℕ) (es : List ℤ) → IsFitted n es (fitted n es)

-- an array of other dimensions is a root of these, with its first elements
abbrev pub ReshapedIsSeen : Type 0
ReshapedIsSeen =
    (w : World) (v : ℕ) (l : Look) (ds : List ℕ) → look w v ≡ Some l
    → IsSeenAs (reshape w v ds) v v l.ty ds (fitted (size_of ds) (elements w v))
