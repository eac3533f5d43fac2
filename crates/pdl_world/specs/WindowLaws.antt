-- What holds of windows, and of repeats among places.
use Rattle.std.specs.Prelude.{◌≡◌, ◌<◌, ℕ, pos, true, List, length, get_or, Option, Some, None, IsSomeAnd}
use Rattle.pdl_shape.specs.Shape.{IsWithin, position_of, size_of}
use Rattle.pdl_shape.specs.Triple.{IsTriple, Reaches, place_of, whole_triple}
use Rattle.pdl_world.specs.Paths.{root_of}
use Rattle.pdl_world.specs.Sound.{IsLive, IsSound}
use Rattle.pdl_world.specs.Windows.{Window, window}
use Rattle.pdl_world.specs.World.{World, dims_in, entry, has_repeats, places_in}

-- An array is shown over its base: the base is its own base and shows all of its elements in
-- order; the triple has the array's dimensions, shows positions of the base alone, and at each of
-- the array's coordinates one that has the array's place there.
pub record IsShownOver (w : World) (v : ℕ) (x : Window) : Type 0 where
  pub root_is : root_of w x.base ≡ root_of w v
  pub own : window w x.base
      ≡ Some (record { base = x.base; triple = whole_triple (dims_in w x.base) })
  pub dims_are : dims_in w v ≡ x.triple.dims
  pub is_triple : IsTriple x.triple
  pub reaches : Reaches x.triple (size_of (dims_in w x.base))
  pub places :
      (cs : List ℕ) (i : ℕ) → IsWithin x.triple.dims cs → place_of x.triple cs ≡ pos i
      → entry (places_in w v) (position_of x.triple.dims cs) ≡ entry (places_in w x.base) i

-- each array of a sound world that has a window is shown so
abbrev pub WindowsShowArrays : Type 0
WindowsShowArrays =
    (w : World) (v : ℕ) (x : Window) → IsSound w → window w v ≡ Some x → IsShownOver w v x

-- and each live one has a window
abbrev pub LiveHaveWindows : Type 0
LiveHaveWindows =
    (w : World) (v : ℕ) → IsSound w → IsLive w v → IsSomeAnd (window w v) (λ x. Unit {0})

-- two positions that have the same place
pub record IsRepeated (places : List (Option ℕ)) (j k i : ℕ) : Type 0 where
  pub order : j < k
  pub inside : k < length places
  pub first : get_or places j None ≡ Some i
  pub second : get_or places k None ≡ Some i

-- where there are repeats, some two positions have the same place
abbrev pub RepeatsHavePositions : Type 0
RepeatsHavePositions =
    (places : List (Option ℕ)) → has_repeats places ≡ true
    → (j : ℕ) × (k : ℕ) × (i : ℕ) × IsRepeated places j k i

-- and where two have, there are repeats
abbrev pub PositionsRepeat : Type 0
PositionsRepeat =
    (places : List (Option ℕ)) (j k i : ℕ) → IsRepeated places j k i → has_repeats places ≡ true
