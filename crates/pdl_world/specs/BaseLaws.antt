-- What leaves the bases of arrays as they are.
use Rattle.std.specs.Prelude.{◌≡◌, ℕ, ℤ, List, ◌∷◌}
use Rattle.pdl_world.specs.Sound.{NumbersBelow, IsLive, IsSound}
use Rattle.pdl_world.specs.Swept.{sweep, IsReached}
use Rattle.pdl_world.specs.Windows.{base}
use Rattle.pdl_world.specs.World.{World, ArrayDef, look, assign}

-- the array is shown over the base that it was shown over, and this is seen as it was
pub record IsShownAsBefore (old new : World) (v : ℕ) : Type 0 where
  pub base_is : base new v ≡ base old v
  pub base_look_is : look new (base old v) ≡ look old (base old v)

-- an assignment changes no base
abbrev pub AssignmentsLeaveBases : Type 0
AssignmentsLeaveBases = (w : World) (v u : ℕ) (vs : List ℤ) → IsShownAsBefore w (assign w v vs) u

-- a newer array changes the base of no older one
abbrev pub OlderBasesStay : Type 0
OlderBasesStay =
    (w : World) (k v : ℕ) (d : ArrayDef) → NumbersBelow k w → IsLive w v
    → IsShownAsBefore w ((k, d) ∷ w) v

-- a sweep changes the base of none that is reached
abbrev pub ReachedKeepBases : Type 0
ReachedKeepBases =
    (w : World) (held : List ℕ) (v : ℕ) → IsSound w → IsReached w held v
    → IsShownAsBefore w (sweep w held) v

-- what is seen after a sweep doesn't depend on what was assigned before
abbrev pub SweepsLeaveLooks : Type 0
SweepsLeaveLooks =
    (w : World) (v u : ℕ) (vs : List ℤ) (held : List ℕ)
    → look (sweep (assign w v vs) held) u ≡ look (sweep w held) u
