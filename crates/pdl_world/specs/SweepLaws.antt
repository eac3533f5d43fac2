-- What holds of every sweep.
use Rattle.std.specs.Prelude.{◌≡◌, ℕ, true, List, ◌∷◌}
use Rattle.pdl_world.specs.Paths.{path}
use Rattle.pdl_world.specs.Sound.{NumbersBelow, IsLive, IsSound}
use Rattle.pdl_world.specs.Swept.{is_listed, sweep, Has, IsReached}
use Rattle.pdl_world.specs.World.{World, ArrayDef, look, elements}

-- the array was there, and held ones reach it, also within what is kept
pub record WasReached (w : World) (held : List ℕ) (k : ℕ) (d : ArrayDef) : Type 0 where
  pub there : Has w k d
  pub reached : IsReached w held k
  pub still : IsReached (sweep w held) held k

-- each array that is kept was reached
abbrev pub KeptWereReached : Type 0
KeptWereReached =
    (w : World) (held : List ℕ) (k : ℕ) (d : ArrayDef) → Has (sweep w held) k d
    → WasReached w held k d

-- and in a sound world each that is reached is kept
abbrev pub ReachedAreKept : Type 0
ReachedAreKept =
    (w : World) (held : List ℕ) (k : ℕ) (d : ArrayDef) → IsSound w → Has w k d → IsReached w held k
    → Has (sweep w held) k d

-- an array that is held itself is kept, in every world
abbrev pub HeldAreKept : Type 0
HeldAreKept =
    (w : World) (held : List ℕ) (k : ℕ) (d : ArrayDef) → Has w k d → is_listed held k ≡ true
    → Has (sweep w held) k d

-- the array is seen in the new world as it was in the old one
pub record IsSeenAsBefore (old new : World) (v : ℕ) : Type 0 where
  pub look_is : look new v ≡ look old v
  pub elems_are : elements new v ≡ elements old v
  pub path_is : path new v ≡ path old v

-- what held ones reach is seen as before
abbrev pub ReachedAreSeenAsBefore : Type 0
ReachedAreSeenAsBefore =
    (w : World) (held : List ℕ) (v : ℕ) → IsSound w → IsReached w held v
    → IsSeenAsBefore w (sweep w held) v

-- a sound world stays sound
abbrev pub SweepsSoundly : Type 0
SweepsSoundly = (w : World) (held : List ℕ) → IsSound w → IsSound (sweep w held)

-- numbers that lie below a bound lie below it after a sweep
abbrev pub NoNumberComes : Type 0
NoNumberComes =
    (w : World) (n : ℕ) (held : List ℕ) → NumbersBelow n w → NumbersBelow n (sweep w held)

-- a new array goes where only older ones are held
abbrev pub NewGoesUnheld : Type 0
NewGoesUnheld =
    (w : World) (k : ℕ) (d : ArrayDef) (held : List ℕ) → NumbersBelow k w
    → ((v : ℕ) → is_listed held v ≡ true → IsLive w v) → sweep ((k, d) ∷ w) held ≡ sweep w held
