-- What sessions keep, so that a dump makes their states again.
use Rattle.std.specs.Prelude.{◌≡◌, ℕ, Bool, List, Ok}
use Rattle.pdl_shape.specs.Shape.{IsDims}
use Rattle.pdl_buf.specs.Made.{IsMade}
use Rattle.pdl_world.specs.Sound.{IsSound, IsLive}
use Rattle.pdl_world.specs.World.{World, dims_in, ty_in, elements}
use Rattle.pdl_syntax.specs.StatementTree.{StatementTree}
use Rattle.pdl_syntax.specs.WellMade.{IsWellMade}
use Rattle.pdl_machine.specs.State.{State, no_names, IsSwept, IsWhole}
use Rattle.pdl_machine.specs.Tidy.{tidy}
use Rattle.pdl_machine.specs.Step.{effect}
use Rattle.pdl_machine.specs.Dumpable.{IsSpelled, IsDumpable}

-- what a live array of a sound world shows is an array: dimensions, and elements of its type
abbrev pub ShownAreMade : Type 0
ShownAreMade = (w : World) (v : ℕ) → IsSound w → IsLive w v →
    IsDims (dims_in w v) × IsMade (ty_in w v) (dims_in w v) (elements w v)

-- at the start there is nothing to make
abbrev pub EmptyIsDumpable : Type 0
EmptyIsDumpable = IsDumpable no_names

-- a statement that can be written leaves what a script can spell
abbrev pub EffectsKeepSpelled : Type 0
EffectsKeepSpelled = (present : List Bool) (s : State) (statement : StatementTree)
    (after : State × List ℕ) → IsWhole s → IsSpelled s → IsWellMade statement →
    effect present s statement ≡ Ok after → IsWhole after.0 → IsSpelled (tidy after.0)

-- a tidied state is swept and numbered, so it is dumpable where a script can spell it
abbrev pub TidiedAreDumpable : Type 0
TidiedAreDumpable = (s : State) → IsWhole s → IsSpelled (tidy s) → IsDumpable (tidy s)

-- to be spelled doesn't depend on the numbers of arrays
abbrev pub NumbersAreUnspelled : Type 0
NumbersAreUnspelled = (s : State) → IsSwept s → IsSpelled (tidy s) → IsSpelled s
