-- Why there is no such array, apart from being out of memory.
use Rattle.std.specs.Prelude.{◌≡◌, Option, Some, None, Result, Ok, Err}
use Rattle.pdl_shape.specs.declared.sizes.ShapeFault.{ShapeFault}
use Rattle.pdl_shape.specs.declared.sizes.ShapeFault.TheVariants.{Mismatch, TooManyDims, TooLarge}

-- Why there are no such dimensions or no such view. Where several hold, it is the one
-- that stands first here.
pub data Refusal : Type 0 where
  bad_dimension : Refusal
  mismatch : Refusal
  out_of_range : Refusal
  too_many_dims : Refusal
  too_large : Refusal

-- the refusal that a fault of sizes names
abbrev pub refusal_of : ShapeFault → Refusal
refusal_of Mismatch = mismatch
refusal_of TooManyDims = too_many_dims
refusal_of TooLarge = too_large

-- an answer, with its fault as the refusal that it names
abbrev pub named : {A E : Type 0} → (E → Refusal) → Result A E → Result A Refusal
named name (Ok a) = Ok a
named name (Err fault) = Err (name fault)

-- what is wanted is refused so; a fault that names no refusal says nothing of it
abbrev pub Refuses : {A : Type 0} → (wanted : Result A Refusal) → (named : Option Refusal) → Type 0
Refuses wanted None = Unit {0}
Refuses wanted (Some refusal) = wanted ≡ Err refusal
