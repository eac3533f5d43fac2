-- What every choice answers: dimensions, or the first refusal.
use Rattle.std.specs.Prelude.{◌≡◌, ℕ, List, Option, Some, None, Result, Ok, Err}
use Rattle.pdl_shape.specs.Refusals.{Refusal, Refuses, bad_dimension, mismatch, out_of_range, too_many_dims, too_large}
use Rattle.pdl_choice.specs.declared.answers.ChoiceFault.{ChoiceFault}
use Rattle.pdl_choice.specs.declared.answers.ChoiceFault.TheVariants.{BadDimension, Mismatch, OutOfRange, TooManyDims, TooLarge, NoMemory}

-- the refusal that a fault names, if it names one
abbrev pub refusal_of : ChoiceFault → Option Refusal
refusal_of BadDimension = Some bad_dimension
refusal_of Mismatch = Some mismatch
refusal_of (OutOfRange at) = Some out_of_range
refusal_of TooManyDims = Some too_many_dims
refusal_of TooLarge = Some too_large
refusal_of NoMemory = None

-- the refused position that a fault tells, if it tells one
abbrev pub position_in : ChoiceFault → Option ℕ
position_in BadDimension = None
position_in Mismatch = None
position_in (OutOfRange at) = Some at
position_in TooManyDims = None
position_in TooLarge = None
position_in NoMemory = None

-- the dimensions that are wanted, or a fault that names why there are none
abbrev pub Makes : (wanted : Result (List ℕ) Refusal) → Result (List ℕ) ChoiceFault → Type 0
Makes wanted (Ok ds) = wanted ≡ Ok ds
Makes wanted (Err fault) = Refuses wanted (refusal_of fault)

-- a refusal of some index value, or else what follows
abbrev pub unless_outside : Option ℕ → Result (List ℕ) Refusal → Result (List ℕ) Refusal
unless_outside (Some at) dims = Err out_of_range
unless_outside None dims = dims

-- what refuses a view whose dimensions are too large: an index value, or else the limit
abbrev pub refusal_past : Option ℕ → Refusal
refusal_past (Some at) = out_of_range
refusal_past None = too_large
