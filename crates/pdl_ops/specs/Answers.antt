-- What a call's answer says of the definition.
use Rattle.std.specs.Prelude.{◌≡◌, ℕ, List, Option, Some, None, Result, Ok, Err}
use Rattle.pdl_shape.specs.Refusals.{Refusal, mismatch, too_large}
use Rattle.pdl_ops.specs.declared.OpFault.{OpFault}
use Rattle.pdl_ops.specs.declared.OpFault.TheVariants.{Mismatch, TooLarge, DivideByZero, NoMemory}
use Rattle.pdl_ops.specs.Elementwise.{OpRefusal, no_dims, zero_divisor}

-- the refusal that a fault names; `NoMemory` names none
abbrev pub refusal_named : OpFault → Option OpRefusal
refusal_named Mismatch = Some (no_dims mismatch)
refusal_named TooLarge = Some (no_dims too_large)
refusal_named (DivideByZero place) = Some (zero_divisor place)
refusal_named NoMemory = None

-- what is wanted is refused so; a fault that names no refusal says nothing of it
abbrev pub IsRefused : {A : Type 0} → (wanted : Result A OpRefusal) → (named : Option OpRefusal)
    → Type 0
IsRefused wanted None = Unit {0}
IsRefused wanted (Some refusal) = wanted ≡ Err refusal

-- an answer, as it is seen, is what is wanted, and a fault names what refuses it
abbrev pub Answers : {A B : Type 0} → (seen : A → B) → (wanted : Result B OpRefusal)
    → Result A OpFault → Type 0
Answers seen wanted (Ok a) = wanted ≡ Ok (seen a)
Answers seen wanted (Err fault) = IsRefused wanted (refusal_named fault)

-- dimensions, or what refuses them as a refusal of an operator
abbrev pub or_refused : Result (List ℕ) Refusal → Result (List ℕ) OpRefusal
or_refused (Ok ds) = Ok ds
or_refused (Err refusal) = Err (no_dims refusal)
