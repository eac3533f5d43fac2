-- What a call's answer says of the definition.
use Rattle.std.specs.Prelude.{◌≡◌, Option, Some, None, Result, Ok, Err}
use Rattle.pdl_buf.specs.declared.made.Made.{Made}
use Rattle.pdl_reduce.specs.declared.ReduceFault.{ReduceFault}
use Rattle.pdl_reduce.specs.declared.ReduceFault.TheVariants.{Mismatch, TooManyDims, TooLarge, TooMuchWork, EmptyReduce, NoMemory}
use Rattle.pdl_reduce.specs.Refusals.{ReduceRefusal, mismatch, too_many_dims, too_large, too_much_work, empty_reduce}

-- the refusal that a fault names; `NoMemory` names none
abbrev pub refusal_named : ReduceFault → Option ReduceRefusal
refusal_named Mismatch = Some mismatch
refusal_named TooManyDims = Some too_many_dims
refusal_named TooLarge = Some too_large
refusal_named TooMuchWork = Some too_much_work
refusal_named EmptyReduce = Some empty_reduce
refusal_named NoMemory = None

-- what is wanted is refused so; a fault that names no refusal says nothing of it
abbrev pub IsRefused : (wanted : Result Made ReduceRefusal) → (named : Option ReduceRefusal)
    → Type 0
IsRefused wanted None = Unit {0}
IsRefused wanted (Some refusal) = wanted ≡ Err refusal

-- an answer is what is wanted, and a fault names what refuses it
abbrev pub Answers : (wanted : Result Made ReduceRefusal) → Result Made ReduceFault → Type 0
Answers wanted (Ok made) = wanted ≡ Ok made
Answers wanted (Err fault) = IsRefused wanted (refusal_named fault)
