-- The faults that name what the crates below refuse.
use Rattle.std.specs.Prelude.{Result, Ok, Err}
use Rattle.pdl_shape.specs.Refusals.{Refusal, bad_dimension, mismatch, out_of_range, too_many_dims, too_large}
use Rattle.pdl_ops.specs.Elementwise.{OpRefusal, no_dims, zero_divisor}
use Rattle.pdl_reduce.specs.Refusals as reduce
use Rattle.pdl_world.specs.Refused.{NoView, refused, too_deep}
use Rattle.pdl_machine.specs.declared.fault.Fault.{Fault}
use Rattle.pdl_machine.specs.declared.fault.Fault.TheVariants.{BadDimension, Mismatch, OutOfRange, TooManyDims, TooLarge, TooDeep, DivideByZero, TooMuchWork, EmptyReduce}

-- the fault that names why there are no such dimensions
abbrev pub shape_fault : Refusal → Fault
shape_fault bad_dimension = BadDimension
shape_fault mismatch = Mismatch
shape_fault out_of_range = OutOfRange
shape_fault too_many_dims = TooManyDims
shape_fault too_large = TooLarge

-- the fault that names why an operator has no values
abbrev pub operator_fault : OpRefusal → Fault
operator_fault (no_dims refusal) = shape_fault refusal
operator_fault (zero_divisor place) = DivideByZero

-- the fault that names why a reduction or a product of two arrays has no result
abbrev pub reduce_fault : reduce.ReduceRefusal → Fault
reduce_fault reduce.mismatch = Mismatch
reduce_fault reduce.too_many_dims = TooManyDims
reduce_fault reduce.too_large = TooLarge
reduce_fault reduce.too_much_work = TooMuchWork
reduce_fault reduce.empty_reduce = EmptyReduce

-- the fault that names why there is no such view
abbrev pub view_fault : NoView → Fault
view_fault (refused refusal) = shape_fault refusal
view_fault too_deep = TooDeep

-- what a crate below gives, with the fault that names its refusal
abbrev pub or_named : {A E : Type 0} → (name : E → Fault) → Result A E → Result A Fault
or_named name (Ok x) = Ok x
or_named name (Err e) = Err (name e)
