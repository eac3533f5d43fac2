-- Reductions of an array and products of two (PDL::Ufunc, PDL::Primitive): `sumover` and the
-- others along dimension 0, `sum`,
-- `prod`, `max`, `min`, `all`, `any`, `inner`, `outer`, `matmult`.
use Rattle.std.specs.Prelude.{List, [], ◌∷◌, Result, Ok, Err}
use Rattle.pdl_buf.specs.declared.made.Made.{Made}
use Rattle.pdl_reduce.specs.Refusals.{ReduceRefusal}
use Rattle.pdl_machine.specs.declared.fault.Fault.{Fault}
use Rattle.pdl_machine.specs.declared.fault.Fault.TheVariants.{WrongArguments}
use Rattle.pdl_machine.specs.Then.{and_then}
use Rattle.pdl_machine.specs.Refused.{reduce_fault, or_named}
use Rattle.pdl_machine.specs.Outcome.{array, Seen, Outcome, made}

-- a new array, or the fault that names its refusal
abbrev pub made_or_fault : Result Made ReduceRefusal → Result Outcome Fault
made_or_fault result = and_then (or_named reduce_fault result) (λ m. Ok (made m))

-- a call that takes one array
abbrev pub of_one : (Made → Result Made ReduceRefusal) → List Seen → Result Outcome Fault
of_one f (array m ∷ []) = made_or_fault (f m)
of_one f _ = Err WrongArguments

-- a call that takes two arrays
abbrev pub of_two : (Made → Made → Result Made ReduceRefusal) → List Seen → Result Outcome Fault
of_two f (array m ∷ array n ∷ []) = made_or_fault (f m n)
of_two f _ = Err WrongArguments
