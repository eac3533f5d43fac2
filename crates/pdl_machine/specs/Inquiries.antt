-- New arrays of one array: `copy`, the type words, `nelem`, `ndims`, `dim`, `shape`, `which`
-- (PDL::Core, PDL::Primitive).
use Rattle.std.specs.Prelude.{ℕ, ℤ, pos, List, [], ◌∷◌, map, length, get_or, Result, Ok, Err}
use Rattle.pdl_elem.specs.declared.Ty.TheVariants.{Long}
use Rattle.pdl_shape.specs.Counting.{from_end}
use Rattle.pdl_shape.specs.Shape.{size_of}
use Rattle.pdl_buf.specs.declared.made.Made.{Made}
use Rattle.pdl_choice.specs.Where.{which}
use Rattle.pdl_ops.specs.Elementwise.{converted}
use Rattle.pdl_machine.specs.declared.fault.Fault.{Fault}
use Rattle.pdl_machine.specs.declared.fault.Fault.TheVariants.{WrongArguments, BadDimension}
use Rattle.pdl_machine.specs.declared.builtin.Inquiry.{Inquiry}
use Rattle.pdl_machine.specs.declared.builtin.Inquiry.TheVariants.{Copy, Convert, Nelem, Ndims, Shape, Which}
use Rattle.pdl_machine.specs.Then.{and_then, or_fault}
use Rattle.pdl_machine.specs.Outcome.{array, Seen, Outcome, made}
use Rattle.pdl_machine.specs.Fills.{number_in}

-- a long number as an array without dimensions
abbrev pub long_number : ℕ → Made
long_number n = record { ty = Long; dims = []; elems = pos n ∷ [] }

-- long numbers as an array of one dimension
abbrev pub long_numbers : List ℕ → Made
long_numbers ns = record { ty = Long; dims = length ns ∷ []; elems = map pos ns }

-- the new array of an array: the same, its elements wrapped to a type, how many elements or
-- dimensions it has, its sizes, or the positions at which it isn't 0
abbrev pub told : Inquiry → Made → Made
told Copy m = m
told (Convert ty) m = converted ty m
told Nelem m = long_number (size_of m.dims)
told Ndims m = long_number (length m.dims)
told Shape m = long_numbers m.dims
told Which m = long_numbers (which m.elems)

-- a call that takes one array
abbrev pub inquiry_outcome : Inquiry → List Seen → Result Outcome Fault
inquiry_outcome inquiry (array m ∷ []) = Ok (made (told inquiry m))
inquiry_outcome inquiry _ = Err WrongArguments

-- the size of the dimension of this number, which counts from the end where it is below 0
abbrev pub size_at : (dims : List ℕ) → ℤ → Result ℕ Fault
size_at dims k = and_then (or_fault BadDimension (from_end k (length dims))) (λ i.
    Ok (get_or dims i 0))

-- `dim`: the size of one dimension of an array
abbrev pub dim_outcome : List Seen → Result Outcome Fault
dim_outcome (array m ∷ k ∷ []) =
    and_then (or_fault WrongArguments (number_in k)) (λ number.
    and_then (size_at m.dims number) (λ n. Ok (made (long_number n))))
dim_outcome _ = Err WrongArguments
