-- New arrays by their sizes: `zeroes`, `ones`, `sequence`, `xvals`, `yvals`
-- (PDL::Core, PDL::Basic).
use Rattle.std.specs.Prelude.{ℕ, ℤ, pos, negsuc, List, [], ◌∷◌, Option, Some, None, Result, Ok}
use Rattle.pdl_elem.specs.declared.Ty.{Ty}
use Rattle.pdl_elem.specs.declared.Ty.TheVariants.{Long}
use Rattle.pdl_shape.specs.Limits.{checked_dims}
use Rattle.pdl_ops.specs.Fills.{filled}
use Rattle.pdl_ops.specs.declared.fills.Fill.{Fill}
use Rattle.pdl_machine.specs.declared.fault.Fault.{Fault}
use Rattle.pdl_machine.specs.declared.fault.Fault.TheVariants.{WrongArguments, BadDimension}
use Rattle.pdl_machine.specs.Then.{and_then, or_fault, all_of}
use Rattle.pdl_machine.specs.Refused.{shape_fault, or_named}
use Rattle.pdl_machine.specs.Outcome.{array, string, type_word, Seen, Outcome, made}

-- the type word that stands first, else long
abbrev pub type_given : List Seen → Ty
type_given (type_word ty ∷ rest) = ty
type_given _ = Long

-- the arguments after a type word that stands first
abbrev pub after_type : List Seen → List Seen
after_type (type_word ty ∷ rest) = rest
after_type all = all

-- the only element of a list
abbrev pub only : List ℤ → Option ℤ
only (x ∷ []) = Some x
only _ = None

-- the number that an argument is: an array of exactly one element
abbrev pub number_in : Seen → Option ℤ
number_in (array m) = only m.elems
number_in (string t) = None
number_in (type_word ty) = None

-- the numbers that arguments are
abbrev pub numbers_in : List Seen → Result (List ℤ) Fault
numbers_in given = or_fault WrongArguments (all_of number_in given)

-- a number as a size, where it isn't below 0
abbrev pub size : ℤ → Option ℕ
size (pos n) = Some n
size (negsuc n) = None

-- the dimensions of these sizes
abbrev pub dims_for : List ℤ → Result (List ℕ) Fault
dims_for ns = and_then (or_fault BadDimension (all_of size ns)) (λ ds.
    or_named shape_fault (checked_dims ds))

-- a new array of an optional type word, else long, and a size per dimension
abbrev pub fill_outcome : Fill → List Seen → Result Outcome Fault
fill_outcome fill given =
    and_then (numbers_in (after_type given)) (λ ns. and_then (dims_for ns) (λ ds.
    Ok (made (filled fill (type_given given) ds))))
