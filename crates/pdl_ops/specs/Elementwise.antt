-- Operators over whole arrays (PDL::Ops, PDL::Broadcasting).
use Rattle.std.specs.Prelude.{ℕ, ℤ, List, map, take, drop, Option, Some, None, Result, Ok, Err}
use Rattle.pdl_elem.specs.declared.Ty.{Ty}
use Rattle.pdl_elem.specs.declared.UnaryOp.{UnaryOp}
use Rattle.pdl_elem.specs.declared.BinaryOp.{BinaryOp}
use Rattle.pdl_elem.specs.Types.{promoted, unary_result, binary_result}
use Rattle.pdl_elem.specs.Numbers.{wrapped}
use Rattle.pdl_elem.specs.Operators.{unary_value, value_of}
use Rattle.pdl_elem.specs.Blocks.{pairwise, zero_at}
use Rattle.pdl_shape.specs.Joined.{joined_dims}
use Rattle.pdl_shape.specs.Refusals.{Refusal}
use Rattle.pdl_shape.specs.Stretched.{stretched}
use Rattle.pdl_buf.specs.declared.made.Made.{Made}

-- Why an operator has no values: the dimensions refuse it, or the first divisor 0 is at this place.
pub data OpRefusal : Type 0 where
  no_dims : (refusal : Refusal) → OpRefusal
  zero_divisor : (place : ℕ) → OpRefusal

-- an operator of one operand at each element
abbrev pub unary_each : UnaryOp → Made → Made
unary_each op a =
    let elems = map (unary_value op a.ty) a.elems in
    record { ty = unary_result op a.ty; dims = a.dims; elems = elems }

-- each element wrapped to a type
abbrev pub converted : Ty → Made → Made
converted ty a = record { ty = ty; dims = a.dims; elems = map (wrapped ty) a.elems }

-- so many numbers of a list from a position on, wrapped to the type that the operator works at
abbrev pub operands_from : Ty → (first count : ℕ) → List ℤ → List ℤ
operands_from ty first count es = map (wrapped ty) (take count (drop first es))

-- an operator on two lists of operands of a type, where no divisor is 0
abbrev pub values_at : BinaryOp → Ty → (left right : List ℤ) → (first_zero : Option ℕ)
    → Result (List ℤ) OpRefusal
values_at op ty xs ys (Some place) = Err (zero_divisor place)
values_at op ty xs ys None = Ok (pairwise (value_of op ty) xs ys)

abbrev pub values_of : BinaryOp → Ty → (left right : List ℤ) → Result (List ℤ) OpRefusal
values_of op ty xs ys = values_at op ty xs ys (zero_at op ys)

abbrev pub made_of : Ty → List ℕ → Result (List ℤ) OpRefusal → Result Made OpRefusal
made_of ty dims (Err e) = Err e
made_of ty dims (Ok es) = Ok (record { ty = ty; dims = dims; elems = es })

-- an operator on two arrays of the same dimensions, element by element, at the type of higher rank
abbrev pub of_alike : BinaryOp → Made → Made → Result Made OpRefusal
of_alike op a b =
    let ty = promoted a.ty b.ty in
    let values = values_of op ty (map (wrapped ty) a.elems) (map (wrapped ty) b.elems) in
    made_of (binary_result op a.ty b.ty) b.dims values

-- an array stretched over joined dimensions
abbrev pub over : (joined : List ℕ) → Made → Made
over joined a = record { ty = a.ty; dims = joined; elems = stretched a.dims joined a.elems }

abbrev pub over_joined : BinaryOp → (left right : Made) → (joined : Result (List ℕ) Refusal)
    → Result Made OpRefusal
over_joined op a b (Err refusal) = Err (no_dims refusal)
over_joined op a b (Ok joined) = of_alike op (over joined a) (over joined b)

-- an operator of two operands at each position of the joined dimensions, at the type of higher
-- rank; or why it has no values: first what the dimensions refuse, then the first divisor 0
abbrev pub elementwise : BinaryOp → Made → Made → Result Made OpRefusal
elementwise op a b = over_joined op a b (joined_dims a.dims b.dims)
