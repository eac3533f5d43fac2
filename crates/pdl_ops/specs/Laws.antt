-- What holds of each operator over whole arrays.
use Rattle.std.specs.Prelude.{◌≡◌, ℕ, List, false, Result, Ok, Err}
use Rattle.pdl_elem.specs.declared.Ty.{Ty}
use Rattle.pdl_elem.specs.declared.UnaryOp.{UnaryOp}
use Rattle.pdl_elem.specs.declared.BinaryOp.{BinaryOp}
use Rattle.pdl_elem.specs.Operators.{divides}
use Rattle.pdl_buf.specs.Made.{IsMade}
use Rattle.pdl_buf.specs.declared.made.Made.{Made}
use Rattle.pdl_ops.specs.Elementwise.{OpRefusal, no_dims, zero_divisor, converted, elementwise, unary_each}

-- it is an array: as many elements as its dimensions say, all in its type's range
abbrev pub IsArray : Made → Type 0
IsArray m = IsMade m.ty m.dims m.elems

-- the form of an array: its type and its dimensions
abbrev pub form_of : Made → Ty × List ℕ
form_of m = (m.ty, m.dims)

-- the form of the array that an operator gives, or its refusal
abbrev pub form : Result Made OpRefusal → Result (Ty × List ℕ) OpRefusal
form (Ok m) = Ok (form_of m)
form (Err refusal) = Err refusal

-- it isn't refused for a divisor 0
abbrev pub IsUndivided : Result Made OpRefusal → Type 0
IsUndivided (Err (zero_divisor place)) = ⊥
IsUndivided (Err (no_dims refusal)) = Unit {0}
IsUndivided (Ok m) = Unit {0}

-- What an operator that doesn't divide gives, by the form of its operands alone: it is never
-- refused for a divisor 0, and operands of the same forms give the same form or are refused alike.
pub record FormLaws : Type 0 where
  pub undivided : (op : BinaryOp) (a b : Made) → divides op ≡ false → IsUndivided (elementwise op a b)
  pub alike : (op : BinaryOp) (a b c d : Made) → divides op ≡ false
      → form_of a ≡ form_of c → form_of b ≡ form_of d
      → form (elementwise op a b) ≡ form (elementwise op c d)

-- What is made of arrays is an array.
pub record ArrayLaws : Type 0 where
  pub unary : (op : UnaryOp) (a : Made) → IsArray a → IsArray (unary_each op a)
  pub convert : (ty : Ty) (a : Made) → IsArray a → IsArray (converted ty a)
  pub binary : (op : BinaryOp) (a b m : Made) → elementwise op a b ≡ Ok m → IsArray m
