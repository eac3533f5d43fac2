-- What holds of all numbers that are wrapped, and of what operators give.
use Rattle.std.specs.Prelude.{◌≡◌, ◌<◌, ℕ, ℤ, pos, ◌+ℤ◌, ◌*ℤ◌, List, length, get_or, All}
use Rattle.std.specs.Int.{int_wrap, w64}
use Rattle.pdl_elem.specs.declared.Ty.{Ty}
use Rattle.pdl_elem.specs.declared.Ty.TheVariants.{Longlong}
use Rattle.pdl_elem.specs.declared.BinaryOp.{BinaryOp}
use Rattle.pdl_elem.specs.declared.UnaryOp.{UnaryOp}
use Rattle.pdl_elem.specs.Types.{InRange, lowest, unary_result, binary_result}
use Rattle.pdl_elem.specs.Numbers.{wrapped}
use Rattle.pdl_elem.specs.Operators.{unary_value, value_of}
use Rattle.pdl_elem.specs.Blocks.{pairwise}

-- A wrapped number is in the type's range, and one that is in the range already stays as it
-- is. To wrap at 64 bits first changes nothing, so what is computed in machine words may be
-- wrapped to the type late. 0 is a number of each type, each number of a type is one of longlong,
-- and the lowest of longlong is one of longlong alone.
pub record WrappingLaws : Type 0 where
  pub in_range : (t : Ty) (n : ℤ) → InRange t (wrapped t n)
  pub same : (t : Ty) (n : ℤ) → InRange t n → wrapped t n ≡ n
  pub late : (t : Ty) (n : ℤ) → wrapped t (int_wrap w64 n) ≡ wrapped t n
  pub zero : (t : Ty) → InRange t (pos 0)
  pub widest : (t : Ty) (n : ℤ) → InRange t n → InRange Longlong n
  pub least : (t : Ty) → InRange t (lowest Longlong) → t ≡ Longlong

-- A number may be wrapped before another one is added to it, or before it is multiplied by another one:
-- what comes of that is wrapped to the same number.
pub record CongruenceLaws : Type 0 where
  pub sum : (t : Ty) (a b : ℤ) → wrapped t (wrapped t a +ℤ b) ≡ wrapped t (a +ℤ b)
  pub product : (t : Ty) (a b : ℤ) → wrapped t (wrapped t a *ℤ b) ≡ wrapped t (a *ℤ b)

-- What an operator gives is a number of the type of its result.
pub record OperatorLaws : Type 0 where
  pub unary : (op : UnaryOp) (t : Ty) (a : ℤ) → InRange (unary_result op t) (unary_value op t a)
  pub binary : (op : BinaryOp) (t : Ty) (a b : ℤ) → InRange (binary_result op t t) (value_of op t a b)

-- Of two lists of one length a function gives as many numbers, each of the two at its place; and what
-- an operator gives is of the type that it works at.
pub record BlockLaws : Type 0 where
  pub as_many : (f : ℤ → ℤ → ℤ) (xs ys : List ℤ) → length ys ≡ length xs
      → length (pairwise f xs ys) ≡ length xs
  pub at : (f : ℤ → ℤ → ℤ) (xs ys : List ℤ) (i : ℕ) → length ys ≡ length xs → i < length xs
      → get_or (pairwise f xs ys) i (pos 0) ≡ f (get_or xs i (pos 0)) (get_or ys i (pos 0))
  pub in_range : (op : BinaryOp) (t : Ty) (xs ys : List ℤ)
      → All (InRange t) (pairwise (value_of op t) xs ys)
