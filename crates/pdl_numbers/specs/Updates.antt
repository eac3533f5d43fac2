-- Numbers that an operator and one number change where they stand (PDL::Ops, assignment operators).
use Rattle.std.specs.Prelude.{◌≡◌, ◌≢◌, ◌<◌, ℕ, ℤ, pos, IsTrue, List, [], ◌∷◌, Option}
use Rattle.pdl_elem.specs.declared.BinaryOp.{BinaryOp}
use Rattle.pdl_elem.specs.declared.Ty.{Ty}
use Rattle.pdl_elem.specs.Operators.{divides, value_of}
use Rattle.pdl_elem.specs.Types.{InRange}
use Rattle.pdl_shape.specs.Places.{element_at, put}
use Rattle.pdl_shape.specs.Shape.{size_of}
use Rattle.pdl_shape.specs.Triple.{Triple}
use Rattle.pdl_numbers.specs.Bytes.{bytes_of, number_of}
use Rattle.pdl_numbers.specs.Shown.{place_at}
use Rattle.pdl_numbers.specs.declared.updates.Update.{Update}

-- the operator's value on a number and this one, which stands on the right
abbrev pub value_with : BinaryOp → Ty → (right : ℤ) → (left : ℤ) → ℤ
value_with op ty n x = value_of op ty x n

-- and in bytes
abbrev pub cell_with : BinaryOp → Ty → (right : ℤ) → List ℕ → List ℕ
cell_with op ty n bytes = bytes_of ty (value_with op ty n (number_of ty bytes))

-- what an update makes of a number of the type
abbrev pub updated : Ty → Update → ℤ → ℤ
updated ty u = value_with u.op ty u.number

-- the update's number is one of the type, and no divisor 0
pub record Suits (ty : Ty) (u : Update) : Type 0 where
  pub number : InRange ty u.number
  pub divisor : IsTrue (divides u.op) → u.number ≢ pos 0

-- the elements after the one at each of the places in turn became what a function makes of it
abbrev pub change : (ℤ → ℤ) → List (Option ℕ) → List ℤ → List ℤ
change f [] es = es
change f (p ∷ ps) es = change f ps (put p (f (element_at es p)) es)

-- no two positions of a triple have one place
abbrev pub ShowsOnce : Triple → Type 0
ShowsOnce t = (p q : ℕ) → p < q → q < size_of t.dims → place_at t p ≡ place_at t q → ⊥
