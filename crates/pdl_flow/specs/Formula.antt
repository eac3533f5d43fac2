-- Formulas over arrays, as trees (PDL::Ops, PDL::Core on conversions).
use Rattle.std.specs.Prelude.{◌≡◌, ℕ, ℤ, List, [], ◌∷◌, ◌++◌, false}
use Rattle.pdl_elem.specs.declared.Ty.{Ty}
use Rattle.pdl_elem.specs.declared.UnaryOp.{UnaryOp}
use Rattle.pdl_elem.specs.declared.BinaryOp.{BinaryOp}
use Rattle.pdl_elem.specs.Operators.{divides}
use Rattle.pdl_elem.specs.Types.{InRange}
use Rattle.pdl_flow.specs.declared.formula.Formula.{Formula, Number, Array, Unary', Binary', Convert'}

-- a number of a type, an array by its number, an operator, or a conversion to a type
pub data FormulaTree : Type 0 where
  number : (ty : Ty) (value : ℤ) → FormulaTree
  array : (number : ℕ) → FormulaTree
  unary : (op : UnaryOp) → FormulaTree → FormulaTree
  binary : (op : BinaryOp) → (left right : FormulaTree) → FormulaTree
  convert : (ty : Ty) → FormulaTree → FormulaTree

-- a formula without the boxes of its operands
abbrev pub tree_of : Formula → FormulaTree
tree_of (Number ty z) = number ty z
tree_of (Array k) = array k
tree_of (Unary' op p f) = unary op (tree_of f)
tree_of (Binary' op p f q g) = binary op (tree_of f) (tree_of g)
tree_of (Convert' ty p f) = convert ty (tree_of f)

-- the numbers of the arrays that a formula reads, in the order of its text
abbrev pub arrays_in : FormulaTree → List ℕ
arrays_in (number ty z) = []
arrays_in (array k) = k ∷ []
arrays_in (unary op f) = arrays_in f
arrays_in (binary op f g) = arrays_in f ++ arrays_in g
arrays_in (convert ty f) = arrays_in f

-- no operator of it divides, and each number is in its type's range
abbrev pub IsFormula : FormulaTree → Type 0
IsFormula (number ty z) = InRange ty z
IsFormula (array k) = Unit {0}
IsFormula (unary op f) = IsFormula f
IsFormula (binary op f g) = (divides op ≡ false) × IsFormula f × IsFormula g
IsFormula (convert ty f) = IsFormula f
