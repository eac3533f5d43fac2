-- What stands in the place of a formula's arrays.
use Rattle.std.specs.Prelude.{ℕ, List, [], ◌∷◌, ◌==◌, All, Option, Some, None, IsSomeAnd, if◌then◌else◌}
use Rattle.pdl_elem.specs.declared.Ty.TheVariants.{Byte}
use Rattle.pdl_buf.specs.declared.made.Made.{Made}
use Rattle.pdl_ops.specs.Laws.{IsArray}
use Rattle.pdl_flow.specs.declared.formula.Value.{Value}
use Rattle.pdl_flow.specs.declared.formula.Value.TheVariants.{Own, Lent}
use Rattle.pdl_flow.specs.Formula.{FormulaTree, arrays_in}

-- The number of an array, and what the array is.
pub record Given : Type 0 where
  pub array : ℕ
  pub value : Made

-- an array that is kept
abbrev pub held : Value → Made
held (Own k) = k
held (Lent k) = k.now

-- the value of the first input of an array
abbrev pub input_of : List Given → ℕ → Option Made
input_of [] k = None
input_of (i ∷ is) k = if i.array == k then Some i.value else input_of is k

abbrev pub made_or : Option Made → Made
made_or (Some m) = m
made_or None = record { ty = Byte; dims = []; elems = [] }

-- the value of an array by its first input; there is no telling what an array without one has
abbrev pub value_in : List Given → ℕ → Made
value_in inputs k = made_or (input_of inputs k)

-- each array of a formula has an input
abbrev pub AreInputs : List Given → FormulaTree → Type 0
AreInputs inputs f = All (λ k. IsSomeAnd (input_of inputs k) IsArray) (arrays_in f)
