-- What the evaluation of a formula moves.
use Rattle.std.specs.Prelude.{ℕ, ◌+◌, Result, Ok, Err}
use Rattle.pdl_numbers.specs.Typed.{count_moved}
use Rattle.pdl_buf.specs.declared.made.Made.{Made}
use Rattle.pdl_ops.specs.Elementwise.{OpRefusal}
use Rattle.pdl_flow.specs.Formula.{FormulaTree, number, array, unary, binary, convert}
use Rattle.pdl_flow.specs.Meaning.{meaning}

-- how many elements of an array aren't 0; none where there is no array
abbrev pub moved_of : Result Made OpRefusal → ℕ
moved_of (Ok m) = count_moved m.elems
moved_of (Err refusal) = 0

-- what the operand moves that is this part of a formula: an array that is read is lent, and what was
-- made is put into a buffer, which takes a step for each of its elements that isn't 0
abbrev pub moved_in : (value : ℕ → Made) → FormulaTree → ℕ
moved_in value (array k) = 0
moved_in value f = moved_of (meaning value f)

-- the steps of each operator and of each conversion: those of its operands, and what these move
abbrev pub steps_in : (value : ℕ → Made) → FormulaTree → ℕ
steps_in value (number ty z) = 0
steps_in value (array k) = 0
steps_in value (unary op f) = steps_in value f + moved_in value f
steps_in value (convert ty f) = steps_in value f + moved_in value f
steps_in value (binary op f g) =
    (steps_in value f + moved_in value f) + (steps_in value g + moved_in value g)
