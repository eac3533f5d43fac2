-- What a formula is of the arrays that it reads.
use Rattle.std.specs.Prelude.{ℕ, [], ◌∷◌, Result, Ok, Err}
use Rattle.pdl_buf.specs.declared.made.Made.{Made}
use Rattle.pdl_ops.specs.Elementwise.{OpRefusal, converted, elementwise, unary_each}
use Rattle.pdl_flow.specs.Formula.{FormulaTree, number, array, unary, binary, convert}

abbrev pub and_then : Result Made OpRefusal → (Made → Result Made OpRefusal)
    → Result Made OpRefusal
and_then (Ok m) f = f m
and_then (Err refusal) f = Err refusal

-- the array that a formula is, where each array that it reads has this value; or the first
-- refusal, that of a left operand before that of a right one
abbrev pub meaning : (value : ℕ → Made) → FormulaTree → Result Made OpRefusal
meaning value (number ty z) = Ok (record { ty = ty; dims = []; elems = z ∷ [] })
meaning value (array k) = Ok (value k)
meaning value (unary op f) = and_then (meaning value f) (λ a. Ok (unary_each op a))
meaning value (convert ty f) = and_then (meaning value f) (λ a. Ok (converted ty a))
meaning value (binary op f g) =
    and_then (meaning value f) (λ a. and_then (meaning value g) (λ b. elementwise op a b))
