-- What the calls within an evaluation give, and the steps before and after each.
use Rattle.std.specs.Prelude.{◌≡◌, ℕ, ◌+◌, ◌≤◌, Result, IfOk, OnOk}
use Rattle.pdl_numbers.specs.Typed.{count_moved}
use Rattle.pdl_buf.specs.declared.made.Made.{Made}
use Rattle.pdl_ops.specs.declared.OpFault.{OpFault}
use Rattle.pdl_ops.specs.Answers.{Answers}
use Rattle.pdl_ops.specs.Elementwise.{OpRefusal, converted, unary_each}
use Rattle.pdl_ops.specs.Laws.{IsArray}
use Rattle.pdl_flow.specs.declared.operand.Change.{Change}
use Rattle.pdl_flow.specs.declared.operand.Change.TheVariants.{Operator, Convert}
use Rattle.pdl_flow.specs.declared.operand.Part.{Part}
use Rattle.pdl_flow.specs.declared.operand.Part.TheVariants.{Lent, Own}
use Rattle.pdl_flow.specs.Formula.{FormulaTree}
use Rattle.pdl_flow.specs.Meaning.{meaning}
use Rattle.pdl_flow.specs.Steps.{moved_in, steps_in}

-- the array that a part of a formula is
abbrev pub seen : Part → Made
seen (Lent k) = k.now
seen (Own m) = m

-- the steps in which it becomes an operand
abbrev pub moved_by : Part → ℕ
moved_by (Lent k) = 0
moved_by (Own m) = count_moved m.elems

-- a call answers what is wanted, an array as it is seen or what refuses it, and takes so many steps,
-- or at most that many where it answers a fault
pub record IsAnswered {A : Type 0} (seen : A → Made) (wanted : Result Made OpRefusal)
    (steps old new : ℕ) (result : Result A OpFault) : Type 0 where
  pub answers : Answers seen wanted result
  pub made : IfOk result (λ a. IsArray (seen a))
  pub counted : OnOk result (new ≡ old + steps)
  pub at_most : new ≤ old + steps

-- a part of a formula was evaluated
pub record IsEvaluated (value : ℕ → Made) (f : FormulaTree) (old new : ℕ)
    (result : Result Part OpFault) : Type 0 where
  pub answered : IsAnswered seen (meaning value f) (steps_in value f) old new result
  pub moved : IfOk result (λ p. moved_by p ≡ moved_in value f)

-- an array, changed at each element
abbrev pub changed : Change → Made → Made
changed (Operator op) a = unary_each op a
changed (Convert ty) a = converted ty a
