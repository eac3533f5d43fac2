-- The arrays that come while expressions are evaluated, also where one is refused.
use Rattle.std.specs.Option.{option_map_or}
use Rattle.std.specs.Prelude.{ℕ, List, [], ◌∷◌, Result, Ok, Err}
use Rattle.pdl_syntax.specs.StatementTree.{flow}
use Rattle.pdl_syntax.specs.Tree.{Tree, Args, unary, binary, call, none, value, text, of_type}
use Rattle.pdl_machine.specs.declared.fault.Fault.{Fault}
use Rattle.pdl_machine.specs.Arrays.{Arrays}
use Rattle.pdl_machine.specs.Calls.{call_value}
use Rattle.pdl_machine.specs.Names.{Names, bound_to, number_of}
use Rattle.pdl_machine.specs.Outcome.{Given}
use Rattle.pdl_machine.specs.Step.{effect, several_bound, target_in}
use Rattle.pdl_machine.specs.Then.{and_then}
use Rattle.pdl_machine.specs.Value.{Taken, taken, value_of}
use Rattle.pdl_scope.specs.Costs.{arrays_after}
use Rattle.pdl_scope.specs.Scope.{Scope, machine}

-- the arrays that a next step leaves after a first one; where that one is refused, those that it
-- left
abbrev pub left_then : {T : Type 0} → Result (Arrays × T) Fault → (left : Arrays)
    → (Arrays → Arrays) → Arrays
left_then (Ok x) left next = next x.0
left_then (Err e) left next = left

-- the arrays once a value came; where it is refused, those that were left
abbrev pub came : {T : Type 0} → Result (Arrays × T) Fault → (left : Arrays) → Arrays
came x left = left_then x left (λ a. a)

abbrev mutual
  -- the arrays that an expression's parts leave where it is refused
  pub parts_left : Names → Arrays → Tree → Arrays
  parts_left names a (unary op e) = came (value_of names a e) (parts_left names a e)
  parts_left names a (binary op e f) =
      left_then (value_of names a e) (parts_left names a e) (λ b.
      came (value_of names b f) (parts_left names b f))
  parts_left names a (call f args) = came (taken names a args) (args_left names a args)
  parts_left names a _ = a

  -- those that arguments leave where one is refused
  pub args_left : Names → Arrays → Args → Arrays
  args_left names a none = a
  args_left names a (value front e) =
      left_then (taken names a front) (args_left names a front) (λ b.
      came (value_of names b e) (parts_left names b e))
  args_left names a (text front t) = args_left names a front
  args_left names a (of_type front ty) = args_left names a front

-- the arrays once an expression was evaluated as far as it can be
abbrev pub evaluated : Names → Arrays → Tree → Arrays
evaluated names a e = came (value_of names a e) (parts_left names a e)

-- and once arguments were
abbrev pub args_evaluated : Names → Arrays → Args → Arrays
args_evaluated names a args = came (taken names a args) (args_left names a args)

-- the arrays once both sides of an assignment were, its target first
abbrev pub sides_evaluated : Scope → (place value : Tree) → Arrays
sides_evaluated s place e =
    left_then (target_in (machine s) place) (evaluated s.names s.arrays place) (λ b.
    evaluated s.names b e)

-- the arrays once a flow's root came
abbrev pub flow_came : Scope → (name : List ℕ) → (formula : Tree) → Arrays
flow_came s x e = arrays_after (effect [] (machine s) (flow x e)) (evaluated s.names s.arrays e)

-- the arrays of a call whose outputs weren't bound: where one name is given, its value came
abbrev pub unbound : Names → (bound : List (List ℕ)) → (callee : List ℕ) → Arrays × List Given
    → Arrays
unbound names (x ∷ []) f t = came (call_value names f t.0 t.1) t.0
unbound names xs f t = t.0

abbrev pub unbound_by : Names → (bound : List (List ℕ)) → (callee : List ℕ) → Taken
    → (left : Arrays) → Arrays
unbound_by names xs f (Ok t) left = unbound names xs f t
unbound_by names xs f (Err e) left = left

-- those that a list binding leaves where it is refused
abbrev pub list_left : Scope → (bound : List (List ℕ)) → Tree → Arrays
list_left s xs (call f args) =
    unbound_by s.names xs f (taken s.names s.arrays args) (args_left s.names s.arrays args)
list_left s xs _ = s.arrays

-- the arrays once the outputs of a call came
abbrev pub list_came : Scope → (bound : List (List ℕ)) → Tree → Arrays
list_came s xs e = arrays_after (several_bound (machine s) xs e) (list_left s xs e)

-- the arguments that give the sizes of a name's array, or that the name is unknown
abbrev pub sizes_taken : Scope → (name : List ℕ) → Args → Taken
sizes_taken s x args = and_then (bound_to s.names x) (λ v. taken s.names s.arrays args)

-- the arrays once they came
abbrev pub sizes_came : Scope → (name : List ℕ) → Args → Arrays
sizes_came s x args =
    came (sizes_taken s x args)
    (option_map_or (λ v. args_left s.names s.arrays args) (number_of s.names x) s.arrays)
