-- The value of an expression, by recursion on it: from left to right, arguments before the call.
use Rattle.std.specs.Prelude.{ℕ, ℤ, List, [], ◌∷◌, ◌++◌, Option, Result, Ok}
use Rattle.pdl_lexemes.specs.Lists.{type_of}
use Rattle.pdl_buf.specs.declared.made.Made.{Made}
use Rattle.pdl_syntax.specs.Tree.{Tree, Args, number, named, literal, unary, binary, call, none, value, text, of_type}
use Rattle.pdl_machine.specs.declared.fault.Fault.{Fault}
use Rattle.pdl_machine.specs.declared.fault.Fault.TheVariants.{UnknownName}
use Rattle.pdl_machine.specs.Then.{and_then, or_fault}
use Rattle.pdl_machine.specs.Arrays.{Arrays, array_in}
use Rattle.pdl_machine.specs.Names.{Names, number_of}
use Rattle.pdl_machine.specs.Outcome.{array, string, type_word, Given, Valued, new_root}
use Rattle.pdl_ops.specs.Elementwise.{unary_each}
use Rattle.pdl_machine.specs.Operators.{binary_each}
use Rattle.pdl_machine.specs.State.{State}
use Rattle.pdl_machine.specs.Calls.{call_value}

-- the arguments that were evaluated, with the arrays that are there then; or the first fault
abbrev pub Taken : Type 0
Taken = Result (Arrays × List Given) Fault

-- a number as an array without dimensions: long where it is at most 2147483647, else longlong
abbrev pub number_made : ℤ → Made
number_made n = record { ty = type_of (n ∷ []); dims = []; elems = n ∷ [] }

-- the array of a name
abbrev pub known : Arrays → Option ℕ → Valued
known a bound = and_then (or_fault UnknownName bound) (λ v. Ok (a, v))

abbrev mutual
  -- the value of an expression
  pub value_of : Names → Arrays → Tree → Valued
  value_of names a (number n) = new_root a (number_made n)
  value_of names a (named x) = known a (number_of names x)
  value_of names a (literal ty ds es) = new_root a (record { ty = ty; dims = ds; elems = es })
  value_of names a (unary op e) =
      and_then (value_of names a e) (λ v. new_root v.0 (unary_each op (array_in v.0 v.1)))
  value_of names a (binary op e f) =
      and_then (value_of names a e) (λ v.
      and_then (value_of names v.0 f) (λ u.
      and_then (binary_each op (array_in u.0 v.1) (array_in u.0 u.1)) (new_root u.0)))
  value_of names a (call f args) = and_then (taken names a args) (λ t. call_value names f t.0 t.1)

  -- the arguments of a call
  pub taken : Names → Arrays → Args → Taken
  taken names a none = Ok (a, [])
  taken names a (value front e) =
      and_then (taken names a front) (λ t. and_then (value_of names t.0 e) (λ v.
      Ok (v.0, t.1 ++ array v.1 ∷ [])))
  taken names a (text front t) = and_then (taken names a front) (λ g.
      Ok (g.0, g.1 ++ string t ∷ []))
  taken names a (of_type front ty) = and_then (taken names a front) (λ g.
      Ok (g.0, g.1 ++ type_word ty ∷ []))

-- the value of an expression in a state
abbrev pub value_in : State → Tree → Valued
value_in s e = value_of s.names s.arrays e
