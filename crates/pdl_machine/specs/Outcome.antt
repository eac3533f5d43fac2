-- What a call sees and what it gives, without numbers of arrays; and how that joins the arrays.
use Rattle.std.specs.Prelude.{ℕ, List, [], ◌∷◌, Option, Some, None, Result, Ok, Err}
use Rattle.pdl_elem.specs.declared.Ty.{Ty}
use Rattle.pdl_buf.specs.declared.made.Made.{Made}
use Rattle.pdl_world.specs.declared.Trans.{Trans}
use Rattle.pdl_world.specs.Refused.{NoView, view_refusal}
use Rattle.pdl_world.specs.World.{root, view}
use Rattle.pdl_machine.specs.declared.fault.Fault.{Fault}
use Rattle.pdl_machine.specs.declared.fault.Fault.TheVariants.{WrongArguments}
use Rattle.pdl_machine.specs.Refused.{view_fault}
use Rattle.pdl_machine.specs.Arrays.{Arrays, with_new, array_in}

-- An argument that was evaluated: an array, a string, or a type word.
pub data Argument (A : Type 0) : Type 0 where
  array : A → Argument A
  string : List ℕ → Argument A
  type_word : Ty → Argument A

-- an argument by its array's number
abbrev pub Given : Type 0
Given = Argument ℕ

-- an argument by what its array holds
abbrev pub Seen : Type 0
Seen = Argument Made

abbrev pub seen : Arrays → Given → Seen
seen a (array v) = array (array_in a v)
seen a (string t) = string t
seen a (type_word ty) = type_word ty

-- what a call sees of its arguments
abbrev pub all_seen : Arrays → List Given → List Seen
all_seen a [] = []
all_seen a (g ∷ given) = seen a g ∷ all_seen a given

-- What a call gives: a new array, or a view of its first argument.
pub data Outcome : Type 0 where
  made : Made → Outcome
  viewed : Trans → Outcome

-- a value with the arrays that are there then; or the first fault
abbrev pub Valued : Type 0
Valued = Result (Arrays × ℕ) Fault

abbrev pub new_view : Arrays → (parent : ℕ) → Trans → Option NoView → Valued
new_view a v t (Some reason) = Err (view_fault reason)
new_view a v t None = Ok (with_new a (view v t))

-- a new view of the array that stands first, unless a rule of views refuses it
abbrev pub view_placed : Arrays → List Given → Trans → Valued
view_placed a (array v ∷ given) t = new_view a v t (view_refusal a.world v t)
view_placed a _ t = Err WrongArguments

abbrev pub new_root : Arrays → Made → Valued
new_root a m = Ok (with_new a (root m.ty m.dims m.elems))

-- what a call gives for these arguments, put among the arrays
abbrev pub placed : Arrays → List Given → Result Outcome Fault → Valued
placed a given (Err e) = Err e
placed a given (Ok (made m)) = new_root a m
placed a given (Ok (viewed t)) = view_placed a given t
