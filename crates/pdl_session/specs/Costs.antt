-- What calls and expressions move at most.
use Rattle.std.specs.Option.{option_map_or}
use Rattle.std.specs.Prelude.{ℕ, ◌+◌, ◌≤◌, Bool, true, false, if◌then◌else◌, List, [], ◌∷◌, drop, Result, Ok, Err}
use Rattle.pdl_engine.specs.Reading.{read_steps}
use Rattle.pdl_engine.specs.State.{ready_steps}
use Rattle.pdl_syntax.specs.Tree.{Tree, Args, number, named, literal, unary, binary, call, none, value, text, of_type}
use Rattle.pdl_machine.specs.declared.builtin.Builtin.{Builtin}
use Rattle.pdl_machine.specs.declared.builtin.Builtin.TheVariants.{Told, Dim, Slice, Nice, Arranged, Index, Where, Range}
use Rattle.pdl_machine.specs.declared.builtin.Inquiry.{Inquiry}
use Rattle.pdl_machine.specs.declared.builtin.Inquiry.TheVariants.{Nelem, Ndims, Shape}
use Rattle.pdl_machine.specs.Arrays.{Arrays}
use Rattle.pdl_machine.specs.Names.{number_of}
use Rattle.pdl_scope.specs.declared.fault.ScopeFault.{ScopeFault}
use Rattle.pdl_scope.specs.Costs.{MovesUpTo, total_size}
use Rattle.pdl_scope.specs.Scope.{Scope, engine_of}
use Rattle.pdl_session.specs.declared.given.Given.{Given}
use Rattle.pdl_session.specs.declared.given.Given.TheVariants.{Array}

-- what an argument takes, if each array takes so much
abbrev pub given_steps : (ℕ → ℕ) → Given → ℕ
given_steps f (Array v) = f v
given_steps f _ = 0

-- and what all of these take
abbrev pub all_steps : (ℕ → ℕ) → List Given → ℕ
all_steps f [] = 0
all_steps f (g ∷ given) = given_steps f g + all_steps f given

-- the most steps that it takes to read an argument, and to read all of these
abbrev pub read_one : Scope → Given → ℕ
read_one s g = given_steps (read_steps (engine_of s)) g

abbrev pub read_all : Scope → List Given → ℕ
read_all s given = all_steps (read_steps (engine_of s)) given

-- and to make the arrays among them ready
abbrev pub ready_all : Scope → List Given → ℕ
ready_all s given = all_steps (ready_steps (engine_of s)) given

-- whether a call that takes one array reads its elements
abbrev pub reads_elements : Inquiry → Bool
reads_elements Nelem = false
reads_elements Ndims = false
reads_elements Shape = false
reads_elements _ = true

-- whether a built-in call reads its first argument: a view word and a call for sizes don't
abbrev pub reads_first : Builtin → Bool
reads_first (Told inquiry) = reads_elements inquiry
reads_first Dim = false
reads_first Slice = false
reads_first Nice = false
reads_first (Arranged word) = false
reads_first Index = false
reads_first Where = false
reads_first Range = false
reads_first _ = true

-- the most steps that it takes to read what a built-in call reads
abbrev pub read_by : Scope → Builtin → List Given → ℕ
read_by s b given = read_all s (if reads_first b then given else drop 1 given)

abbrev mutual
  -- the most steps that it takes to make the arrays ready whose names stand in an expression, each
  -- once for each place at which it stands
  pub named_steps : Scope → Tree → ℕ
  named_steps s (number n) = 0
  named_steps s (named x) = option_map_or (ready_steps (engine_of s)) (number_of s.names x) 0
  named_steps s (literal ty ds es) = 0
  named_steps s (unary op a) = named_steps s a
  named_steps s (binary op a b) = named_steps s a + named_steps s b
  named_steps s (call f args) = argued_steps s args

  -- in the arguments of a call
  pub argued_steps : Scope → Args → ℕ
  argued_steps s none = 0
  argued_steps s (value front a) = argued_steps s front + named_steps s a
  argued_steps s (text front t) = argued_steps s front
  argued_steps s (of_type front ty) = argued_steps s front

-- It takes at most a step for each element that moves for the arrays that came, and so many besides:
-- these pay also what the answer will take. Where a fault refuses it, the arrays count that came until
-- then, and where memory ran out those that were to come.
abbrev pub PaysWithin : {T : Type 0} → (owed : T → ℕ) → (most : ℕ) → (old new : Scope)
    → (late : Arrays) → (before after : ℕ) → Result T ScopeFault → Type 0
PaysWithin owed most old new late before after (Ok x) =
    after + owed x + total_size old.arrays.world ≤ before + total_size new.arrays.world + most
PaysWithin owed most old new late before after (Err e) = MovesUpTo most old late before after

-- so of an expression, whose array is to be made ready
abbrev pub EvaluatesWithin : (most : ℕ) → (old new : Scope) → (late : Arrays)
    → (before after : ℕ) → Result ℕ ScopeFault → Type 0
EvaluatesWithin most old new late before after r =
    PaysWithin (ready_steps (engine_of new)) most old new late before after r
