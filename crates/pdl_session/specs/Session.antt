-- What a session is seen as.
use Rattle.std.specs.Prelude.{◌≡◌, ℕ, ◌+◌, ◌≤◌, true, false, List, [], Option, Some, None, IfSome}
use Rattle.pdl_shape.specs.Shape.{size_of}
use Rattle.pdl_world.specs.Sound.{IsLive}
use Rattle.pdl_world.specs.Windows.{base}
use Rattle.pdl_world.specs.World.{dims_in, has_repeats, places_in}
use Rattle.pdl_engine.specs.Reading.{IsWarm, read_steps}
use Rattle.pdl_engine.specs.State.{is_fresh, no_arrays}
use Rattle.pdl_lexemes.specs.declared.AssignOp.{AssignOp}
use Rattle.pdl_syntax.specs.StatementTree.{StatementTree, assign, show}
use Rattle.pdl_syntax.specs.Tree.{Tree, named}
use Rattle.pdl_machine.specs.Flows.{followers}
use Rattle.pdl_machine.specs.Names.{nothing_named, number_of}
use Rattle.pdl_machine.specs.Dumpable.{IsSpelled}
use Rattle.pdl_machine.specs.State.{State, no_names, IsSwept}
use Rattle.pdl_machine.specs.Tidy.{tidy}
use Rattle.pdl_machine.specs.Watches.{attached}
use Rattle.pdl_scope.specs.Scope.{Scope, engine_of, machine, scope_in}
use Rattle.pdl_session.specs.Bounds.{plain_count}

-- What is seen of a session: the machine's state; the scope, in which arrays have the engine's
-- numbers, with what the engine can lend; the array that the last statement assigned to by a bare
-- name, if it did; and how many calls of `step` there were. The count stands still at 2^64 - 1.
pub record Session : Type 0 where
  pub state : State
  pub scope : Scope
  pub warm : Option ℕ
  pub done : ℕ

-- a session before its first step
abbrev pub no_steps : Session
no_steps = record {
  state = no_names;
  scope = scope_in nothing_named [] [] no_arrays;
  warm = None;
  done = 0;
}

-- the array is there, and can be lent if its base has no repeats
abbrev pub IsKeptWarm : Scope → ℕ → Type 0
IsKeptWarm s v = IsLive s.arrays.world v × IsWarm (engine_of s) v

-- Between two statements: no array is left over, a script can spell the state, and the array that
-- was assigned to last is there and can be lent, if its base has no repeats.
pub record IsAtRest (s : Scope) (warm : Option ℕ) : Type 0 where
  pub swept : IsSwept (machine s)
  pub spelled : IsSpelled (tidy (machine s))
  pub kept_warm : IfSome warm (IsKeptWarm s)

-- A statement that was refused left names, arrays, slots and flows as they were, by the scope's own
-- numbers; and each array that could be lent can be lent still.
pub record IsAsBefore (old new : Scope) : Type 0 where
  pub names : new.names ≡ old.names
  pub world : new.arrays.world ≡ old.arrays.world
  pub watches : new.watches ≡ old.watches
  pub flows : new.flows ≡ old.flows
  pub lent : (v : ℕ) → IsLive old.arrays.world v → is_fresh (engine_of old) v ≡ true
      → is_fresh (engine_of new) v ≡ true

-- A number or a list is assigned once more to the bare name of the array that was assigned to last.
-- Where its base has no repeats, no slot is attached, and no flow reads an array of its root, at
-- most as many elements are moved as both sides have together.
abbrev pub AssignsAgain : Session → StatementTree → (before after : ℕ) → Type 0
AssignsAgain s statement before after =
    (x : List ℕ) (sign : AssignOp) (e : Tree) (v n : ℕ)
    → statement ≡ assign x [] sign e → plain_count e ≡ Some n
    → number_of s.scope.names x ≡ Some v → s.warm ≡ Some v
    → has_repeats (places_in s.scope.arrays.world (base s.scope.arrays.world v)) ≡ false
    → attached s.scope.watches ≡ []
    → followers s.scope.arrays.world s.scope.flows v ≡ []
    → after ≤ before + (size_of (dims_in s.scope.arrays.world v) + n)

-- A bare name is printed. At most as many elements are moved as it takes to read its array: none
-- where the array can be lent.
abbrev pub PrintsAtMost : Session → StatementTree → (before after : ℕ) → Type 0
PrintsAtMost s statement before after =
    (x : List ℕ) (v : ℕ) → statement ≡ show (named x) false
    → number_of s.scope.names x ≡ Some v
    → after ≤ before + read_steps (engine_of s.scope) v
