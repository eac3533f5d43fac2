-- How much a statement moves at most: an assignment of a number or a list to an array that was
-- assigned to last, and a print.
use Rattle.std.specs.Prelude.{◌≡◌, ℕ, ◌+◌, ◌≤◌, Bool, true, false, List, [], length, Option, Some, None, Result, Ok, IfOk, IfSome}
use Rattle.pdl_shape.specs.Shape.{size_of}
use Rattle.pdl_world.specs.World.{dims_in}
use Rattle.pdl_engine.specs.Reading.{IsWarm, KeepsViews, read_steps}
use Rattle.pdl_engine.specs.State.{is_fresh}
use Rattle.pdl_syntax.specs.StatementTree.{StatementTree, assign, show}
use Rattle.pdl_syntax.specs.Tree.{Tree, number, named, literal}
use Rattle.pdl_machine.specs.Flows.{followers}
use Rattle.pdl_machine.specs.Names.{number_of}
use Rattle.pdl_machine.specs.State.{State, kept, with_world}
use Rattle.pdl_machine.specs.Step.{effect}
use Rattle.pdl_machine.specs.Tidy.{settled}
use Rattle.pdl_machine.specs.Watches.{attached}
use Rattle.pdl_scope.specs.declared.fault.ScopeFault.{ScopeFault}
use Rattle.pdl_scope.specs.Scope.{Scope, engine_of, machine, OnlyReads}

-- how many elements a number or a list has; nothing for any other expression
abbrev pub plain_count : Tree → Option ℕ
plain_count (number n) = Some 1
plain_count (literal ty ds es) = Some (length es)
plain_count _ = None

-- the array that is assigned to by a statement to a bare name; none by any other statement
abbrev pub warm_after : Scope → StatementTree → Option ℕ
warm_after s (assign x [] sign e) = number_of s.names x
warm_after s _ = None

-- after a statement that assigned to a bare name its array can be lent, if its base has no repeats;
-- after one that printed a bare name that array can be lent
abbrev pub LeavesReadable : StatementTree → (old new : Scope) → Type 0
LeavesReadable (assign x [] sign e) old new =
    IfSome (number_of old.names x) (IsWarm (engine_of new))
LeavesReadable (show (named x) false) old new =
    IfSome (number_of old.names x) (λ v. is_fresh (engine_of new) v ≡ true)
LeavesReadable _ old new = Unit {0}

-- What the value of a number or a list does: it takes at most a step for each of its elements,
-- makes no view, and gives an array that can be lent.
pub record MakesRoot (count : ℕ) (old new : Scope) (before after : ℕ) (r : Result ℕ ScopeFault)
    : Type 0 where
  pub counted : after ≤ before + count
  pub roots : KeepsViews new.arrays.world old.arrays.world
  pub fresh : IfOk r (λ v. is_fresh (engine_of new) v ≡ true)

-- what evaluating does where the expression is a name, a number or a list; a name changes nothing
abbrev pub EvaluatesPlainly : Tree → (old new : Scope) → (before after : ℕ) →
    Result ℕ ScopeFault → Type 0
EvaluatesPlainly (number n) old new before after r = MakesRoot 1 old new before after r
EvaluatesPlainly (literal ty ds es) old new before after r =
    MakesRoot (length es) old new before after r
EvaluatesPlainly (named x) old new before after r = (new ≡ old) × (after ≡ before)
EvaluatesPlainly _ old new before after r = Unit {0}

-- what a bare name as a target does: nothing, and it gives the name's array
pub record IsBare (x : List ℕ) (old new : Scope) (before after : ℕ) (r : Result ℕ ScopeFault)
    : Type 0 where
  pub same : new ≡ old
  pub unmoved : after ≡ before
  pub is : IfOk r (λ v. number_of old.names x ≡ Some v)

-- What an assignment of so many elements to a bare name does, whatever it answers: it makes no
-- view; and where the name's array can be lent, no slot is attached, and no flow reads an array of
-- its root, it takes at most a step for each element of both sides.
pub record AssignsPlainly (x : List ℕ) (count : ℕ) (old new : Scope) (before after : ℕ) : Type 0
  where
    pub counted :
        (v : ℕ) → number_of old.names x ≡ Some v → is_fresh (engine_of old) v ≡ true
        → attached old.watches ≡ []
        → followers old.arrays.world old.flows v ≡ []
        → after ≤ before + (size_of (dims_in old.arrays.world v) + count)
    pub roots : KeepsViews new.arrays.world old.arrays.world

-- What a print of a bare name does, whatever it answers: nothing changes but what can be lent, and
-- it takes at most the steps that make the name's array so.
pub record PrintsPlainly (x : List ℕ) (old new : Scope) (before after : ℕ) : Type 0 where
  pub counted :
      (v : ℕ) → number_of old.names x ≡ Some v → after ≤ before + read_steps (engine_of old) v
  pub reads : OnlyReads old new

-- what running a statement moves, whatever it answers, where its operands are plain
abbrev pub MovesPlainly : StatementTree → (old new : Scope) → (before after : ℕ) → Type 0
MovesPlainly (assign x [] sign e) old new before after =
    IfSome (plain_count e) (λ n. AssignsPlainly x n old new before after)
MovesPlainly (show (named x) false) old new before after = PrintsPlainly x old new before after
MovesPlainly _ old new before after = Unit {0}

-- A statement ran by the scope's own numbers of arrays, and then the flows and the arrays that
-- nothing reaches were let go.
pub record RunsInPlace (present : List Bool) (old : Scope) (statement : StatementTree)
    (new : Scope) : Type 0 where
  pub after : State × List ℕ
  pub is : effect present (machine old) statement ≡ Ok after
  pub left : machine new ≡ with_world (settled after.0) (kept after.0)
