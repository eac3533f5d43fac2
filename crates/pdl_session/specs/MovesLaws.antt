-- What the bound of a statement says where no view goes, and of a print of what is ready.
use Rattle.std.specs.Prelude.{◌≡◌, ℕ, ◌≤◌, Bool, List, Some, Ok}
use Rattle.pdl_syntax.specs.StatementTree.{StatementTree, show}
use Rattle.pdl_syntax.specs.Tree.{named}
use Rattle.pdl_engine.specs.Reading.{KeepsViews}
use Rattle.pdl_engine.specs.State.{ready_steps}
use Rattle.pdl_machine.specs.Names.{number_of}
use Rattle.pdl_machine.specs.State.{State, IsSwept, kept}
use Rattle.pdl_machine.specs.Step.{effect}
use Rattle.pdl_scope.specs.Scope.{Scope, engine_of, machine}
use Rattle.pdl_session.specs.Statements.{MovesAtMost, MovesByForm}

-- a statement that ran, after which no view goes, moves at most what its form says
abbrev pub KeptViewsCostNothing : Type 0
KeptViewsCostNothing =
    (present : List Bool) (statement : StatementTree) (old new : Scope) (before after : ℕ)
    (to : State) (text : List ℕ) → MovesAtMost present statement old new before after (Ok tt)
    → effect present (machine old) statement ≡ Ok (to, text)
    → KeepsViews to.arrays.world (kept to)
    → MovesByForm statement old before after

-- a print of a bare name whose array is ready, and of its info, moves nothing
abbrev pub ReadyPrintsMoveNothing : Type 0
ReadyPrintsMoveNothing =
    (present : List Bool) (x : List ℕ) (is_info : Bool) (v : ℕ) (old new : Scope)
    (before after : ℕ) → IsSwept (machine old)
    → MovesAtMost present (show (named x) is_info) old new before after (Ok tt)
    → number_of old.names x ≡ Some v → ready_steps (engine_of old) v ≡ 0
    → after ≤ before
