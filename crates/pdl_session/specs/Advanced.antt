-- What a statement has done by the time that watchers hear of it.
use Rattle.std.specs.Prelude.{◌≡◌, ℕ, ◌+◌, List, ◌++◌, Bool, min, IfErr, IfOk, OnErr, OnOk, Result, Ok}
use Rattle.pdl_syntax.specs.StatementTree.{StatementTree}
use Rattle.pdl_watch.specs.Slots.{IsQuiet, present_in}
use Rattle.pdl_machine.specs.Following.{AreFlows}
use Rattle.pdl_machine.specs.Laws.{Assigns}
use Rattle.pdl_machine.specs.State.{State}
use Rattle.pdl_machine.specs.Step.{Done, step, left as left_by}
use Rattle.pdl_scope.specs.Answers.{IfScript, IsFault}
use Rattle.pdl_scope.specs.declared.fault.ScopeFault.{ScopeFault}
use Rattle.pdl_session.specs.declared.news.News.{News}
use Rattle.pdl_session.specs.Bounds.{LeavesReadable, RunsInPlace, warm_after}
use Rattle.pdl_session.specs.Evaluations.{RunsAtMost}
use Rattle.pdl_session.specs.Faults.{ending}
use Rattle.pdl_session.specs.News.{IsNewsOf}
use Rattle.pdl_session.specs.Session.{AssignsAgain, IsAsBefore, PrintsAtMost}
use Rattle.pdl_session.specs.Statements.{MovesAtMost}
use Rattle.pdl_session.specs.Steps.{Moment, step_from}

-- The step of this number was done but for the watchers: its state is the new one, its text was
-- added, and what watchers are to hear is the news of it.
pub record HasAdvanced (number : ℕ) (present : List Bool) (old new : State)
    (statement : StatementTree) (old_out new_out : List ℕ) (news : News) : Type 0 where
  pub done : Done
  pub is : step number present old statement ≡ Ok done
  pub state : new ≡ done.state
  pub printed : new_out ≡ old_out ++ done.text
  pub left : done.present ≡ left_by present statement
  pub news_of : IsNewsOf statement done.told news
  pub quiet : (Assigns statement → ⊥) → IsQuiet done.told

-- The statement of this number was run in a session and what nothing reaches was let go, or it was
-- refused; no watcher has heard of it.
pub record Advances (number : ℕ) (statement : StatementTree) (old new : Moment)
    (r : Result News ScopeFault) : Type 0 where
  pub ok : IfOk r (HasAdvanced number (present_in old.slots) old.session.state new.session.state
      statement old.out new.out)
  pub fault : IfErr r (IsFault (step_from number statement old))
  pub kept : OnErr r (new.session.state ≡ old.session.state)
  pub unprinted : OnErr r (new.out ≡ old.out)
  pub numbered : new.session.done ≡ min (old.session.done + 1) 18446744073709551615
  pub warm : OnOk r (new.session.warm ≡ warm_after old.session.scope statement)
  pub warm_kept : OnErr r (new.session.warm ≡ old.session.warm)
  pub scope_kept : OnErr r (IsAsBefore old.session.scope new.session.scope)
  pub flows : AreFlows new.session.state.arrays new.session.state.flows
  pub flowing : RunsAtMost old.session.scope statement old.runs new.runs
  pub unrun : IfScript r (new.runs ≡ old.runs)
  pub bounded : MovesAtMost (present_in old.slots) statement old.session.scope new.session.scope
      old.steps new.steps (ending r)
  pub again : AssignsAgain old.session statement old.steps new.steps
  pub shown : PrintsAtMost old.session statement old.steps new.steps
  pub readable : OnOk r (LeavesReadable statement old.session.scope new.session.scope)
  pub in_place : OnOk r
      (RunsInPlace (present_in old.slots) old.session.scope statement new.session.scope)
