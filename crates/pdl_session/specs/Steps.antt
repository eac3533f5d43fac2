-- What a call of `step` does.
use Rattle.std.specs.Prelude.{◌≡◌, ℕ, ◌+◌, List, min, IfErr, OnOk, Result}
use Rattle.pdl_syntax.specs.StatementTree.{StatementTree}
use Rattle.pdl_watch.specs.Slots.{Slots, present_in}
use Rattle.pdl_machine.specs.Following.{AreFlows}
use Rattle.pdl_machine.specs.Step.{Done, step}
use Rattle.pdl_machine.specs.declared.fault.Fault.{Fault}
use Rattle.pdl_session.specs.declared.fault.StepFault.{StepFault}
use Rattle.pdl_session.specs.Bounds.{LeavesReadable, RunsInPlace, warm_after}
use Rattle.pdl_session.specs.Dumping.{PrintsDump}
use Rattle.pdl_session.specs.Evaluations.{RunsAtMost}
use Rattle.pdl_session.specs.Faults.{IfFaulted, IfWatcher, UnlessWatcher, step_ending}
use Rattle.pdl_session.specs.Session.{AssignsAgain, IsAsBefore, PrintsAtMost, Session}
use Rattle.pdl_session.specs.Statements.{MovesAtMost}
use Rattle.pdl_session.specs.Watching.{AreServed, HasDone, HasRun, IsRefusal}

-- What there is before a step and after it: the session, what was printed, the watchers of the slots,
-- and how many elements were moved and formulas evaluated.
pub record Moment : Type 0 where
  pub session : Session
  pub out : List ℕ
  pub slots : Slots
  pub steps : ℕ
  pub runs : ℕ

abbrev pub moment : Session → (out : List ℕ) → Slots → (steps runs : ℕ) → Moment
moment session out slots steps runs =
    record { session = session; out = out; slots = slots; steps = steps; runs = runs }

-- the machine's step
abbrev pub step_from : (number : ℕ) → StatementTree → Moment → Result Done Fault
step_from number statement old =
    step number (present_in old.slots) old.session.state statement

-- A call of `step` with the statement of this number did what is wanted, or answered why not.
pub record HasStepped (number : ℕ) (statement : StatementTree) (old new : Moment)
    (r : Result (Unit {0}) StepFault) : Type 0 where
  pub ok : OnOk r
      (HasDone (step_from number statement old) new.session.state
      old.out new.out old.slots new.slots)
  pub fault : IfErr r (IsRefusal (step_from number statement old) old.slots new.slots)
  pub ran : IfErr r (λ e. IfWatcher e
      (HasRun (step_from number statement old) new.session.state old.out new.out))
  pub kept : IfErr r (λ e. UnlessWatcher e (new.session.state ≡ old.session.state))
  pub unprinted : IfErr r (λ e. UnlessWatcher e (new.out ≡ old.out))
  pub untold : IfErr r (λ e. UnlessWatcher e (new.slots ≡ old.slots))
  pub served : OnOk r (AreServed new.session.state.watches new.slots)
  pub numbered : new.session.done ≡ min (old.session.done + 1) 18446744073709551615
  pub warm : OnOk r (new.session.warm ≡ warm_after old.session.scope statement)
  pub warm_kept : IfErr r (λ e. UnlessWatcher e (new.session.warm ≡ old.session.warm))
  pub scope_kept : IfErr r (λ e. UnlessWatcher e (IsAsBefore old.session.scope new.session.scope))
  pub flows : AreFlows new.session.state.arrays new.session.state.flows
  pub flowing : RunsAtMost old.session.scope statement old.runs new.runs
  pub unrun : IfErr r (λ e. IfFaulted e (new.runs ≡ old.runs))
  pub bounded : MovesAtMost (present_in old.slots) statement old.session.scope new.session.scope
      old.steps new.steps (step_ending r)
  pub again : AssignsAgain old.session statement old.steps new.steps
  pub shown : PrintsAtMost old.session statement old.steps new.steps
  pub readable : OnOk r (LeavesReadable statement old.session.scope new.session.scope)
  pub in_place : OnOk r
      (RunsInPlace (present_in old.slots) old.session.scope statement new.session.scope)
  pub dumps : OnOk r (PrintsDump old.session.state statement old.out new.out)
