-- What running a statement leaves.
use Rattle.std.specs.Prelude.{◌≡◌, ℕ, List, [], Result, Ok, Err}
use Rattle.pdl_watch.specs.Slots.{Slots}
use Rattle.pdl_machine.specs.declared.fault.Fault.{Fault}
use Rattle.pdl_machine.specs.Watches.{Watches}
use Rattle.pdl_machine.specs.State.{State}
use Rattle.pdl_machine.specs.Step.{Done}
use Rattle.pdl_session.specs.Faults.{UnlessWatcher}
use Rattle.pdl_session.specs.Watching.{AreServed, HasDone, IsRefusal}
use Rattle.pdl_session.specs.declared.fault.StepFault.{StepFault}

-- a refusal left all as it was, and nothing is printed
pub record IsKept (old : State) (old_slots : Slots) (now : State) (text : List ℕ) (now_slots : Slots)
    : Type 0 where
  pub state : now ≡ old
  pub unprinted : text ≡ []
  pub slots : now_slots ≡ old_slots

-- what is left of the state and of the slots, and what is printed, where this is wanted
abbrev pub LeavesState : (wanted : Result Done Fault) → (state : State) → (slots : Slots)
    → Result (Unit {0}) StepFault → (now : State) → (text : List ℕ) → (slots_now : Slots) → Type 0
LeavesState wanted state slots (Ok x) now text slots_now = HasDone wanted now [] text slots slots_now
LeavesState wanted state slots (Err e) now text slots_now =
    IsRefusal wanted slots slots_now e × UnlessWatcher e (IsKept state slots now text slots_now)

-- unless a watcher failed, the next statement can be run
abbrev pub AreServedAfter : Result (Unit {0}) StepFault → Watches → Slots → Type 0
AreServedAfter (Ok x) watches slots = AreServed watches slots
AreServedAfter (Err e) watches slots = UnlessWatcher e (AreServed watches slots)
