-- What a session's calls leave, with the watchers of its slots.
use Rattle.std.specs.Prelude.{◌≡◌, ◌⊎◌, ℕ, ◌≤◌, false, List, ◌++◌, length, slice_set, Result, Ok, Err}
use Rattle.pdl_watch.specs.Slots.{Slots, present_in, all_told, emptied, AreOpen, ToldShort, StopsInTurn, EndsShort, OneMissed}
use Rattle.pdl_machine.specs.declared.fault.Fault.{Fault}
use Rattle.pdl_machine.specs.State.{State}
use Rattle.pdl_machine.specs.Step.{Done}
use Rattle.pdl_machine.specs.Watches.{Watches, AreThere}
use Rattle.pdl_scope.specs.Scope.{slots_limit}
use Rattle.pdl_session.specs.declared.fault.StepFault.{StepFault}
use Rattle.pdl_session.specs.declared.fault.StepFault.TheVariants.{Script, Watcher, NoMemory}

-- No watcher is finished, there are at most so many slots, and each slot that is attached has a
-- watcher.
pub record AreServed (watches : Watches) (slots : Slots) : Type 0 where
  pub unfinished : AreOpen slots
  pub few : length slots ≤ slots_limit
  pub there : AreThere (present_in slots) watches

-- The step that is wanted has run: its state is the new one, and its text was added.
pub record HasRun (wanted : Result Done Fault) (new : State) (old_out new_out : List ℕ) : Type 0
  where
    pub done : Done
    pub is : wanted ≡ Ok done
    pub state : new ≡ done.state
    pub printed : new_out ≡ old_out ++ done.text

-- The step that is wanted was done: its state is the new one, its text was added, each watcher was
-- told the notices of its slot, and a slot that has no watcher any more is empty.
pub record HasDone (wanted : Result Done Fault) (new : State) (old_out new_out : List ℕ)
    (old_slots new_slots : Slots) : Type 0 where
  pub done : Done
  pub is : wanted ≡ Ok done
  pub state : new ≡ done.state
  pub printed : new_out ≡ old_out ++ done.text
  pub slots : new_slots ≡ emptied (all_told old_slots done.told) done.present

-- The step that is wanted stopped at a watcher's failure, while one slot after another was told, or
-- the watcher of the slot that it gives up was to be finished: so each slot has its watcher still,
-- which was told a front of its notices, none is newly finished, and the count of one of them rose.
pub record StopsStep (wanted : Result Done Fault) (old_slots new_slots : Slots) : Type 0 where
  pub done : Done
  pub is : wanted ≡ Ok done
  pub turn : StopsInTurn old_slots done.told new_slots
      ⊎ ((k : ℕ) × (done.present ≡ slice_set (present_in old_slots) k false)
      × EndsShort old_slots k new_slots)
  pub short : ToldShort old_slots done.told new_slots

-- why a step was refused: the fault is the one that is wanted; a watcher failed; `NoMemory` says
-- nothing
abbrev pub IsRefusal : (wanted : Result Done Fault) → (slots now : Slots) → StepFault → Type 0
IsRefusal wanted slots now (Script e) = wanted ≡ Err e
IsRefusal wanted slots now Watcher = StopsStep wanted slots now × OneMissed slots now
IsRefusal wanted slots now NoMemory = Unit {0}
