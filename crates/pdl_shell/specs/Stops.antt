-- Why the parts of a run stop short.
use Rattle.std.specs.Prelude.{◌≡◌, ℕ, Bool, ◌⊎◌, Result, Ok, Err}
use Rattle.pdl_io.specs.Counts.{Rose}
use Rattle.pdl_watch.specs.Slots.{Slots, OneMissed}
use Rattle.pdl_machine.specs.Run.{Terms, Progress}
use Rattle.pdl_shell.specs.Outside.{Outlets, Outside, CountsStay, NoneFailed}
use Rattle.pdl_shell.specs.Answers.{IsWhole, IsShort, ClosesShort, AllQuiet, HasReason, ending_of_run, status_of_stop}
use Rattle.pdl_shell.specs.declared.stop.Stop.{Stop}
use Rattle.pdl_shell.specs.declared.stop.Stop.TheVariants.{Source, Sink, Watcher, NoMemory}

-- a part that works on the sink alone: it stops for the sink only where the sink's count rose, and
-- else that count stayed
abbrev pub HasSinkCause : {T : Type 0} → ℕ → ℕ → Result T Stop → Type 0
HasSinkCause before now (Ok x) = now ≡ before
HasSinkCause before now (Err Source) = ⊥
HasSinkCause before now (Err Sink) = Rose before now
HasSinkCause before now (Err Watcher) = ⊥
HasSinkCause before now (Err NoMemory) = now ≡ before

-- a part that works on watchers alone stops for one of them only where its count rose
abbrev pub SlotsFail : Stop → Slots → Slots → Type 0
SlotsFail Source old now = ⊥
SlotsFail Sink old now = ⊥
SlotsFail Watcher old now = OneMissed old now
SlotsFail NoMemory old now = CountsStay old now

-- and one that works on both
abbrev pub Fails : Stop → Outlets → Outlets → Type 0
Fails Source old now = ⊥
Fails Sink old now = Rose old.faults now.faults × CountsStay old.slots now.slots
Fails Watcher old now = OneMissed old.slots now.slots × (now.faults ≡ old.faults)
Fails NoMemory old now = NoneFailed old now

-- where a part that works on all stops, its status has its reason, and else all counts stayed
abbrev pub HasCauses : {T : Type 0} → Outside → Outside → Result T Stop → Type 0
HasCauses old now (Ok x) = AllQuiet old now
HasCauses old now (Err stop) = HasReason (status_of_stop stop) old now

-- A run on these terms came to its end, with all written and told and those finished that are
-- attached; or it stopped short.
abbrev pub Leaves : Result Bool Stop → Terms → Progress → (old now : Outlets) → Type 0
Leaves (Ok faulted) terms run old now =
    (faulted ≡ run.faulted) × IsWhole (ending_of_run terms run) old now
Leaves (Err Source) terms run old now = IsShort (ending_of_run terms run) old now
Leaves (Err Sink) terms run old now = IsShort (ending_of_run terms run) old now
Leaves (Err Watcher) terms run old now =
    IsShort (ending_of_run terms run) old now ⊎ ClosesShort (ending_of_run terms run) old now
Leaves (Err NoMemory) terms run old now = IsShort (ending_of_run terms run) old now
