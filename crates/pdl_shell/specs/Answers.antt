-- What each status of a call says of the run, of what was written and told, and of the counts of
-- faults.
use Rattle.std.specs.Prelude.{◌≡◌, ℕ, ◌≤◌, ⊤, ◌⊎◌, List, [], ◌∷◌, length, drop, Option, Some, None, Bool, true, Result, Ok, Err, if◌then◌else◌}
use Rattle.std.specs.Io.KnownBytes.{Appends}
use Rattle.pdl_io.specs.Counts.{Rose}
use Rattle.pdl_io.specs.Told.{Says, AppendsPrefix}
use Rattle.pdl_watch.specs.declared.notice.Notice.{Notice}
use Rattle.pdl_watch.specs.Watched.{Watched}
use Rattle.pdl_watch.specs.Slots.{Slots, slot, notices_of, all_told, all_ended, emptied, ToldPart, SlotRose, EndedShort, OneMissed}
use Rattle.pdl_machine.specs.Watches.{Watches, is_present}
use Rattle.pdl_machine.specs.Run.{Terms, Progress, run}
use Rattle.pdl_shell.specs.Command.{usage_line}
use Rattle.pdl_shell.specs.Summary.{summary}
use Rattle.pdl_shell.specs.Outside.{Outlets, Outside, CountsStay, NoneFailed}
use Rattle.pdl_shell.specs.declared.words.Command.{Command}
use Rattle.pdl_shell.specs.declared.words.Command.TheVariants.{Run, Generate}
use Rattle.pdl_shell.specs.declared.stop.Stop.{Stop}
use Rattle.pdl_shell.specs.declared.stop.Stop.TheVariants.{Source, Sink, Watcher, NoMemory as NoRoom}
use Rattle.pdl_shell.specs.declared.status.Status.{Status}
use Rattle.pdl_shell.specs.declared.status.Status.TheVariants.{Done, ScriptFault, Usage, SourceFault, SinkFault, WatcherFault, NoMemory}

-- the call came to its end, and memory refused no statement
abbrev pub CameToItsEnd : Status → Type 0
CameToItsEnd Done = ⊤
CameToItsEnd ScriptFault = ⊤
CameToItsEnd Usage = ⊤
CameToItsEnd SourceFault = ⊥
CameToItsEnd SinkFault = ⊥
CameToItsEnd WatcherFault = ⊥
CameToItsEnd NoMemory = ⊥

-- the status of a run that came to its end: whether a fault came, and which statements memory
-- refused
abbrev pub status_at_end : (faulted : Bool) → (refused : List ℕ) → Status
status_at_end faulted [] = if faulted then ScriptFault else Done
status_at_end faulted (number ∷ refused) = NoMemory

-- What a call comes to, unless it stops short: how it ends, all that it writes, the statements that
-- memory refuses and those of them to which the run comes, the notices of each slot, which slots
-- have a watcher at the end, and which arrays slots are attached to then.
pub record Ending : Type 0 where
  pub status : Status
  pub text : List ℕ
  pub refused : List ℕ
  pub met : List ℕ
  pub told : List (List Notice)
  pub present : List Bool
  pub watches : Watches

-- the ending of a run on these terms
abbrev pub ending_of_run : Terms → Progress → Ending
ending_of_run terms run = record {
  status = status_at_end run.faulted run.refused;
  text = run.printed;
  refused = terms.refused;
  met = run.refused;
  told = run.told;
  present = run.present;
  watches = run.state.watches;
}

-- an ending without a run of the source's script, which leaves all slots as they are
abbrev pub aside : Status → (text : List ℕ) → (present : List Bool) → Ending
aside status text present = record {
  status = status;
  text = text;
  refused = [];
  met = [];
  told = [];
  present = present;
  watches = [];
}

-- the ending of the run of a script
abbrev pub ending_on : Terms → (script : List ℕ) → Ending
ending_on terms script = ending_of_run terms (run terms script)

-- what a call comes to with what its words ask for, with the slots that have a watcher, with the
-- statements that memory refuses, and with the script that the source has
abbrev pub ending : Option Command → (present : List Bool) → (refused : List ℕ) →
    (script : List ℕ) → Ending
ending None present refused script = aside Usage usage_line present
ending (Some (Run keep)) present refused script =
    ending_on (record { keep = keep; present = present; refused = refused }) script
ending (Some (Generate keep rounds)) present refused script =
    aside Done (summary keep rounds) present

-- the slots once each watcher was told its notices, and those are gone that the script gave up
abbrev pub told_by : Ending → Slots → Slots
told_by ending slots = emptied (all_told slots ending.told) ending.present

-- and once those are finished that are attached at the end
abbrev pub slots_after : Ending → Slots → Slots
slots_after ending slots = all_ended (told_by ending slots) ending.watches

-- A slot at a stop: its watcher was told a front of these notices and isn't newly finished, or is
-- gone, which only a watcher is that the script gives up.
abbrev pub SlotHears : List Notice → (stays : Bool) → (old now : Option Watched) → Type 0
SlotHears ns stays None None = Unit {0}
SlotHears ns stays None (Some now) = ⊥
SlotHears ns stays (Some old) None = ¬ (stays ≡ true)
SlotHears ns stays (Some old) (Some now) = ToldPart ns old now

-- so for each slot
pub record HeardShort (old : Slots) (told : List (List Notice)) (present : List Bool) (now : Slots)
    : Type 0 where
  pub long : length now ≡ length old
  pub each : (k : ℕ) →
      SlotHears (notices_of told k) (is_present present k) (slot old k) (slot now k)

-- the call came to its end: the sink took the whole text and is flushed, each refused statement is
-- one to which the run came, and each slot is as the ending has it
pub record IsWhole (ending : Ending) (old new : Outlets) : Type 0 where
  pub text : Appends old.taken new.taken ending.text
  pub flushed : Says new.flushed true
  pub met : ending.met ≡ ending.refused
  pub slots : new.slots ≡ slots_after ending old.slots

-- it stopped short: the sink took a prefix of the text, and each watcher was told a front of its
-- notices; none is finished
pub record IsShort (ending : Ending) (old new : Outlets) : Type 0 where
  pub text : AppendsPrefix old.taken new.taken ending.text
  pub slots : HeardShort old.slots ending.told ending.present new.slots

-- it stopped short at the very end, when a watcher couldn't be finished: all was written, flushed
-- and told by then, and those of the slots before are finished
pub record ClosesShort (ending : Ending) (old new : Outlets) : Type 0 where
  pub text : Appends old.taken new.taken ending.text
  pub flushed : Says new.flushed true
  pub slots : EndedShort (told_by ending old.slots) ending.watches new.slots

-- What was written and told, from what is seen of sink and slots before the call and after it. Out
-- of memory the call came to its end, which that is the status of, or it stopped short.
abbrev pub Gives : Status → Ending → (old new : Outlets) → Type 0
Gives Done ending old new = (Done ≡ ending.status) × IsWhole ending old new
Gives ScriptFault ending old new = (ScriptFault ≡ ending.status) × IsWhole ending old new
Gives Usage ending old new = (Usage ≡ ending.status) × IsWhole ending old new
Gives SourceFault ending old new = IsShort ending old new
Gives SinkFault ending old new = IsShort ending old new
Gives WatcherFault ending old new = IsShort ending old new ⊎ ClosesShort ending old new
Gives NoMemory ending old new =
    ((NoMemory ≡ ending.status) × IsWhole ending old new) ⊎ IsShort ending old new

-- the statuses that words which ask for this can be answered by
abbrev pub CanAnswer : Option Command → Status → Type 0
CanAnswer None Usage = ⊤
CanAnswer None SinkFault = ⊤
CanAnswer None _ = ⊥
CanAnswer (Some (Run keep)) Usage = ⊥
CanAnswer (Some (Run keep)) _ = ⊤
CanAnswer (Some (Generate keep rounds)) Done = ⊤
CanAnswer (Some (Generate keep rounds)) SinkFault = ⊤
CanAnswer (Some (Generate keep rounds)) NoMemory = ⊤
CanAnswer (Some (Generate keep rounds)) _ = ⊥

-- every count of faults is as it was
abbrev pub AllQuiet : Outside → Outside → Type 0
AllQuiet old new = (new.faults ≡ old.faults) × NoneFailed old.out new.out

-- A fault of the source, the sink or a watcher is answered only where its count rose; every other
-- count stayed.
abbrev pub HasReason : Status → Outside → Outside → Type 0
HasReason Done old new = AllQuiet old new
HasReason ScriptFault old new = AllQuiet old new
HasReason Usage old new = AllQuiet old new
HasReason SourceFault old new = Rose old.faults new.faults × NoneFailed old.out new.out
HasReason SinkFault old new = Rose old.out.faults new.out.faults
    × (new.faults ≡ old.faults) × CountsStay old.out.slots new.out.slots
HasReason WatcherFault old new = OneMissed old.out.slots new.out.slots
    × (new.faults ≡ old.faults) × (new.out.faults ≡ old.out.faults)
HasReason NoMemory old new = AllQuiet old new

-- from the bytes that the source had left, the first ones were taken, and at most so many
pub record TakesAtMost (most : ℕ) (old new : Option (List ℕ)) : Type 0 where
  pub count : ℕ
  pub within : count ≤ most
  pub rest : (bytes : List ℕ) → old ≡ Some bytes → new ≡ Some (drop count bytes)

-- no count rose
pub record IsUndisturbed (old new : Outside) : Type 0 where
  pub source : ¬ Rose old.faults new.faults
  pub sink : ¬ Rose old.out.faults new.out.faults
  pub watchers : (k : ℕ) → ¬ SlotRose (slot old.out.slots k) (slot new.out.slots k)

-- the status of a run that stopped short
abbrev pub status_of_stop : Stop → Status
status_of_stop Source = SourceFault
status_of_stop Sink = SinkFault
status_of_stop Watcher = WatcherFault
status_of_stop NoRoom = NoMemory

-- the status of a run that came to its end, faulted or not, or stopped short, where memory refused
-- these statements
abbrev pub status_after : Result Bool Stop → (refused : List ℕ) → Status
status_after (Ok faulted) refused = status_at_end faulted refused
status_after (Err stop) refused = status_of_stop stop
