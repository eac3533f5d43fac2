-- What must follow from the words that the top call's contract is written in.
use Rattle.std.specs.Prelude.{◌≡◌, ℕ, ◌+◌, ◌-◌, ◌^◌, ◌<◌, ◌≤◌, ⊤, ◌⊎◌, List, [], ◌++◌, length, Bool, true, false, Option, None, Some, IsSome, option_map}
use Rattle.std.specs.List.{All}
use Rattle.std.specs.List.Sorted.{IsStrictlyIncreasing}
use Rattle.std.specs.Io.KnownBytes.{Consumes}
use Rattle.pdl_io.specs.Counts.{Rose}
use Rattle.pdl_io.specs.Told.{Says}
use Rattle.pdl_watch.specs.declared.notice.Notice.{Notice}
use Rattle.pdl_watch.specs.Watched.{Watched}
use Rattle.pdl_watch.specs.Slots.{slot, notices_of, StartsWith}
use Rattle.pdl_machine.specs.Watches.{watch_of}
use Rattle.pdl_machine.specs.Run.{refused_limit, run, so_far}
use Rattle.pdl_shell.specs.Limits.{read_limit}
use Rattle.pdl_shell.specs.Outside.{Outside}
use Rattle.pdl_shell.specs.Answers.{CameToItsEnd, HasReason, Gives, CanAnswer, TakesAtMost, IsUndisturbed, Ending, ending_of_run, told_by, slots_after}
use Rattle.pdl_shell.specs.Taken.{Reads, terms_for}
use Rattle.pdl_shell.specs.declared.words.Command.{Command}
use Rattle.pdl_shell.specs.declared.words.Command.TheVariants.{Generate}
use Rattle.pdl_shell.specs.declared.status.Status.{Status}
use Rattle.pdl_shell.specs.declared.status.Status.TheVariants.{Done, ScriptFault, Usage, SourceFault, SinkFault, WatcherFault, NoMemory}

-- every count is as it was: of the source, of the sink, and of each watcher that is there still
pub record NoneRose (old new : Outside) : Type 0 where
  pub source : new.faults ≡ old.faults
  pub sink : new.out.faults ≡ old.out.faults
  pub watchers : (k : ℕ) (before after : Watched) → slot old.out.slots k ≡ Some before →
      slot new.out.slots k ≡ Some after → after.misses ≡ before.misses

-- a call that came to its end left every count as it was
abbrev pub EndsAreQuiet : Type 0
EndsAreQuiet = (status : Status) (old new : Outside) → CameToItsEnd status →
    HasReason status old new → NoneRose old new

-- so did one that was out of memory
abbrev pub NoMemoryIsQuiet : Type 0
NoMemoryIsQuiet = (old new : Outside) → HasReason NoMemory old new → NoneRose old new

-- a fault of the source, the sink or a watcher comes only where the count of that one rose
abbrev pub SourceFaultsRise : Type 0
SourceFaultsRise = (old new : Outside) → HasReason SourceFault old new →
    Rose old.faults new.faults × (new.out.faults ≡ old.out.faults)

abbrev pub SinkFaultsRise : Type 0
SinkFaultsRise = (old new : Outside) → HasReason SinkFault old new →
    Rose old.out.faults new.out.faults × (new.faults ≡ old.faults)

pub record OneFailed (old new : Outside) : Type 0 where
  pub at : ℕ
  pub before : Watched
  pub after : Watched
  pub was : slot old.out.slots at ≡ Some before
  pub is : slot new.out.slots at ≡ Some after
  pub rose : Rose before.misses after.misses
  pub source : new.faults ≡ old.faults
  pub sink : new.out.faults ≡ old.out.faults

abbrev pub WatcherFaultsRise : Type 0
WatcherFaultsRise = (old new : Outside) → HasReason WatcherFault old new → OneFailed old new

-- After a fault of the source the sink took just the text, and the watchers were told just the
-- notices, of the statements that the bytes taken make whole. None of these ended the run, and the
-- refused statements are the ones of them that memory refused.
pub record OfWholeStatements (keep : Bool) (refused : List ℕ) (old new : Outside)
    (before after : List ℕ) : Type 0 where
  pub bytes : List ℕ
  pub taken : Consumes old.left new.left bytes
  pub text : after ≡ before ++ (so_far (terms_for keep old.out.slots refused) bytes).printed
  pub told : let terms = terms_for keep old.out.slots refused in
      new.out.slots ≡ told_by (ending_of_run terms (so_far terms bytes)) old.out.slots
  pub unended : (so_far (terms_for keep old.out.slots refused) bytes).ended ≡ false
  pub met : (so_far (terms_for keep old.out.slots refused) bytes).refused ≡ refused

abbrev pub SourceFaultsLeave : Type 0
SourceFaultsLeave = (keep : Bool) (refused : List ℕ) (old new : Outside) (before after : List ℕ) →
    old.out.taken ≡ Some before → new.out.taken ≡ Some after →
    Reads keep refused SourceFault old new → OfWholeStatements keep refused old new before after

-- Whatever the status, the refused statements are ones of the bytes taken, in the order in which
-- they came: their numbers rise, and there are no more than a run may have.
pub record AreOfBytes (keep : Bool) (refused : List ℕ) (old new : Outside) : Type 0 where
  pub bytes : List ℕ
  pub taken : Consumes old.left new.left bytes
  pub came : let bytes_run = run (terms_for keep old.out.slots refused) bytes in
      All (λ number. number ≤ bytes_run.count) refused
  pub rise : IsStrictlyIncreasing refused
  pub few : length refused ≤ refused_limit

abbrev pub RefusedAreRead : Type 0
RefusedAreRead = (keep : Bool) (refused : List ℕ) (status : Status) (old new : Outside) →
    Reads keep refused status old new → AreOfBytes keep refused old new

-- with Done nothing is left of the script
abbrev pub DoneReadsAll : Type 0
DoneReadsAll = (keep : Bool) (refused : List ℕ) (old new : Outside) (rest : List ℕ) →
    new.left ≡ Some rest → Reads keep refused Done old new → rest ≡ []

-- with a fault of the script nothing is left of it, or the bytes taken end the run
pub record EndsBy (keep : Bool) (refused : List ℕ) (old new : Outside) : Type 0 where
  pub bytes : List ℕ
  pub taken : Consumes old.left new.left bytes
  pub ended : (so_far (terms_for keep old.out.slots refused) bytes).ended ≡ true

abbrev pub ScriptFaultReads : Type 0
ScriptFaultReads = (keep : Bool) (refused : List ℕ) (old new : Outside) (rest : List ℕ) →
    new.left ≡ Some rest → Reads keep refused ScriptFault old new →
    (rest ≡ []) ⊎ EndsBy keep refused old new

-- All is written, flushed and told, and the refused statements are all ones to which the run came.
pub record IsAllOf (e : Ending) (old new : Outside) (before after : List ℕ) : Type 0 where
  pub text : after ≡ before ++ e.text
  pub flushed : Says new.out.flushed true
  pub met : e.met ≡ e.refused
  pub slots : new.out.slots ≡ slots_after e old.out.slots

-- a call that came to its end has the ending's status, and all is written, and told
abbrev pub EndsWriteAll : Type 0
EndsWriteAll = (status : Status) (e : Ending) (old new : Outside) (before after : List ℕ) →
    CameToItsEnd status → old.out.taken ≡ Some before → new.out.taken ≡ Some after →
    Gives status e old.out new.out → (e.status ≡ status) × IsAllOf e old new before after

-- a call that was out of memory came to its end too, where that is the ending's status, or else it
-- wrote a front of the text
abbrev pub NoMemoryWritesAllOrAFront : Type 0
NoMemoryWritesAllOrAFront = (e : Ending) (old new : Outside) (before after : List ℕ) →
    old.out.taken ≡ Some before → new.out.taken ≡ Some after → Gives NoMemory e old.out new.out →
    ((e.status ≡ NoMemory) × IsAllOf e old new before after)
    ⊎ ((rest : List ℕ) × (before ++ e.text ≡ after ++ rest))

-- whatever the status, what is written is a front of the text
abbrev pub AllWriteAFront : Type 0
AllWriteAFront = (status : Status) (e : Ending) (old new : Outside) (before after : List ℕ) →
    old.out.taken ≡ Some before → new.out.taken ≡ Some after → Gives status e old.out new.out →
    (rest : List ℕ) × (before ++ e.text ≡ after ++ rest)

-- the source or the sink failed
abbrev pub IsCutOff : Status → Type 0
IsCutOff SourceFault = ⊤
IsCutOff SinkFault = ⊤
IsCutOff _ = ⊥

-- the watcher was told a front of these notices, and is finished or not as before
pub record HeardAFront (ns : List Notice) (before after : Watched) : Type 0 where
  pub part : List Notice
  pub front : StartsWith ns part
  pub told : after.told ≡ option_map (λ was. was ++ part) before.told
  pub finished : after.finished ≡ before.finished

-- then each watcher that is there still was told a front of its notices, and none is finished by it
abbrev pub CutOffTellAFront : Type 0
CutOffTellAFront = (status : Status) (e : Ending) (old new : Outside) (k : ℕ)
    (before after : Watched) → IsCutOff status → Gives status e old.out new.out →
    slot old.out.slots k ≡ Some before → slot new.out.slots k ≡ Some after →
    HeardAFront (notices_of e.told k) before after

-- The watcher was told a front of these notices. It is finished or not as before, or it was told
-- all of them, its slot is attached, and it is finished.
pub record HeardOrEnded (ns : List Notice) (watch : Option ℕ) (before after : Watched)
    : Type 0 where
  pub part : List Notice
  pub front : StartsWith ns part
  pub told : after.told ≡ option_map (λ was. was ++ part) before.told
  pub finished : (after.finished ≡ before.finished)
      ⊎ ((after.finished ≡ true) × (part ≡ ns) × IsSome watch)

-- a watcher failed, or the call was out of memory
abbrev pub MayHaveEnded : Status → Type 0
MayHaveEnded WatcherFault = ⊤
MayHaveEnded NoMemory = ⊤
MayHaveEnded _ = ⊥

-- so it is then with each watcher that is there still
abbrev pub OthersTellAFront : Type 0
OthersTellAFront = (status : Status) (e : Ending) (old new : Outside) (k : ℕ)
    (before after : Watched) → MayHaveEnded status → Gives status e old.out new.out →
    slot old.out.slots k ≡ Some before → slot new.out.slots k ≡ Some after →
    HeardOrEnded (notices_of e.told k) (watch_of e.watches k) before after

-- fewer bytes than are read at once are taken behind those that end the run
abbrev pub NoPartIsReadBehind : Type 0
NoPartIsReadBehind = (keep : Bool) (refused : List ℕ) (status : Status) (old new : Outside)
    (front rest : List ℕ) (reads : Reads keep refused status old new) →
    reads.taken ≡ front ++ rest →
    (so_far (terms_for keep old.out.slots refused) front).ended ≡ true → length rest < read_limit

-- of the bytes that the source has, at most so many are taken
abbrev pub FewAreTaken : Type 0
FewAreTaken = (most : ℕ) (old new : Option (List ℕ)) (before after : List ℕ) →
    old ≡ Some before → new ≡ Some after → TakesAtMost most old new →
    length before ≤ most + length after

-- every count is below the one at which it stays
pub record CanRise (now : Outside) : Type 0 where
  pub source : now.faults < 2 ^ 64 - 1
  pub sink : now.out.faults < 2 ^ 64 - 1
  pub watchers : (k : ℕ) (w : Watched) → slot now.out.slots k ≡ Some w → w.misses < 2 ^ 64 - 1

-- where such counts are as they were, the call was undisturbed
abbrev pub QuietIsUndisturbed : Type 0
QuietIsUndisturbed = (old new : Outside) → CanRise old → NoneRose old new → IsUndisturbed old new

-- out of memory is no answer to words that are no spelling
abbrev pub UsageTakesNoMemory : Type 0
UsageTakesNoMemory = CanAnswer None NoMemory → ⊥

-- nor is Usage one to words that are
abbrev pub UsageIsForNoSpelling : Type 0
UsageIsForNoSpelling = (command : Command) → CanAnswer (Some command) Usage → ⊥

-- the source and the watchers, which aren't touched then, fail in no answer to `--generate N`
abbrev pub GeneratingFailsAlone : Type 0
GeneratingFailsAlone = (keep : Bool) (rounds : ℕ) (status : Status) →
    CanAnswer (Some (Generate keep rounds)) status →
    (status ≡ Done) ⊎ ((status ≡ SinkFault) ⊎ (status ≡ NoMemory))
