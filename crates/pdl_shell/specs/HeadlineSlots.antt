-- What must follow for watchers and their slots from the words of the top call's contract.
use Rattle.std.specs.Prelude.{◌≡◌, ◌≢◌, ℕ, ◌<◌, ◌++◌, length, true, false, None, Some, IsSome, option_map}
use Rattle.std.specs.Io.KnownBytes.{Appends}
use Rattle.pdl_io.specs.Told.{Says}
use Rattle.pdl_watch.specs.Watched.{Watched}
use Rattle.pdl_watch.specs.Slots.{slot, notices_of, SlotRose}
use Rattle.pdl_machine.specs.Watches.{watch_of, is_present}
use Rattle.pdl_shell.specs.Outside.{Outside}
use Rattle.pdl_shell.specs.Answers.{Ending, Gives, HasReason}
use Rattle.pdl_shell.specs.Headline.{MayHaveEnded}
use Rattle.pdl_shell.specs.declared.status.Status.{Status}
use Rattle.pdl_shell.specs.declared.status.Status.TheVariants.{WatcherFault}

-- a call leaves as many slots as there were
abbrev pub SlotsStay : Type 0
SlotsStay = (status : Status) (e : Ending) (old new : Outside) → Gives status e old.out new.out →
    length new.out.slots ≡ length old.out.slots

-- a watcher is there still, unless the script gives it up
abbrev pub WatchersStay : Type 0
WatchersStay = (status : Status) (e : Ending) (old new : Outside) (k : ℕ) →
    Gives status e old.out new.out → is_present e.present k ≡ true →
    IsSome (slot old.out.slots k) → IsSome (slot new.out.slots k)

-- and a slot that had none has none
abbrev pub NoneAppears : Type 0
NoneAppears = (status : Status) (e : Ending) (old new : Outside) (k : ℕ) →
    Gives status e old.out new.out → slot old.out.slots k ≡ None → slot new.out.slots k ≡ None

-- the watcher of a slot has its count as it was, if it is there still
abbrev pub CountIsKept : (old new : Outside) → (k : ℕ) → Type 0
CountIsKept old new k = (before after : Watched) → slot old.out.slots k ≡ Some before →
    slot new.out.slots k ≡ Some after → after.misses ≡ before.misses

-- so it is with each watcher where none failed
abbrev pub CountsAreKept : Type 0
CountsAreKept = (status : Status) (old new : Outside) (k : ℕ) → status ≢ WatcherFault →
    HasReason status old new → CountIsKept old new k

-- and with each other one where one failed
abbrev pub OneFailsAlone : Type 0
OneFailsAlone = (old new : Outside) → HasReason WatcherFault old new →
    (failed : ℕ) × SlotRose (slot old.out.slots failed) (slot new.out.slots failed)
    × ((k : ℕ) → k ≢ failed → CountIsKept old new k)

-- the call finished the watcher of a slot
pub record IsFinished (old new : Outside) (k : ℕ) : Type 0 where
  pub before : Watched
  pub after : Watched
  pub was : slot old.out.slots k ≡ Some before
  pub is : slot new.out.slots k ≡ Some after
  pub open_before : before.finished ≡ false
  pub finished : after.finished ≡ true

-- the whole text is written and flushed, and each watcher that is there still was told all of its
-- notices
pub record IsGivenOut (e : Ending) (old new : Outside) : Type 0 where
  pub text : Appends old.out.taken new.out.taken e.text
  pub flushed : Says new.out.flushed true
  pub told : (k : ℕ) (before after : Watched) → slot old.out.slots k ≡ Some before →
      slot new.out.slots k ≡ Some after →
      after.told ≡ option_map (λ was. was ++ notices_of e.told k) before.told

-- all is given out, and the watchers of the attached slots before this one are finished
pub record FinishesInTurn (e : Ending) (old new : Outside) (k : ℕ) : Type 0 where
  pub given : IsGivenOut e old new
  pub earlier : (j : ℕ) (after : Watched) → j < k → IsSome (watch_of e.watches j) →
      slot new.out.slots j ≡ Some after → after.finished ≡ true

-- where a watcher failed, or out of memory, one is finished only so
abbrev pub FinishingComesLast : Type 0
FinishingComesLast = (status : Status) (e : Ending) (old new : Outside) (k : ℕ) →
    MayHaveEnded status → Gives status e old.out new.out → IsFinished old new k →
    FinishesInTurn e old new k
