-- What a call leaves: all that is said of it, and of the run of the source's script.
use Rattle.std.specs.Prelude.{◌≡◌, ℕ, ◌+◌, List, Option, Some, Bool, true, Result, OnOk}
use Rattle.std.specs.List.Sorted.{IsStrictlyIncreasing}
use Rattle.pdl_io.specs.Told.{Says, KeepsTelling}
use Rattle.pdl_lex.specs.Limits.{script_limit}
use Rattle.pdl_watch.specs.Slots.{present_in}
use Rattle.pdl_machine.specs.Run.{run}
use Rattle.pdl_shell.specs.declared.words.Command.{Command}
use Rattle.pdl_shell.specs.declared.words.Command.TheVariants.{Run}
use Rattle.pdl_shell.specs.declared.stop.Stop.{Stop}
use Rattle.pdl_shell.specs.declared.status.Status.{Status}
use Rattle.pdl_shell.specs.Command.{reads_source}
use Rattle.pdl_shell.specs.Outside.{Outside}
use Rattle.pdl_shell.specs.Answers.{CameToItsEnd, Gives, CanAnswer, HasReason, TakesAtMost, ending, status_after}
use Rattle.pdl_shell.specs.Stops.{HasCauses, Leaves}
use Rattle.pdl_shell.specs.Taken.{Reads, terms_for}

-- The source's script was run, where memory refused these statements: the run came to its end, or
-- it stopped short.
pub record RunsScript (keep : Bool) (refused : List ℕ) (result : Result Bool Stop)
    (old new : Outside) : Type 0 where
  pub leaves : (script : List ℕ) → old.left ≡ Some script →
      let terms = terms_for keep old.out.slots refused in
      Leaves result terms (run terms script) old.out new.out
  pub reads : Reads keep refused (status_after result refused) old new
  pub at_most : TakesAtMost (script_limit + 1) old.left new.left
  pub causes : HasCauses old new result
  pub flushed : OnOk result (Says new.out.flushed true)
  pub tells : KeepsTelling old.out.flushed new.out.flushed

-- The call answered what was asked for, where memory refused these statements, to its end or short of
-- it: what it gave out, which status it answers and why, and how far it read the source.
pub record IsAnswered (asked : Option Command) (refused : List ℕ) (status : Status)
    (old new : Outside) : Type 0 where
  pub model : (script : List ℕ) → (reads_source asked ≡ true → old.left ≡ Some script) →
      Gives status (ending asked (present_in old.out.slots) refused script) old.out new.out
  pub answers : CanAnswer asked status
  pub reads : (keep : Bool) → asked ≡ Some (Run keep) → Reads keep refused status old new
  pub rising : IsStrictlyIncreasing refused
  pub at_most : TakesAtMost (script_limit + 1) old.left new.left
  pub reason : HasReason status old new
  pub flushed : CameToItsEnd status → Says new.out.flushed true
  pub tells : KeepsTelling old.out.flushed new.out.flushed
