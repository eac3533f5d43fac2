-- How far the source of a script is read, and what is written and told by then.
use Rattle.std.specs.Prelude.{◌≡◌, ℕ, ◌-◌, ⊤, ◌⊎◌, List, length, take, Bool, true, false}
use Rattle.std.specs.Io.KnownBytes.{Appends, Consumes, IsAtEnd}
use Rattle.pdl_watch.specs.Slots.{Slots, present_in}
use Rattle.pdl_machine.specs.Run.{Terms, Progress, run, so_far}
use Rattle.pdl_shell.specs.Limits.{read_limit}
use Rattle.pdl_shell.specs.Outside.{Outside}
use Rattle.pdl_shell.specs.Answers.{ending_of_run, told_by}
use Rattle.pdl_shell.specs.declared.status.Status.{Status}
use Rattle.pdl_shell.specs.declared.status.Status.TheVariants.{Done, ScriptFault, Usage, SourceFault, SinkFault, WatcherFault, NoMemory}

-- what a run is given that has these slots, and these statements for which there is no memory
abbrev pub terms_for : (keep : Bool) → Slots → (refused : List ℕ) → Terms
terms_for keep slots refused =
    record { keep = keep; present = present_in slots; refused = refused }

-- all bytes taken but the last ones, as many as are read at once, don't end the run: so fewer than
-- that were taken behind the one that completes the statement that ends it
abbrev pub StopsSoon : Terms → (taken : List ℕ) → Type 0
StopsSoon terms taken = (so_far terms (take (length taken - read_limit) taken)).ended ≡ false

-- What a status says of how far the run on these terms has come by the bytes taken: Done, that the
-- source is at its end; ScriptFault, that it is, or that these bytes end the run; SourceFault, that
-- exactly what they print was written and exactly what they tell was told, that they don't end it,
-- and that the refused statements are just those of them that it met.
abbrev pub ComesTo : Status → Terms → Progress → (old new : Outside) → Type 0
ComesTo Done terms run old new = IsAtEnd new.left
ComesTo ScriptFault terms run old new = IsAtEnd new.left ⊎ (run.ended ≡ true)
ComesTo Usage terms run old new = ⊤
ComesTo SourceFault terms run old new = Appends old.out.taken new.out.taken run.printed
    × (new.out.slots ≡ told_by (ending_of_run terms run) old.out.slots) × (run.ended ≡ false)
    × (run.refused ≡ terms.refused)
ComesTo SinkFault terms run old new = ⊤
ComesTo WatcherFault terms run old new = ⊤
ComesTo NoMemory terms run old new = ⊤

-- From what the source had left, these bytes were taken, where memory refused these statements:
-- whatever the status, all of them are ones to which a run of these bytes comes.
pub record Reads (keep : Bool) (refused : List ℕ) (status : Status) (old new : Outside)
    : Type 0 where
  pub taken : List ℕ
  pub all : Consumes old.left new.left taken
  pub soon : StopsSoon (terms_for keep old.out.slots refused) taken
  pub met : (run (terms_for keep old.out.slots refused) taken).refused ≡ refused
  pub so_far : let terms = terms_for keep old.out.slots refused in
      ComesTo status terms (so_far terms taken) old new
