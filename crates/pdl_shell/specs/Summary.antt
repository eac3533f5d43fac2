-- What a run of the generated script comes to.
use Rattle.std.specs.Prelude.{ℕ, List, [], ◌++◌, Bool, length, sum, codes, decimal}
use Rattle.pdl_lex.specs.Pieces.{pieces}
use Rattle.pdl_machine.specs.Run.{Terms, run}
use Rattle.pdl_machine.specs.Step.{newline}
use Rattle.pdl_shell.specs.Generated.{generated_script}

-- how many statements there were, how many bytes they printed, and what these sum to
abbrev pub summary_line : (statements : ℕ) (printed : List ℕ) → List ℕ
summary_line statements printed =
    codes "statements " ++ decimal statements ++ codes " bytes " ++ decimal (length printed)
    ++ codes " sum " ++ decimal (sum printed) ++ newline

-- a run that goes on after faults or doesn't, has no watchers, and has memory for each statement
abbrev pub unwatched : (keep_going : Bool) → Terms
unwatched keep = record { keep = keep; present = []; refused = [] }

-- the line for the generated script of so many rounds
abbrev pub summary : (keep_going : Bool) → (rounds : ℕ) → List ℕ
summary keep rounds =
    let script = generated_script rounds in
    summary_line (length (pieces script)) (run (unwatched keep) script).printed
