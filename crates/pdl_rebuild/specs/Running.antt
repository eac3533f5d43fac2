-- What the script of a dump comes to with a rest behind it.
use Rattle.std.specs.Prelude.{◌≡◌, ℕ, ◌≤◌, Bool, List, [], ◌++◌, length, map, Ok}
use Rattle.pdl_lex.specs.Joining.{pieces_from}
use Rattle.pdl_lex.specs.Limits.{script_limit}
use Rattle.pdl_lex.specs.Pieces.{statement, script_marks}
use Rattle.pdl_reread.specs.Scripts.{line_behind}
use Rattle.pdl_machine.specs.Dumpable.{IsDumpable}
use Rattle.pdl_machine.specs.Dumps.{dump_lines, dumped}
use Rattle.pdl_machine.specs.Run.{Terms, Progress, after_marks, start}
use Rattle.pdl_machine.specs.State.{State}
use Rattle.pdl_rebuild.specs.Rebuilding.{emptied}

-- a run that has memory for each statement
abbrev pub with_memory : (keep : Bool) → (present : List Bool) → Terms
with_memory keep present = record { keep = keep; present = present; refused = [] }

-- a run that has come to a state by so many statements, none of which printed or told anything
abbrev pub come_to : Terms → State → (count : ℕ) → Progress
come_to terms s count =
    record (start terms) { state = s; count = count; told = map (λ w. []) s.watches }

-- The run of a dump with a rest behind it, where both together are no script that is too long, goes
-- on with the statements of the rest from the state that was dumped; lines and statements are
-- counted on from those of the dump. It begins with the slots of that state alone.
abbrev pub DumpsGoOn : Type 0
DumpsGoOn = (keep : Bool) (present : List Bool) (s : State) (text rest : List ℕ) →
    IsDumpable s → dumped s ≡ Ok text → length (text ++ rest) ≤ script_limit →
    after_marks (with_memory keep present) (come_to (with_memory keep present) (emptied s) 0)
    (script_marks (text ++ rest))
    ≡ after_marks (with_memory keep present)
    (come_to (with_memory keep present) s (length (dump_lines s)))
    (map statement (pieces_from (line_behind 1 (dump_lines s)) rest))

-- where a slot has no entry, it begins as each run of a script does
abbrev pub RunsBeginSo : Type 0
RunsBeginSo = (terms : Terms) (s : State) → s.watches ≡ [] →
    come_to terms (emptied s) 0 ≡ start terms
