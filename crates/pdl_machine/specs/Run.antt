-- A run: the steps by a script's statements in order, all that is printed, and all that watchers
-- are told.
use Rattle.std.specs.Prelude.{ℕ, ◌+◌, ◌==◌, List, [], ◌∷◌, ◌++◌, length, map, nat_lt, nat_le, Bool, true, false, not, ◌||◌, Result, Ok, Err, codes, decimal, if◌then◌else◌}
use Rattle.std.specs.List.{list_any}
use Rattle.pdl_lex.specs.declared.Piece.TheVariants.{Whole, TooLong}
use Rattle.pdl_lex.specs.Limits.{script_limit}
use Rattle.pdl_lex.specs.Pieces.{Mark, statement, script_too_long, settled, script_marks}
use Rattle.pdl_io.specs.Counts.{next_count}
use Rattle.pdl_watch.specs.declared.notice.Notice.{Notice}
use Rattle.pdl_watch.specs.Slots.{joined}
use Rattle.pdl_machine.specs.declared.fault.Fault.{Fault}
use Rattle.pdl_machine.specs.declared.fault.Fault.TheVariants.{StatementTooLong, ScriptTooLong}
use Rattle.pdl_machine.specs.declared.limits.TheConstants.{MOST_REFUSED}
use Rattle.pdl_machine.specs.Fault.{text_of}
use Rattle.pdl_syntax.specs.StatementTree.{StatementTree}
use Rattle.pdl_machine.specs.Reads.{reads}
use Rattle.pdl_machine.specs.State.{State, no_names}
use Rattle.pdl_machine.specs.Step.{Done, step, newline}

-- What a run is given: whether it goes on after a statement that isn't run, which slots have a
-- watcher, and the numbers of the statements for which there is no memory.
pub record Terms : Type 0 where
  pub keep : Bool
  pub present : List Bool
  pub refused : List ℕ

-- How far a run has come: the state, all that was printed, whether a fault came, the numbers of the
-- statements that memory refused, and whether one that wasn't run has ended it; how many statements
-- there were, a count that stays at 2^64 - 1; all notices of each slot; and which slots have a
-- watcher still.
pub record Progress : Type 0 where
  pub state : State
  pub printed : List ℕ
  pub faulted : Bool
  pub refused : List ℕ
  pub ended : Bool
  pub count : ℕ
  pub told : List (List Notice)
  pub present : List Bool

-- the line that says why the statement wasn't run that begins on this line of the script
abbrev pub report : (line : ℕ) → (reason : List ℕ) → List ℕ
report line reason = codes "pdl: line " ++ decimal line ++ codes ": " ++ reason ++ newline

-- by its fault, or for lack of memory
abbrev pub fault_line : (line : ℕ) → Fault → List ℕ
fault_line line e = report line (text_of e)

abbrev pub memory_line : (line : ℕ) → List ℕ
memory_line line = report line (codes "out of memory")

abbrev pub step_read : (number : ℕ) → (present : List Bool) → State → Result StatementTree Fault →
    Result Done Fault
step_read number present s (Err e) = Err e
step_read number present s (Ok tree) = step number present s tree

-- what the statement of this number comes to from a state, or its fault
abbrev pub mark_step : (number : ℕ) → (present : List Bool) → State → Mark → Result Done Fault
mark_step number present s (statement (Whole cut)) = step_read number present s (reads cut.text)
mark_step number present s (statement (TooLong line)) = Err StatementTooLong
mark_step number present s (script_too_long line) = Err ScriptTooLong

-- the line on which a statement begins, or on which the script is too long
abbrev pub line_of : Mark → ℕ
line_of (statement (Whole cut)) = cut.line
line_of (statement (TooLong line)) = line
line_of (script_too_long line) = line

-- whether a fault ends the run: unless it goes on after faults, and where the script is too long
abbrev pub fault_ends : (keep : Bool) → Mark → Bool
fault_ends keep (statement piece) = not keep
fault_ends keep (script_too_long line) = true

-- what a statement of this line prints: its text, or the line of its fault
abbrev pub text_after : (line : ℕ) → Result Done Fault → List ℕ
text_after line (Ok done) = done.text
text_after line (Err e) = fault_line line e

-- with one statement more, a count that stays at 2^64 - 1
abbrev pub counted : Progress → Progress
counted p = record p { count = next_count p.count }

-- the progress after a statement of this line; a fault leaves the state as it was, and ends the
-- run where it does that
abbrev pub after : (ends : Bool) → Progress → (line : ℕ) → Result Done Fault → Progress
after ends p line (Ok done) = record p {
  state = done.state;
  printed = p.printed ++ done.text;
  told = joined p.told done.told;
  present = done.present;
}
after ends p line (Err e) =
    record p { printed = p.printed ++ fault_line line e; faulted = true; ended = ends }

-- what the next statement comes to: its number is the count with it
abbrev pub next_step : Progress → Mark → Result Done Fault
next_step p m = mark_step (next_count p.count) p.present p.state m

abbrev pub is_among : (numbers : List ℕ) → (number : ℕ) → Bool
is_among numbers number = list_any (λ n. n == number) numbers

-- whether there is no memory for the statement of this number
abbrev pub is_refused : Terms → (number : ℕ) → Bool
is_refused terms number = is_among terms.refused number

-- how many statements memory may refuse in a run: the last of them ends it
abbrev pub refused_limit : ℕ
refused_limit = MOST_REFUSED

-- the progress after a statement of this line that memory refused, which leaves the state as it was
abbrev pub after_refusal : (ends : Bool) → Progress → (line : ℕ) → Progress
after_refusal ends p line = record p {
  printed = p.printed ++ memory_line line;
  refused = p.refused ++ p.count ∷ [];
  ended = ends || nat_le refused_limit (length p.refused + 1);
}

-- the progress after the next statement
abbrev pub after_mark : Terms → Progress → Mark → Progress
after_mark terms p m = if is_refused terms (next_count p.count)
    then after_refusal (fault_ends terms.keep m) (counted p) (line_of m)
    else after (fault_ends terms.keep m) (counted p) (line_of m) (next_step p m)

-- whether a statement wasn't run, by a fault or for lack of memory
abbrev pub went_wrong : Progress → Bool
went_wrong p = p.faulted || nat_lt 0 (length p.refused)

-- the progress after these statements, or after the one that ends the run
abbrev pub after_marks : Terms → Progress → List Mark → Progress
after_marks terms p [] = p
after_marks terms p (m ∷ ms) =
    if p.ended then p else after_marks terms (after_mark terms p m) ms

-- a run before its first statement
abbrev pub start : Terms → Progress
start terms = record {
  state = no_names;
  printed = [];
  faulted = false;
  refused = [];
  ended = false;
  count = 0;
  told = [];
  present = terms.present;
}

-- the run of a script: its statements one after another, from no names
abbrev pub run : Terms → (script : List ℕ) → Progress
run terms script = after_marks terms (start terms) (script_marks script)

-- the statements that these bytes settle, whatever follows them
abbrev pub settled_marks : (bytes : List ℕ) → List Mark
settled_marks bytes = if nat_lt script_limit (length bytes) then script_marks bytes
    else map statement (settled bytes)

-- how far a run has come by these bytes
abbrev pub so_far : Terms → (bytes : List ℕ) → Progress
so_far terms bytes = after_marks terms (start terms) (settled_marks bytes)
