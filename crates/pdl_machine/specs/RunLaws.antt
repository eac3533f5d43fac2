-- What holds of every run.
use Rattle.std.specs.Prelude.{◌≡◌, ℕ, ◌+◌, ◌<◌, ◌≤◌, ◌||◌, nat_le, List, [], ◌∷◌, ◌++◌, length, true, false, Ok}
use Rattle.std.specs.List.{All}
use Rattle.std.specs.List.Sorted.{IsStrictlyIncreasing}
use Rattle.pdl_lex.specs.Limits.{script_limit}
use Rattle.pdl_lex.specs.Pieces.{Mark, pieces, settled}
use Rattle.pdl_io.specs.Counts.{next_count}
use Rattle.pdl_watch.specs.declared.notice.Notice.{Notice}
use Rattle.pdl_watch.specs.Slots.{joined, IsBelow}
use Rattle.pdl_machine.specs.Watches.{AreThere}
use Rattle.pdl_machine.specs.Step.{Done}
use Rattle.pdl_machine.specs.Run.{Terms, Progress, next_step, is_refused, memory_line, refused_limit, line_of, fault_ends, after_mark, after_marks, went_wrong, start, run, so_far}

-- a run that a fault or a refusal has ended prints and changes nothing more
abbrev pub EndedStays : Type 0
EndedStays = (terms : Terms) (p : Progress) (ms : List Mark) → p.ended ≡ true →
    after_marks terms p ms ≡ p

-- what was printed stays at the front of what is printed
abbrev pub PrintedStays : Type 0
PrintedStays = (terms : Terms) (p : Progress) (ms : List Mark) →
    (text : List ℕ) × ((after_marks terms p ms).printed ≡ p.printed ++ text)

-- what watchers were told stays at the front of what they are told
abbrev pub ToldStays : Type 0
ToldStays = (terms : Terms) (p : Progress) (ms : List Mark) →
    (more : List (List Notice)) × ((after_marks terms p ms).told ≡ joined p.told more)

-- each statement is counted, also one that faults
abbrev pub EachIsCounted : Type 0
EachIsCounted = (terms : Terms) (p : Progress) (m : Mark) →
    (after_mark terms p m).count ≡ next_count p.count

-- the notice is of the statement of this number
abbrev pub IsOf : (number : ℕ) → Notice → Type 0
IsOf number notice = notice.statement ≡ number

-- a statement's notices have as number how many there are with it
abbrev pub NoticesAreNumbered : Type 0
NoticesAreNumbered = (terms : Terms) (p : Progress) (m : Mark) (done : Done) →
    next_step p m ≡ Ok done → All (All (IsOf (after_mark terms p m).count)) done.told

-- a slot that has no watcher gets none
abbrev pub NoneComes : Type 0
NoneComes = (terms : Terms) (p : Progress) (ms : List Mark) →
    IsBelow (after_marks terms p ms).present p.present

-- so a run's slots are among those that it was given
abbrev pub NoneComesInARun : Type 0
NoneComesInARun = (terms : Terms) (script : List ℕ) →
    IsBelow (run terms script).present terms.present

-- where each attached slot has a watcher, so it is after any statements, as in each run
abbrev pub StayThere : Type 0
StayThere = (terms : Terms) (p : Progress) (ms : List Mark) →
    AreThere p.present p.state.watches →
    AreThere (after_marks terms p ms).present (after_marks terms p ms).state.watches

abbrev pub AreThereInARun : Type 0
AreThereInARun = (terms : Terms) (script : List ℕ) →
    AreThere (run terms script).present (run terms script).state.watches

-- a fault that came is remembered, whatever runs after it
abbrev pub FaultStays : Type 0
FaultStays = (terms : Terms) (p : Progress) (ms : List Mark) → p.faulted ≡ true →
    (after_marks terms p ms).faulted ≡ true

-- statements after others go on from what these come to
abbrev pub GoesOn : Type 0
GoesOn = (terms : Terms) (p : Progress) (ms more : List Mark) →
    after_marks terms p (ms ++ more) ≡ after_marks terms (after_marks terms p ms) more

-- without going on, a run is ended exactly where a statement wasn't run
abbrev pub FirstFaultEnds : Type 0
FirstFaultEnds = (terms : Terms) (script : List ℕ) → terms.keep ≡ false →
    (run terms script).ended ≡ went_wrong (run terms script)

-- where a run is ended, a statement wasn't run
abbrev pub EndedByAFault : Type 0
EndedByAFault = (terms : Terms) (ms : List Mark) →
    (after_marks terms (start terms) ms).ended ≡ true →
    went_wrong (after_marks terms (start terms) ms) ≡ true

-- the statements that memory refused stay written down, in the order in which they came
abbrev pub RefusedStay : Type 0
RefusedStay = (terms : Terms) (p : Progress) (ms : List Mark) →
    (more : List ℕ) × ((after_marks terms p ms).refused ≡ p.refused ++ more)

-- each of them is one for which the run was given no memory, and one to which it came
abbrev pub RefusedAreGiven : Type 0
RefusedAreGiven = (terms : Terms) (script : List ℕ) → All
    (λ number. (is_refused terms number ≡ true) × (number ≤ (run terms script).count))
    (run terms script).refused

-- their numbers rise
abbrev pub RefusedRise : Type 0
RefusedRise = (terms : Terms) (script : List ℕ) →
    IsStrictlyIncreasing (run terms script).refused

-- there are at most 64 of them
abbrev pub RefusedAreFew : Type 0
RefusedAreFew = (terms : Terms) (script : List ℕ) →
    length (run terms script).refused ≤ refused_limit

-- and none, where there is memory for each statement
abbrev pub NoneIsRefused : Type 0
NoneIsRefused = (terms : Terms) (script : List ℕ) → terms.refused ≡ [] →
    (run terms script).refused ≡ []

-- A statement that memory refuses prints its line alone, and changes nothing that a next one sees.
-- It ends the run unless that goes on after faults, or where it is the last one that may be
-- refused.
pub record IsRefusedAlone (terms : Terms) (p : Progress) (m : Mark) : Type 0 where
  pub state : (after_mark terms p m).state ≡ p.state
  pub text : (after_mark terms p m).printed ≡ p.printed ++ memory_line (line_of m)
  pub told : (after_mark terms p m).told ≡ p.told
  pub present : (after_mark terms p m).present ≡ p.present
  pub refused : (after_mark terms p m).refused ≡ p.refused ++ next_count p.count ∷ []
  pub faulted : (after_mark terms p m).faulted ≡ p.faulted
  pub ended : (after_mark terms p m).ended
      ≡ (fault_ends terms.keep m || nat_le refused_limit (length p.refused + 1))

-- at most so many statements of a run are refused
abbrev pub LimitIs : Type 0
LimitIs = refused_limit ≡ 64

abbrev pub RefusalsLeaveAll : Type 0
RefusalsLeaveAll = (terms : Terms) (p : Progress) (m : Mark) →
    is_refused terms (next_count p.count) ≡ true → IsRefusedAlone terms p m

-- a script that is too long ends its run, however it goes on after faults
abbrev pub TooLongEnds : Type 0
TooLongEnds = (terms : Terms) (script : List ℕ) → script_limit < length script →
    (run terms script).ended ≡ true

-- what stands past the byte past the limit doesn't count
abbrev pub LimitEnds : Type 0
LimitEnds = (terms : Terms) (script more : List ℕ) → script_limit < length script →
    run terms (script ++ more) ≡ run terms script

-- a run has come as far by the first bytes of a script as they settle them: from there
-- it goes on over further statements, whatever bytes follow
abbrev pub SoFarIsAFront : Type 0
SoFarIsAFront = (terms : Terms) (bytes more : List ℕ) →
    (ms : List Mark) × (run terms (bytes ++ more) ≡ after_marks terms (so_far terms bytes) ms)

-- and what it has printed by then is the front of all that it prints
abbrev pub SoFarIsPrinted : Type 0
SoFarIsPrinted = (terms : Terms) (bytes more : List ℕ) →
    (text : List ℕ) × ((run terms (bytes ++ more)).printed ≡ (so_far terms bytes).printed ++ text)

-- so is what watchers were told by then
abbrev pub SoFarIsTold : Type 0
SoFarIsTold = (terms : Terms) (bytes more : List ℕ) → (rest : List (List Notice)) ×
    ((run terms (bytes ++ more)).told ≡ joined (so_far terms bytes).told rest)

-- more bytes carry it on over further statements, from where it has come by the first ones
abbrev pub SoFarGrows : Type 0
SoFarGrows = (terms : Terms) (bytes more : List ℕ) →
    (ms : List Mark) × (so_far terms (bytes ++ more) ≡ after_marks terms (so_far terms bytes) ms)

-- where the bytes settle all of their statements, as behind a semicolon, the run has
-- come to its end by them
abbrev pub SoFarIsAll : Type 0
SoFarIsAll = (terms : Terms) (bytes : List ℕ) → settled bytes ≡ pieces bytes →
    so_far terms bytes ≡ run terms bytes
