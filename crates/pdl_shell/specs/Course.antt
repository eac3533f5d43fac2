-- How a runner carries a run on. The runner has no memory of what was printed and told: that the
-- sink and the watchers took.
use Rattle.std.specs.Prelude.{◌≡◌, ℕ, ◌+◌, ◌≤◌, ◌<◌, List, [], ◌∷◌, ◌++◌, length, take, map, Option, Some, None, Bool, false, Result, Ok, Err}
use Rattle.std.specs.List.{All}
use Rattle.std.specs.Io.KnownBytes.{Appends, Consumes}
use Rattle.pdl_lex.specs.Bytes.{newlines}
use Rattle.pdl_lex.specs.Limits.{script_limit}
use Rattle.pdl_lex.specs.Pieces.{Mark, statement, script_too_long, pieces, settled, settled_from}
use Rattle.pdl_watch.specs.Slots.{Slots, all_told, present_in, emptied, IsBelow, StartsWith}
use Rattle.pdl_machine.specs.State.{no_names}
use Rattle.pdl_machine.specs.Run.{Terms, Progress, is_among, is_refused, refused_limit, after_mark}
use Rattle.pdl_shell.specs.declared.runner.Runner.{Runner}
use Rattle.pdl_shell.specs.declared.stop.Stop.{Stop}
use Rattle.pdl_shell.specs.Outside.{Outlets, NoneFailed}
use Rattle.pdl_shell.specs.Answers.{HeardShort, IsShort, ending_of_run}
use Rattle.pdl_shell.specs.Stops.{SlotsFail, Fails, Leaves}
use Rattle.pdl_shell.specs.Pace.{Behind, end_of_input, past_limit, unknown, behind, marks_left, outcome}
use Rattle.pdl_shell.specs.Taken.{StopsSoon, terms_for}

-- a runner before the first byte of a script
pub record IsFresh (runner : Runner) : Type 0 where
  pub state : runner.session.state ≡ no_names
  pub unfaulted : runner.faulted ≡ false
  pub running : runner.ended ≡ false
  pub uncounted : runner.count ≡ 0
  pub unrefused : runner.refused ≡ []
  pub whole : (bytes : List ℕ) → marks_left end_of_input runner.cutter bytes
      ≡ map statement (pieces bytes)
  pub limited : (bytes : List ℕ) → marks_left past_limit runner.cutter bytes
      ≡ map statement (settled bytes) ++ script_too_long (1 + newlines bytes) ∷ []
  pub unended : (bytes : List ℕ) → marks_left unknown runner.cutter bytes
      ≡ map statement (settled bytes)
  pub none_left : settled_from runner.cutter [] ≡ []

-- what a runner has at hand for a statement: the line that says why it wasn't run, or else its text
abbrev pub shown : (line : Option (List ℕ)) → (text : List ℕ) → List ℕ
shown None text = text
shown (Some line) text = line

-- Of the statements that the runner has counted, memory refuses on these terms those that it
-- refused it. What it refuses later is open.
abbrev pub Foretells : Terms → Runner → Type 0
Foretells terms runner =
    (number : ℕ) → number ≤ runner.count → is_refused terms number ≡ is_among runner.refused number

-- The new runner has come further: of the statements that the old one had counted, none more is
-- refused.
pub record IsLater (old new : Runner) : Type 0 where
  pub counts : old.count ≤ new.count
  pub stays : (number : ℕ) → number ≤ old.count →
      is_among new.refused number ≡ is_among old.refused number

-- The runner has brought a run so far, whose slots were the first ones at its start: each watcher
-- was told all of its notices up to now, and those are gone that the script gave up.
pub record Follows (terms : Terms) (first : Slots) (runner : Runner) (now : Slots) (run : Progress)
    : Type 0 where
  pub keep : terms.keep ≡ runner.keep_going
  pub state : run.state ≡ runner.session.state
  pub faulted : run.faulted ≡ runner.faulted
  pub ended : run.ended ≡ runner.ended
  pub count : run.count ≡ runner.count
  pub refused : run.refused ≡ runner.refused
  pub room : runner.ended ≡ false → length runner.refused < refused_limit
  pub counted : All (λ number. number ≤ runner.count) runner.refused
  pub slots : now ≡ emptied (all_told first run.told) run.present
  pub present : IsBelow run.present (present_in first)

-- and the sink took what it printed
pub record Stands (terms : Terms) (first : Outlets) (runner : Runner) (now : Outlets) (run : Progress)
    : Type 0 where
  pub follows : Follows terms first.slots runner now.slots run
  pub text : Appends first.taken now.taken run.printed
  pub faults : now.faults ≡ first.faults

-- A runner ran a statement or didn't, and has this text at hand, whatever ran before it.
pub record Answers (mark : Mark) (old : Runner) (slots : Slots) (new : Runner) (now : Slots)
    (text : List ℕ) : Type 0 where
  pub later : IsLater old new
  pub follows : (terms : Terms) (first : Slots) (run : Progress) → Foretells terms new →
      Follows terms first old slots run → Follows terms first new now (after_mark terms run mark)
  pub printed : (terms : Terms) (first : Slots) (run : Progress) → Foretells terms new →
      Follows terms first old slots run →
      (after_mark terms run mark).printed ≡ run.printed ++ text

-- or stopped short of that; also then the run has met the statements that are noted as refused
pub record AnswersShort (mark : Mark) (old : Runner) (slots : Slots) (stop : Stop) (new : Runner)
    (now : Slots) : Type 0 where
  pub later : IsLater old new
  pub met : (terms : Terms) (first : Slots) (run : Progress) → Foretells terms new →
      Follows terms first old slots run → (after_mark terms run mark).refused ≡ new.refused
  pub heard : (terms : Terms) (first : Slots) (run : Progress) → Foretells terms new →
      Follows terms first old slots run →
      let after = after_mark terms run mark in HeardShort first after.told after.present now
  pub fails : (terms : Terms) (first : Slots) (run : Progress) → Foretells terms new →
      Follows terms first old slots run → SlotsFail stop first now

-- a runner ran a statement or didn't, and its text is written
pub record Runs (mark : Mark) (old : Runner) (out : Outlets) (new : Runner) (now : Outlets)
    : Type 0 where
  pub later : IsLater old new
  pub stands : (terms : Terms) (first : Outlets) (run : Progress) → Foretells terms new →
      Stands terms first old out run → Stands terms first new now (after_mark terms run mark)

-- or stopped short of that
pub record RunsShort (mark : Mark) (old : Runner) (out : Outlets) (stop : Stop) (new : Runner)
    (now : Outlets) : Type 0 where
  pub later : IsLater old new
  pub met : (terms : Terms) (first : Outlets) (run : Progress) → Foretells terms new →
      Stands terms first old out run → (after_mark terms run mark).refused ≡ new.refused
  pub short : (terms : Terms) (first : Outlets) (run : Progress) → Foretells terms new →
      Stands terms first old out run →
      IsShort (ending_of_run terms (after_mark terms run mark)) first now
  pub fails : (terms : Terms) (first : Outlets) (run : Progress) → Foretells terms new →
      Stands terms first old out run → Fails stop first now

-- Over these bytes the runner came to a new one, and of the bytes this rest is
-- still to come. Whatever ran before and whatever follows, the run comes to the same.
pub record Carries (bytes : List ℕ) (old : Runner) (out : Outlets)
    (rest : List ℕ) (new : Runner) (now : Outlets) : Type 0 where
  pub later : IsLater old new
  pub on : (terms : Terms) (first : Outlets) (run : Progress) → Foretells terms new →
      Stands terms first old out run →
      (run_now : Progress) × Stands terms first new now run_now
      × ((follows : Behind) (more : List ℕ) → outcome terms follows old.cutter run (bytes ++ more)
      ≡ outcome terms follows new.cutter run_now (rest ++ more))

-- The run stopped short over these bytes, whatever ran before and whatever follows; the statements
-- that are noted as refused are the first ones that the run of all of them meets.
pub record StopsShort (bytes : List ℕ) (old : Runner) (out : Outlets) (stop : Stop) (new : Runner)
    (now : Outlets) : Type 0 where
  pub later : IsLater old new
  pub met : (terms : Terms) (first : Outlets) (run : Progress) → Foretells terms new →
      Stands terms first old out run → (follows : Behind) (more : List ℕ) →
      StartsWith (outcome terms follows old.cutter run (bytes ++ more)).refused new.refused
  pub short : (terms : Terms) (first : Outlets) (run : Progress) → Foretells terms new →
      Stands terms first old out run → (follows : Behind) (more : List ℕ) →
      IsShort (ending_of_run terms (outcome terms follows old.cutter run (bytes ++ more))) first now
  pub fails : (terms : Terms) (first : Outlets) (run : Progress) → Foretells terms new →
      Stands terms first old out run → Fails stop first now

-- What is left was run, with no bytes left of the script, or none up to its limit.
pub record Finishes (is_cut : Bool) (old : Runner) (out : Outlets) (new : Runner) (now : Outlets)
    : Type 0 where
  pub later : IsLater old new
  pub stands : (terms : Terms) (first : Outlets) (run : Progress) → Foretells terms new →
      Stands terms first old out run →
      Stands terms first new now (outcome terms (behind is_cut) old.cutter run [])

-- The run stopped short of that.
pub record FinishesShort (is_cut : Bool) (old : Runner) (out : Outlets) (stop : Stop) (new : Runner)
    (now : Outlets) : Type 0 where
  pub later : IsLater old new
  pub met : (terms : Terms) (first : Outlets) (run : Progress) → Foretells terms new →
      Stands terms first old out run →
      (outcome terms (behind is_cut) old.cutter run []).refused ≡ new.refused
  pub short : (terms : Terms) (first : Outlets) (run : Progress) → Foretells terms new →
      Stands terms first old out run →
      IsShort (ending_of_run terms (outcome terms (behind is_cut) old.cutter run [])) first now
  pub fails : (terms : Terms) (first : Outlets) (run : Progress) → Foretells terms new →
      Stands terms first old out run → Fails stop first now

-- no call failed, or the one that the run stopped for
abbrev pub FailsWith : Result Bool Stop → Outlets → Outlets → Type 0
FailsWith (Ok faulted) old now = NoneFailed old now
FailsWith (Err stop) old now = Fails stop old now

-- The run came to its very end, or stopped short there, and these are the statements that memory
-- refused of it.
pub record Ends (is_cut : Bool) (old : Runner) (out : Outlets) (result : Result Bool Stop)
    (refused : List ℕ) (now : Outlets) : Type 0 where
  pub stays : (number : ℕ) → number ≤ old.count →
      is_among refused number ≡ is_among old.refused number
  pub met : (terms : Terms) (first : Outlets) (run : Progress) → terms.refused ≡ refused →
      Stands terms first old out run →
      (outcome terms (behind is_cut) old.cutter run []).refused ≡ refused
  pub leaves : (terms : Terms) (first : Outlets) (run : Progress) → terms.refused ≡ refused →
      Stands terms first old out run →
      Leaves result terms (outcome terms (behind is_cut) old.cutter run []) first now
  pub fails : (terms : Terms) (first : Outlets) (run : Progress) → terms.refused ≡ refused →
      Stands terms first old out run → FailsWith result first now

-- From a fresh runner the run came to this one by so many bytes of the source. The one past the
-- limit of a script was taken, but not run over.
pub record Comes (first : Runner) (left : Option (List ℕ)) (out : Outlets) (count : ℕ)
    (now : Runner) (left_now : Option (List ℕ)) (out_now : Outlets) : Type 0 where
  pub bytes : List ℕ
  pub counted : length bytes ≡ count
  pub all : Consumes left left_now bytes
  pub within : count ≤ script_limit + 1
  pub carried : Carries (take script_limit bytes) first out [] now out_now
  pub none_left : settled_from now.cutter [] ≡ []
  pub soon : (refused : List ℕ) → let terms = terms_for first.keep_going out.slots refused in
      Foretells terms now → StopsSoon terms bytes
