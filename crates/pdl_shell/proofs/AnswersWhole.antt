-- What an answer says of a run.
use Rattle.std.proofs.Common.{◌≡◌, ℕ, ◌+◌, List, [], ◌∷◌, Bool, true, false, inl, inr, Option, Some, None, Result, Ok, Err, length, refl, sym, ◌∙◌, ap, subst, arith}
use Rattle.std.specs.Prelude.{◌≢◌, OnOk}
use Rattle.std.proofs.lemmas.Bool.{true≢false}
use Rattle.std.specs.List.Sorted.{IsStrictlyIncreasing}
use Rattle.std.specs.Io.KnownBytes.{Appends}
use Rattle.pdl_io.specs.Counts.{Rose}
use Rattle.pdl_io.specs.Told.{Says, KeepsTelling, AppendsPrefix}
use Rattle.pdl_lex.specs.Limits.{script_limit}
use Rattle.pdl_watch.specs.Slots.{Slots, emptied, present_in}
use Rattle.pdl_watch.specs.SlotLaws.{EachIsToldItsOwn, NoneIsEmptied, QuietTellsNone, NothingEnds}
use Rattle.pdl_machine.specs.Run.{Terms, Progress, run}
use Rattle.pdl_machine.specs.RunLaws.{RefusedRise}
use Rattle.pdl_shell.specs.declared.words.Command.{Command}
use Rattle.pdl_shell.specs.declared.words.Command.TheVariants.{Run, Generate}
use Rattle.pdl_shell.specs.declared.stop.Stop.{Stop}
use Rattle.pdl_shell.specs.declared.stop.Stop.TheVariants.{Source, Sink, Watcher, NoMemory as NoRoom}
use Rattle.pdl_shell.specs.declared.status.Status.{Status}
use Rattle.pdl_shell.specs.declared.status.Status.TheVariants.{Done, ScriptFault, Usage, SourceFault, SinkFault, WatcherFault, NoMemory}
use Rattle.pdl_shell.specs.Command.{reads_source, usage_line}
use Rattle.pdl_shell.specs.Summary.{summary}
use Rattle.pdl_shell.specs.Outside.{Outlets, Outside, beside}
use Rattle.pdl_shell.specs.Answers.{CameToItsEnd, Ending, IsWhole, IsShort, HeardShort, Gives, CanAnswer, HasReason, IsUndisturbed, TakesAtMost, ending, aside, ending_of_run, slots_after, status_at_end, status_of_stop, status_after}
use Rattle.pdl_shell.specs.Taken.{Reads, terms_for}
use Rattle.pdl_shell.specs.Stops.{HasSinkCause, HasCauses, Leaves}
use Rattle.pdl_shell.specs.Calls.{RunsScript, IsAnswered}
use Rattle.pdl_shell.proofs.OutsideSlots.{counts_same, no_notices, heard_by}
use Rattle.pdl_shell.proofs.HeadlineLemmas.{rising_read}

-- what a status says of a run that came to its end
gives_at_end : (faulted : Bool) (refused : List ℕ) (e : Ending) (old new : Outlets) → status_at_end faulted refused ≡ e.status → IsWhole e old new
    → Gives (status_at_end faulted refused) e old new
gives_at_end true [] e old new is whole = (is, whole)
gives_at_end false [] e old new is whole = (is, whole)
gives_at_end faulted (n ∷ ns) e old new is whole = inl (is, whole)

-- and of any run
gives_after : (result : Result Bool Stop) (terms : Terms) (whole : Progress) (old new : Outlets) → Leaves result terms whole old new
    → Gives (status_after result terms.refused) (ending_of_run terms whole) old new
gives_after (Ok faulted) terms whole old new left =
    gives_at_end faulted terms.refused (ending_of_run terms whole) old new
    (ap (λ (b : Bool). status_at_end b terms.refused) left.0 ∙ ap (λ (ns : List ℕ). status_at_end whole.faulted ns) (sym left.1.met)) left.1
gives_after (Err Source) terms whole old new left = left
gives_after (Err Sink) terms whole old new left = left
gives_after (Err Watcher) terms whole old new left = left
gives_after (Err NoRoom) terms whole old new left = inr left

-- and of the counts
reason_at_end : (faulted : Bool) (refused : List ℕ) (old new : Outside) → HasReason Done old new → HasReason (status_at_end faulted refused) old new
reason_at_end true [] old new quiet = quiet
reason_at_end false [] old new quiet = quiet
reason_at_end faulted (n ∷ ns) old new quiet = quiet

reason_after : (result : Result Bool Stop) (refused : List ℕ) (old new : Outside) → HasCauses old new result → HasReason (status_after result refused) old new
reason_after (Ok faulted) refused old new causes = reason_at_end faulted refused old new causes
reason_after (Err stop) refused old new causes = causes

-- and of how the run can be answered, and of the sink
answers_at_end : (faulted : Bool) (refused : List ℕ) (keep : Bool) → CanAnswer (Some (Run keep)) (status_at_end faulted refused)
answers_at_end true [] keep = tt
answers_at_end false [] keep = tt
answers_at_end faulted (n ∷ ns) keep = tt

answers_after : (result : Result Bool Stop) (refused : List ℕ) (keep : Bool) → CanAnswer (Some (Run keep)) (status_after result refused)
answers_after (Ok faulted) refused keep = answers_at_end faulted refused keep
answers_after (Err Source) refused keep = tt
answers_after (Err Sink) refused keep = tt
answers_after (Err Watcher) refused keep = tt
answers_after (Err NoRoom) refused keep = tt

flushed_after : (result : Result Bool Stop) (refused : List ℕ) (told : Option Bool) → OnOk result (Says told true) → CameToItsEnd (status_after result refused) → Says told true
flushed_after (Ok x) refused told flushed ended = flushed
flushed_after (Err Source) refused told flushed ended = absurd ended
flushed_after (Err Sink) refused told flushed ended = absurd ended
flushed_after (Err Watcher) refused told flushed ended = absurd ended
flushed_after (Err NoRoom) refused told flushed ended = absurd ended

-- what is said of the run that goes on or doesn't, with these refused statements, is said of the same
pub runs_by : (k keep : Bool) → k ≡ keep → (ns refused : List ℕ) → ns ≡ refused → (result : Result Bool Stop) (old new : Outside)
    → RunsScript k ns result old new → RunsScript keep refused result old new
runs_by k keep same ns refused known result old new runs =
    subst (λ (all : List ℕ). RunsScript keep all result old new) known (subst (λ (b : Bool). RunsScript b ns result old new) same runs)

-- what is said of one request is said of the same
reads_keep : (a b : Bool) → a ≡ b → (refused : List ℕ) (status : Status) (old new : Outside) → Reads a refused status old new → Reads b refused status old new
reads_keep a b same refused status old new reads = subst (λ (k : Bool). Reads k refused status old new) same reads

-- of the same request and the same refused statements the same is said
pub answered_by : (a b : Option Command) → a ≡ b → (ns refused : List ℕ) → ns ≡ refused → (status : Status) (old new : Outside)
    → IsAnswered a ns status old new → IsAnswered b refused status old new
answered_by a b same ns refused known status old new answered =
    subst (λ (all : List ℕ). IsAnswered b all status old new) known (subst (λ (o : Option Command). IsAnswered o ns status old new) same answered)

answered_so : (asked : Option Command) (refused : List ℕ) (wanted status : Status) → status ≡ wanted → (old new : Outside)
    → IsAnswered asked refused wanted old new → IsAnswered asked refused status old new
answered_so asked refused wanted status is old new answered = subst (λ (s : Status). IsAnswered asked refused s old new) (sym is) answered

-- the source is read for a run alone
pub read_for_a_run : (asked : Option Command) (keep : Bool) → asked ≡ Some (Run keep) → ¬ (reads_source asked ≡ false)
read_for_a_run asked keep is unread = true≢false (ap reads_source (sym is) ∙ unread)

pub same_reading : (a b : Option Command) → a ≡ b → reads_source b ≡ false → reads_source a ≡ false
same_reading a b same unread = ap reads_source same ∙ unread

run_same : (a b : Bool) → Some (Run a) ≡ Some (Run b) → a ≡ b
run_same a b is = cc

generate_is : (k keep : Bool) (rounds : ℕ) → Some (Generate k rounds) ≡ Some (Run keep) → ⊥
generate_is k keep rounds is = cc

none_is : (keep : Bool) → None ≡ Some (Run keep) → ⊥
none_is keep is = cc

-- the run of the source's script is what was asked for
pub answered_run : RefusedRise → (result : Result Bool Stop) (keep : Bool) (refused : List ℕ) (status : Status) → status ≡ status_after result refused → (old new : Outside)
    → RunsScript keep refused result old new → IsAnswered (Some (Run keep)) refused status old new
answered_run rising result keep refused status is old new runs =
    answered_so (Some (Run keep)) refused (status_after result refused) status is old new (record {
      model = λ script given.
          let terms : Terms = terms_for keep old.out.slots refused in
          gives_after result terms (run terms script) old.out new.out (runs.leaves script (given refl));
      answers = answers_after result refused keep;
      reads = λ other same. reads_keep keep other (run_same keep other same) refused (status_after result refused) old new runs.reads;
      rising = rising_read rising keep refused (status_after result refused) old new runs.reads;
      at_most = runs.at_most;
      reason = reason_after result refused old new runs.causes;
      flushed = flushed_after result refused new.out.flushed runs.flushed;
      tells = runs.tells;
    })

-- a call came to its end where no count rose
pub quiet_complete : (status : Status) (old new : Outside) → HasReason status old new → IsUndisturbed old new → status ≢ NoMemory → CameToItsEnd status
quiet_complete Done old new reason quiet memory = tt
quiet_complete ScriptFault old new reason quiet memory = tt
quiet_complete Usage old new reason quiet memory = tt
quiet_complete SourceFault old new reason quiet memory = quiet.source reason.0
quiet_complete SinkFault old new reason quiet memory = quiet.sink reason.0
quiet_complete WatcherFault old new reason quiet memory = quiet.watchers reason.0.at reason.0.rose
quiet_complete NoMemory old new reason quiet memory = absurd (memory refl)

-- a call that runs no script of the source leaves the slots as they are
aside_same : NoneIsEmptied → QuietTellsNone → NothingEnds → (status : Status) (text : List ℕ) (slots : Slots) → slots_after (aside status text (present_in slots)) slots ≡ slots
aside_same none quiet nothing status text slots =
    nothing _ ∙ ap (λ (ss : Slots). emptied ss (present_in slots)) (quiet slots [] no_notices) ∙ none slots

aside_whole : NoneIsEmptied → QuietTellsNone → NothingEnds → (status : Status) (text : List ℕ) (slots : Slots) (old new : Option (List ℕ)) (flushed flushed' : Option Bool) (faults faults' : ℕ)
    → Appends old new text → Says flushed' true
    → IsWhole (aside status text (present_in slots)) (record { taken = old; flushed = flushed; faults = faults; slots = slots })
    (record { taken = new; flushed = flushed'; faults = faults'; slots = slots })
aside_whole none quiet nothing status text slots old new flushed flushed' faults faults' wrote says =
    record { text = wrote; flushed = says; met = refl; slots = sym (aside_same none quiet nothing status text slots) }

aside_short : EachIsToldItsOwn → NoneIsEmptied → QuietTellsNone → (status : Status) (text : List ℕ) (slots : Slots) (old new : Option (List ℕ)) (flushed flushed' : Option Bool) (faults faults' : ℕ)
    → AppendsPrefix old new text
    → IsShort (aside status text (present_in slots)) (record { taken = old; flushed = flushed; faults = faults; slots = slots })
    (record { taken = new; flushed = flushed'; faults = faults'; slots = slots })
aside_short each none quiet status text slots old new flushed flushed' faults faults' wrote =
    let same = ap (λ (ss : Slots). emptied ss (present_in slots)) (quiet slots [] no_notices) ∙ none slots in
    record {
      text = wrote;
      slots = subst (λ (ss : Slots). HeardShort slots [] (present_in slots) ss) same (heard_by each slots [] (present_in slots) (ap length same));
    }

-- a summary that couldn't be written
aside_stops : EachIsToldItsOwn → NoneIsEmptied → QuietTellsNone → (stop : Stop) (status : Status) (text : List ℕ) (slots : Slots) (old new : Option (List ℕ)) (flushed flushed' : Option Bool) (faults faults' : ℕ)
    → HasSinkCause {T = Unit {0}} faults faults' (Err stop) → AppendsPrefix old new text
    → Gives (status_of_stop stop) (aside status text (present_in slots)) (record { taken = old; flushed = flushed; faults = faults; slots = slots })
    (record { taken = new; flushed = flushed'; faults = faults'; slots = slots })
aside_stops each none quiet Source status text slots old new flushed flushed' faults faults' cause wrote = absurd cause
aside_stops each none quiet Sink status text slots old new flushed flushed' faults faults' cause wrote =
    aside_short each none quiet status text slots old new flushed flushed' faults faults' wrote
aside_stops each none quiet Watcher status text slots old new flushed flushed' faults faults' cause wrote = absurd cause
aside_stops each none quiet NoRoom status text slots old new flushed flushed' faults faults' cause wrote =
    inr (aside_short each none quiet status text slots old new flushed flushed' faults faults' wrote)

aside_reason : (stop : Stop) (left : Option (List ℕ)) (reads : ℕ) (slots : Slots) (old new : Option (List ℕ)) (flushed flushed' : Option Bool) (faults faults' : ℕ)
    → HasSinkCause {T = Unit {0}} faults faults' (Err stop)
    → HasReason (status_of_stop stop)
    (record { left = left; faults = reads; out = record { taken = old; flushed = flushed; faults = faults; slots = slots } })
    (record { left = left; faults = reads; out = record { taken = new; flushed = flushed'; faults = faults'; slots = slots } })
aside_reason Source left reads slots old new flushed flushed' faults faults' cause = absurd cause
aside_reason Sink left reads slots old new flushed flushed' faults faults' cause = (cause, refl, counts_same slots)
aside_reason Watcher left reads slots old new flushed flushed' faults faults' cause = absurd cause
aside_reason NoRoom left reads slots old new flushed flushed' faults faults' cause = (refl, (cause, counts_same slots))

aside_answers : (stop : Stop) (keep : Bool) (rounds faults faults' : ℕ) → HasSinkCause {T = Unit {0}} faults faults' (Err stop)
    → CanAnswer (Some (Generate keep rounds)) (status_of_stop stop)
aside_answers Source keep rounds faults faults' cause = absurd cause
aside_answers Sink keep rounds faults faults' cause = tt
aside_answers Watcher keep rounds faults faults' cause = absurd cause
aside_answers NoRoom keep rounds faults faults' cause = tt

-- no statement is refused, and nothing is read
none_rise : IsStrictlyIncreasing []
none_rise k lt = absurd (omega (arith, lt))

untaken : (left : Option (List ℕ)) → TakesAtMost (script_limit + 1) left left
untaken left = record { count = 0; within = omega arith; rest = λ bytes is. is }

-- a run that stopped short hasn't come to its end
stops_unended : (stop : Stop) → ¬ CameToItsEnd (status_of_stop stop)
stops_unended Source ended = ended
stops_unended Sink ended = ended
stops_unended Watcher ended = ended
stops_unended NoRoom ended = ended

-- words that are no spelling were answered by the usage line, or it couldn't be written
module _ (each : EachIsToldItsOwn) (none : NoneIsEmptied) (quiet : QuietTellsNone) (ends : NothingEnds) (left : Option (List ℕ)) (reads : ℕ) (slots : Slots)
    (old new : Option (List ℕ)) (flushed flushed' : Option Bool) (faults faults' : ℕ) (tells : KeepsTelling flushed flushed') where
  abbrev before : Outside
  before = beside left reads (record { taken = old; flushed = flushed; faults = faults; slots = slots })

  abbrev now : Outside
  now = beside left reads (record { taken = new; flushed = flushed'; faults = faults'; slots = slots })

  pub usage_written : Appends old new usage_line → Says flushed' true → faults' ≡ faults → IsAnswered None [] Usage before now
  usage_written wrote says kept = record {
    model = λ script given. (refl, aside_whole none quiet ends Usage usage_line slots old new flushed flushed' faults faults' wrote says);
    answers = tt;
    reads = λ keep is. absurd (none_is keep is);
    rising = none_rise;
    at_most = untaken left;
    reason = (refl, (kept, counts_same slots));
    flushed = λ ended. says;
    tells = tells;
  }

  pub usage_unwritten : AppendsPrefix old new usage_line → Rose faults faults' → IsAnswered None [] SinkFault before now
  usage_unwritten wrote rose = record {
    model = λ script given. aside_short each none quiet Usage usage_line slots old new flushed flushed' faults faults' wrote;
    answers = tt;
    reads = λ keep is. absurd (none_is keep is);
    rising = none_rise;
    at_most = untaken left;
    reason = (rose, refl, counts_same slots);
    flushed = λ ended. absurd ended;
    tells = tells;
  }

  -- the summary of a generated script was written, or it couldn't be
  pub summary_written : (keep : Bool) (rounds : ℕ) → Appends old new (summary keep rounds) → Says flushed' true → faults' ≡ faults
      → IsAnswered (Some (Generate keep rounds)) [] Done before now
  summary_written keep rounds wrote says kept = record {
    model = λ script given. (refl, aside_whole none quiet ends Done (summary keep rounds) slots old new flushed flushed' faults faults' wrote says);
    answers = tt;
    reads = λ other is. absurd (generate_is keep other rounds is);
    rising = none_rise;
    at_most = untaken left;
    reason = (refl, (kept, counts_same slots));
    flushed = λ ended. says;
    tells = tells;
  }

  pub summary_unwritten : (keep : Bool) (rounds : ℕ) (stop : Stop) (status : Status) → status ≡ status_of_stop stop → HasSinkCause {T = Unit {0}} faults faults' (Err stop)
      → AppendsPrefix old new (summary keep rounds) → IsAnswered (Some (Generate keep rounds)) [] status before now
  summary_unwritten keep rounds stop status is cause wrote =
      answered_so (Some (Generate keep rounds)) [] (status_of_stop stop) status is before now (record {
        model = λ script given. aside_stops each none quiet stop Done (summary keep rounds) slots old new flushed flushed' faults faults' cause wrote;
        answers = aside_answers stop keep rounds faults faults' cause;
        reads = λ other same. absurd (generate_is keep other rounds same);
        rising = none_rise;
        at_most = untaken left;
        reason = aside_reason stop left reads slots old new flushed flushed' faults faults' cause;
        flushed = λ ended. absurd (stops_unended stop ended);
        tells = tells;
      })
