-- A runner that follows a run, and stands for what was given out: one statement more, or a stop at it.
use Rattle.std.proofs.Common.{◌≡◌, ℕ, ◌+◌, ◌^◌, ◌<◌, ◌≤◌, List, [], ◌∷◌, ◌++◌, length, Bool, true, false, cond, Option, Result, Ok, Err, refl, sym, ◌∙◌, ap, subst, arith, append_assoc, length-append}
use Rattle.std.specs.Prelude.{◌||◌, nat_lt, nat_le, OnOk, OnErr, IfErr}
use Rattle.std.specs.List.{All}
use Rattle.std.proofs.Math.Nat.{le_refl, le_trans}
use Rattle.std.proofs.lemmas.List.Elements.{All-append, All-cons, All-nil}
use Rattle.std.specs.Result.{IsErrAnd}
use Rattle.std.specs.Io.KnownBytes.{Appends}
use Rattle.pdl_io.specs.Counts.{next_count, Rose}
use Rattle.pdl_io.specs.Told.{AppendsPrefix}
use Rattle.pdl_lex.specs.Pieces.{Mark}
use Rattle.pdl_watch.specs.declared.notice.Notice.{Notice}
use Rattle.std.proofs.lemmas.Bool.{true≢false, leb-false}
use Rattle.std.proofs.lemmas.List.{length-map}
use Rattle.pdl_watch.specs.Watched.{Watched}
use Rattle.pdl_watch.specs.Slots.{Slots, slots_by, AreOpen, OneMissed, all_told, emptied, present_in, joined, IsBelow, ToldShort}
use Rattle.pdl_machine.specs.declared.fault.Fault.{Fault}
use Rattle.pdl_machine.specs.State.{State}
use Rattle.pdl_machine.specs.Step.{Done}
use Rattle.pdl_machine.specs.Run.{Terms, Progress, mark_step, next_step, counted, line_of, fault_ends, fault_line, memory_line, is_among, is_refused, refused_limit, after, after_refusal, after_mark, after_marks}
use Rattle.pdl_scope.specs.Scope.{slots_limit}
use Rattle.pdl_session.specs.Watching.{AreServed, HasDone, StopsStep}
use Rattle.pdl_shell.specs.declared.runner.Runner.{Runner}
use Rattle.pdl_shell.specs.declared.stop.Stop.{Stop}
use Rattle.pdl_shell.specs.declared.stop.Stop.TheVariants.{Source, Sink, Watcher, NoMemory}
use Rattle.pdl_shell.specs.Outside.{Outlets, CountsStay}
use Rattle.pdl_shell.specs.Answers.{HeardShort, IsShort, ending_of_run}
use Rattle.pdl_shell.specs.Stops.{SlotsFail, Fails, HasSinkCause}
use Rattle.pdl_shell.specs.CourseLaws.{Laws}
use Rattle.pdl_shell.specs.Course.{IsFresh, Foretells, Follows, Stands, Answers, AnswersShort, Runs, RunsShort}
use Rattle.pdl_shell.proofs.OutsideSlots.{counts_by, one_rose, heard_by, heard_later, heard_then}
use Rattle.pdl_shell.proofs.CourseRefusals.{unrefused, last_among, added, later_by, later_refused}
use Rattle.pdl_shell.proofs.AnswersTaken.{is_prefix-refl, is_prefix-trans, appends_then}

-- before a fault has ended the run the next statement is run
pub after_marks-cons : (terms : Terms) (p : Progress) (m : Mark) (ms : List Mark) → p.ended ≡ false
    → after_marks terms p (m ∷ ms) ≡ after_marks terms (after_mark terms p m) ms
after_marks-cons terms p m ms running = rw running refl

after_one : (terms : Terms) (p : Progress) (m : Mark) → p.ended ≡ false → after_marks terms p (m ∷ []) ≡ after_mark terms p m
after_one terms p m running = after_marks-cons terms p m [] running

slots_long : Laws → (first : Slots) (xs : List (List Notice)) (ps : List Bool) → length (emptied (all_told first xs) ps) ≡ length first
slots_long laws first xs ps = laws.long (all_told first xs) ps ∙ laws.told_long first xs

-- what was heard of a run is the front of what more statements tell
pub heard_marks : Laws → (terms : Terms) (first now : Slots) (p : Progress) (ms : List Mark) → HeardShort first p.told p.present now
    → HeardShort first (after_marks terms p ms).told (after_marks terms p ms).present now
heard_marks laws terms first now p ms heard =
    let more = laws.told terms p ms in
    subst (λ (told : List (List Notice)). HeardShort first told (after_marks terms p ms).present now) (sym more.1)
    (heard_later laws.joins first p.told more.0 p.present (after_marks terms p ms).present now (laws.none_comes terms p ms) heard)

pub short_marks : Laws → (terms : Terms) (first now : Outlets) (p : Progress) (ms : List Mark) → IsShort (ending_of_run terms p) first now
    → IsShort (ending_of_run terms (after_marks terms p ms)) first now
short_marks laws terms first now p ms short = record {
  text = (short.text.0, is_prefix-trans short.text.0 p.printed (after_marks terms p ms).printed short.text.1 (laws.printed terms p ms), short.text.2);
  slots = heard_marks laws terms first.slots now.slots p ms short.slots;
}

module _ (laws : Laws) (terms : Terms) (first : Slots) (old : Runner) (slots : Slots) (run : Progress) (f : Follows terms first old slots run) where
  pub present_is : run.present ≡ present_in slots
  present_is =
      let below : IsBelow run.present (present_in (all_told first run.told)) =
      subst (λ (ps : List Bool). IsBelow run.present ps) (sym (laws.keeps first run.told)) f.present in
      sym (ap present_in f.slots ∙ laws.leaves (all_told first run.told) run.present below)

  pub heard_follows : HeardShort first run.told run.present slots
  heard_follows =
      subst (λ (ss : Slots). HeardShort first run.told run.present ss) (sym f.slots)
      (heard_by laws.each first run.told run.present (slots_long laws first run.told run.present))

  pub counts_follow : CountsStay first slots
  counts_follow = subst (λ (ss : Slots). CountsStay first ss) (sym f.slots) (counts_by first run.told run.present)

  -- the statement that comes next comes to the same in the run
  stepped : (m : Mark) (r : Result Done Fault) → mark_step (next_count old.count) (present_in slots) old.session.state m ≡ r → next_step run m ≡ r
  stepped m r is =
      ap (λ (n : ℕ). mark_step (next_count n) run.present run.state m) f.count
      ∙ ap (λ (ps : List Bool). mark_step (next_count old.count) ps run.state m) present_is
      ∙ ap (λ (s : State). mark_step (next_count old.count) (present_in slots) s m) f.state
      ∙ is

  -- where memory doesn't refuse it
  spared : (new : Runner) → Foretells terms new → old.count < 2 ^ 63 → new.count ≡ next_count old.count → new.refused ≡ old.refused
      → is_refused terms (next_count run.count) ≡ false
  spared new fore small count same =
      let more : old.count < new.count = omega (arith, count, small) in
      ap (is_refused terms) (ap next_count f.count ∙ sym count)
      ∙ fore new.count (le_refl new.count)
      ∙ ap (λ (ns : List ℕ). is_among ns new.count) same
      ∙ unrefused old.refused old.count new.count f.counted more

  after_spared : (m : Mark) → is_refused terms (next_count run.count) ≡ false
      → after_mark terms run m ≡ after (fault_ends terms.keep m) (counted run) (line_of m) (next_step run m)
  after_spared m spared = rw spared refl

  after_refused : (m : Mark) → is_refused terms (next_count run.count) ≡ true → after_mark terms run m ≡ after_refusal (fault_ends terms.keep m) (counted run) (line_of m)
  after_refused m refused = rw refused refl

  stepped_after : (m : Mark) (r : Result Done Fault) → is_refused terms (next_count run.count) ≡ false
      → mark_step (next_count old.count) (present_in slots) old.session.state m ≡ r
      → after_mark terms run m ≡ after (fault_ends terms.keep m) (counted run) (line_of m) r
  stepped_after m r spared is = after_spared m spared ∙ ap (after (fault_ends terms.keep m) (counted run) (line_of m)) (stepped m r is)

  -- of the slots none comes
  below_step : old.ended ≡ false → (m : Mark) (d : Done) → is_refused terms (next_count run.count) ≡ false
      → mark_step (next_count old.count) (present_in slots) old.session.state m ≡ Ok d → IsBelow d.present run.present
  below_step running m d spared is =
      subst (λ (p : Progress). IsBelow p.present run.present)
      (after_one terms run m (f.ended ∙ running) ∙ stepped_after m (Ok d) spared is)
      (laws.none_comes terms run (m ∷ []))

  slots_step : (ys : List (List Notice)) (qs : List Bool) → IsBelow qs run.present
      → emptied (all_told slots ys) qs ≡ emptied (all_told first (joined run.told ys)) qs
  slots_step ys qs below =
      ap (λ (ss : Slots). emptied (all_told ss ys) qs) f.slots
      ∙ ap (λ (ss : Slots). emptied ss qs) (laws.beside (all_told first run.told) run.present ys)
      ∙ laws.twice (all_told (all_told first run.told) ys) run.present qs below
      ∙ ap (λ (ss : Slots). emptied ss qs) (laws.told_twice first run.told ys)

  module _ (new : Runner) (now : Slots) (m : Mark) (fore : Foretells terms new) (small : old.count < 2 ^ 63) (running : old.ended ≡ false)
      (keep : new.keep_going ≡ old.keep_going) (count : new.count ≡ next_count old.count) where
    -- the numbers of refused statements are of statements that came
    still_counted : All (λ n. n ≤ new.count) old.refused
    still_counted =
        let later : old.count ≤ new.count = omega (arith, count, small) in
        λ k d lt. le_trans (f.counted k d lt) later

    follows_done : HasDone (mark_step (next_count old.count) (present_in slots) old.session.state m) new.session.state [] new.text.items slots now
        → new.faulted ≡ old.faulted → new.ended ≡ old.ended → new.refused ≡ old.refused
        → Follows terms first new now (after_mark terms run m) × ((after_mark terms run m).printed ≡ run.printed ++ new.text.items)
    follows_done did faulted ended same =
        let goes : is_refused terms (next_count run.count) ≡ false = spared new fore small count same in
        let below : IsBelow did.done.present run.present = below_step running m did.done goes did.is in
        subst (λ (p : Progress). Follows terms first new now p × (p.printed ≡ run.printed ++ new.text.items)) (sym (stepped_after m (Ok did.done) goes did.is)) (
          record {
            keep = f.keep ∙ sym keep;
            state = sym did.state;
            faulted = f.faulted ∙ sym faulted;
            ended = f.ended ∙ sym ended;
            count = ap next_count f.count ∙ sym count;
            refused = f.refused ∙ sym same;
            room = λ going. subst (λ (ns : List ℕ). length ns < refused_limit) (sym same) (f.room running);
            counted = subst (λ (ns : List ℕ). All (λ n. n ≤ new.count) ns) (sym same) still_counted;
            slots = did.slots ∙ slots_step did.done.told did.done.present below;
            present = laws.below_twice did.done.present run.present (present_in first) below f.present;
          },
          ap (λ (u : List ℕ). run.printed ++ u) (sym did.printed),
        )

    follows_fault : (e : Fault) (line : List ℕ) → mark_step (next_count old.count) (present_in slots) old.session.state m ≡ Err e
        → new.session.state ≡ old.session.state → now ≡ slots → line ≡ fault_line (line_of m) e
        → new.faulted ≡ true → new.ended ≡ fault_ends old.keep_going m → new.refused ≡ old.refused
        → Follows terms first new now (after_mark terms run m) × ((after_mark terms run m).printed ≡ run.printed ++ line)
    follows_fault e line is state unmoved text faulted ended same =
        subst (λ (p : Progress). Follows terms first new now p × (p.printed ≡ run.printed ++ line)) (sym (stepped_after m (Err e) (spared new fore small count same) is)) (
          record {
            keep = f.keep ∙ sym keep;
            state = f.state ∙ sym state;
            faulted = sym faulted;
            ended = ap (λ (k : Bool). fault_ends k m) f.keep ∙ sym ended;
            count = ap next_count f.count ∙ sym count;
            refused = f.refused ∙ sym same;
            room = λ going. subst (λ (ns : List ℕ). length ns < refused_limit) (sym same) (f.room running);
            counted = subst (λ (ns : List ℕ). All (λ n. n ≤ new.count) ns) (sym same) still_counted;
            slots = unmoved ∙ f.slots;
            present = f.present;
          },
          ap (λ (u : List ℕ). run.printed ++ u) (sym text),
        )

    follows_refused : (line : List ℕ) → new.session.state ≡ old.session.state → now ≡ slots → line ≡ memory_line (line_of m)
        → new.faulted ≡ old.faulted → new.refused ≡ old.refused ++ new.count ∷ []
        → new.ended ≡ (fault_ends old.keep_going m || nat_le refused_limit (length new.refused))
        → Follows terms first new now (after_mark terms run m) × ((after_mark terms run m).printed ≡ run.printed ++ line)
    follows_refused line state unmoved text faulted grown ended =
        let numbered : next_count run.count ≡ new.count = ap next_count f.count ∙ sym count in
        let refuses : is_refused terms (next_count run.count) ≡ true =
        ap (is_refused terms) numbered ∙ fore new.count (le_refl new.count) ∙ ap (λ (ns : List ℕ). is_among ns new.count) grown ∙ last_among old.refused new.count in
        let long : length new.refused ≡ length run.refused + 1 =
        ap length grown ∙ length-append old.refused (new.count ∷ []) ∙ ap (λ (ns : List ℕ). length ns + 1) (sym f.refused) in
        subst (λ (p : Progress). Follows terms first new now p × (p.printed ≡ run.printed ++ line)) (sym (after_refused m refuses)) (
          record {
            keep = f.keep ∙ sym keep;
            state = f.state ∙ sym state;
            faulted = f.faulted ∙ sym faulted;
            ended = ap (λ (k : Bool). fault_ends k m || nat_le refused_limit (length run.refused + 1)) f.keep
                ∙ ap (λ (n : ℕ). fault_ends old.keep_going m || nat_le refused_limit n) (sym long)
                ∙ sym ended;
            count = numbered;
            refused = ap (λ (ns : List ℕ). ns ++ next_count run.count ∷ []) f.refused ∙ ap (λ (n : ℕ). old.refused ++ n ∷ []) numbered ∙ sym grown;
            room = λ going. leb-false refused_limit (length new.refused) (not_full (fault_ends old.keep_going m) (sym ended ∙ going));
            counted = subst (λ (ns : List ℕ). All (λ n. n ≤ new.count) ns) (sym grown)
                (All-append (λ n. n ≤ new.count) old.refused (new.count ∷ []) still_counted
                (All-cons (λ n. n ≤ new.count) new.count [] (le_refl new.count) (All-nil (λ n. n ≤ new.count))));
            slots = unmoved ∙ f.slots;
            present = f.present;
          },
          ap (λ (u : List ℕ). run.printed ++ u) (sym text),
        )
      where
        not_full : (ends : Bool) → (ends || nat_le refused_limit (length new.refused)) ≡ false → nat_le refused_limit (length new.refused) ≡ false
        not_full true going = cc
        not_full false going = going

  heard_stopped : old.ended ≡ false → (m : Mark) (now : Slots) → is_refused terms (next_count run.count) ≡ false
      → StopsStep (mark_step (next_count old.count) (present_in slots) old.session.state m) slots now
      → HeardShort first (after_mark terms run m).told (after_mark terms run m).present now
  heard_stopped running m now goes stopped =
      let d = stopped.done in
      subst (λ (p : Progress). HeardShort first p.told p.present now) (sym (stepped_after m (Ok d) goes stopped.is))
      (heard_then laws.each laws.joins first run.told d.told run.present d.present now (below_step running m d goes stopped.is) (slots_long laws first run.told run.present)
      (subst (λ (ss : Slots). ToldShort ss d.told now) f.slots stopped.short))

  -- the statement was run, as far as memory is concerned
  met_stopped : (m : Mark) (now : Slots) (new : Runner) → new.refused ≡ old.refused → is_refused terms (next_count run.count) ≡ false
      → StopsStep (mark_step (next_count old.count) (present_in slots) old.session.state m) slots now
      → (after_mark terms run m).refused ≡ new.refused
  met_stopped m now new same goes stopped =
      ap (λ (p : Progress). p.refused) (stepped_after m (Ok stopped.done) goes stopped.is) ∙ f.refused ∙ sym same

-- a statement of this number was run
pub answers_done : Laws → (old new : Runner) (slots now : Slots) (m : Mark) (number : ℕ) → old.count < 2 ^ 63 → old.ended ≡ false
    → number ≡ next_count old.count → new.keep_going ≡ old.keep_going → new.count ≡ number → new.faulted ≡ old.faulted → new.ended ≡ old.ended
    → new.refused ≡ old.refused
    → HasDone (mark_step number (present_in slots) old.session.state m) new.session.state [] new.text.items slots now
    → Answers m old slots new now new.text.items
answers_done laws old new slots now m number small running is_number keep count faulted ended same done =
    let did : HasDone (mark_step (next_count old.count) (present_in slots) old.session.state m) new.session.state [] new.text.items slots now =
    subst (λ (n : ℕ). HasDone (mark_step n (present_in slots) old.session.state m) new.session.state [] new.text.items slots now) is_number done in
    let counts : new.count ≡ next_count old.count = count ∙ is_number in
    record {
      later = later_by old new (omega (arith, counts, small)) same;
      follows = λ terms first run fore f. (follows_done laws terms first old slots run f new now m fore small running keep counts did faulted ended same).0;
      printed = λ terms first run fore f. (follows_done laws terms first old slots run f new now m fore small running keep counts did faulted ended same).1;
    }

-- or has its fault
pub answers_fault : Laws → (old new : Runner) (slots now : Slots) (m : Mark) (number : ℕ) (e : Fault) (line : List ℕ) → old.count < 2 ^ 63 → old.ended ≡ false
    → number ≡ next_count old.count → new.keep_going ≡ old.keep_going → new.count ≡ number → new.faulted ≡ true → new.ended ≡ fault_ends old.keep_going m
    → new.refused ≡ old.refused → mark_step number (present_in slots) old.session.state m ≡ Err e
    → new.session.state ≡ old.session.state → now ≡ slots → line ≡ fault_line (line_of m) e
    → Answers m old slots new now line
answers_fault laws old new slots now m number e line small running is_number keep count faulted ended same stepped same_state unmoved text =
    let is : mark_step (next_count old.count) (present_in slots) old.session.state m ≡ Err e =
    subst (λ (n : ℕ). mark_step n (present_in slots) old.session.state m ≡ Err e) is_number stepped in
    let counts : new.count ≡ next_count old.count = count ∙ is_number in
    record {
      later = later_by old new (omega (arith, counts, small)) same;
      follows = λ terms first run fore f. (follows_fault laws terms first old slots run f new now m fore small running keep counts e line is same_state unmoved text faulted ended same).0;
      printed = λ terms first run fore f. (follows_fault laws terms first old slots run f new now m fore small running keep counts e line is same_state unmoved text faulted ended same).1;
    }

-- or memory refused it
pub answers_refused : Laws → (old new : Runner) (slots now : Slots) (m : Mark) (number : ℕ) (line : List ℕ) → old.count < 2 ^ 63 → old.ended ≡ false
    → number ≡ next_count old.count → new.keep_going ≡ old.keep_going → new.count ≡ number → new.faulted ≡ old.faulted
    → new.refused ≡ cond (nat_lt (length old.refused) refused_limit) (old.refused ++ new.count ∷ []) old.refused
    → new.ended ≡ (fault_ends old.keep_going m || nat_le refused_limit (length new.refused))
    → new.session.state ≡ old.session.state → now ≡ slots → line ≡ memory_line (line_of m)
    → Answers m old slots new now line
answers_refused laws old new slots now m number line small running is_number keep count faulted is ended same_state unmoved text =
    let counts : new.count ≡ next_count old.count = count ∙ is_number in
    record {
      later = later_refused old new (omega (arith, counts, small)) is;
      follows = λ terms first run fore f. (follows_refused laws terms first old slots run f new now m fore small running keep counts line same_state unmoved text faulted
          (is ∙ added old.refused new.count (f.room running)) ended).0;
      printed = λ terms first run fore f. (follows_refused laws terms first old slots run f new now m fore small running keep counts line same_state unmoved text faulted
          (is ∙ added old.refused new.count (f.room running)) ended).1;
    }

-- or a watcher failed
pub answers_stopped : Laws → (old new : Runner) (slots now : Slots) (m : Mark) (number : ℕ) → old.count < 2 ^ 63 → old.ended ≡ false → number ≡ next_count old.count
    → new.count ≡ number → new.refused ≡ old.refused
    → StopsStep (mark_step number (present_in slots) old.session.state m) slots now → OneMissed slots now → AnswersShort m old slots Watcher new now
answers_stopped laws old new slots now m number small running is_number count same stopped one =
    let stops : StopsStep (mark_step (next_count old.count) (present_in slots) old.session.state m) slots now =
    subst (λ (n : ℕ). StopsStep (mark_step n (present_in slots) old.session.state m) slots now) is_number stopped in
    let counts : new.count ≡ next_count old.count = count ∙ is_number in
    record {
      later = later_by old new (omega (arith, counts, small)) same;
      met = λ terms first run fore f. met_stopped laws terms first old slots run f m now new same (spared laws terms first old slots run f new fore small counts same) stops;
      heard = λ terms first run fore f. heard_stopped laws terms first old slots run f running m now (spared laws terms first old slots run f new fore small counts same) stops;
      fails = λ terms first run fore f. one_rose first slots now (counts_follow laws terms first old slots run f) one;
    }

-- where it stopped, what holds of the stop holds of the result
pub runs_result : {T : Type 0} (result : Result T Stop) (stop : Stop) → IsErrAnd result (λ e. e ≡ stop) → (m : Mark) (old : Runner) (out : Outlets) (new : Runner) (now : Outlets)
    → RunsShort m old out stop new now → IfErr result (λ s. RunsShort m old out s new now)
runs_result (Ok x) stop is m old out new now short = absurd is
runs_result (Err e) stop is m old out new now short = subst (λ (s : Stop). RunsShort m old out s new now) (sym is) short

-- what is given out by a run that stands is short of what more statements come to
pub short_stands : Laws → (terms : Terms) (first : Outlets) (runner : Runner) (now : Outlets) (run : Progress) → Stands terms first runner now run
    → IsShort (ending_of_run terms run) first now
short_stands laws terms first runner now run s = record {
  text = (run.printed, is_prefix-refl run.printed, s.text);
  slots = heard_follows laws terms first.slots runner now.slots run s.follows;
}

-- and the text of a statement is written
pub runs_whole : (old new : Runner) (out now : Outlets) (m : Mark) (text : List ℕ) → Answers m old out.slots new now.slots text
    → Appends out.taken now.taken text → now.faults ≡ out.faults → Runs m old out new now
runs_whole old new out now m text answers wrote quiet = record {
  later = answers.later;
  stands = λ terms first run fore s. record {
    follows = answers.follows terms first.slots run fore s.follows;
    text = subst (λ (u : List ℕ). Appends first.taken now.taken u) (sym (answers.printed terms first.slots run fore s.follows))
        (appends_then first.taken out.taken now.taken run.printed text s.text wrote);
    faults = quiet ∙ s.faults;
  };
}

slots_fail : (stop : Stop) (first now : Outlets) → now.faults ≡ first.faults → SlotsFail stop first.slots now.slots → Fails stop first now
slots_fail Source first now quiet fails = absurd fails
slots_fail Sink first now quiet fails = absurd fails
slots_fail Watcher first now quiet fails = (fails, quiet)
slots_fail NoMemory first now quiet fails = (quiet, fails)

-- the statement stopped short
pub runs_unanswered : Laws → (old new : Runner) (out now : Outlets) (m : Mark) (stop : Stop) → old.ended ≡ false → AnswersShort m old out.slots stop new now.slots
    → now.taken ≡ out.taken → now.faults ≡ out.faults → RunsShort m old out stop new now
runs_unanswered laws old new out now m stop running answers untaken quiet = record {
  later = answers.later;
  met = λ terms first run fore s. answers.met terms first.slots run fore s.follows;
  short = λ terms first run fore s.
      let one : after_marks terms run (m ∷ []) ≡ after_mark terms run m = after_one terms run m (s.follows.ended ∙ running) in
      let more = laws.printed terms run (m ∷ []) in
      record {
        text = (
          run.printed,
          (more.0, sym (ap (λ (p : Progress). p.printed) one) ∙ more.1),
          subst (λ (o : Option (List ℕ)). Appends first.taken o run.printed) (sym untaken) s.text,
        );
        slots = answers.heard terms first.slots run fore s.follows;
      };
  fails = λ terms first run fore s. slots_fail stop first now (quiet ∙ s.faults) (answers.fails terms first.slots run fore s.follows);
}

-- the sink failed, or there was no memory
pub sink_fails : (stop : Stop) (first out now : Outlets) → HasSinkCause {T = Unit {0}} out.faults now.faults (Err stop) → out.faults ≡ first.faults
    → CountsStay first.slots now.slots → Fails stop first now
sink_fails Source first out now cause quiet counts = absurd cause
sink_fails Sink first out now cause quiet counts = (subst (λ (n : ℕ). Rose n now.faults) quiet cause, counts)
sink_fails Watcher first out now cause quiet counts = absurd cause
sink_fails NoMemory first out now cause quiet counts = (cause ∙ quiet, counts)

-- its text couldn't be written
pub runs_unwritten : Laws → (old new : Runner) (out now : Outlets) (m : Mark) (text : List ℕ) (stop : Stop) → Answers m old out.slots new now.slots text
    → AppendsPrefix out.taken now.taken text → HasSinkCause {T = Unit {0}} out.faults now.faults (Err stop) → RunsShort m old out stop new now
runs_unwritten laws old new out now m text stop answers wrote cause = record {
  later = answers.later;
  met = λ terms first run fore s. (answers.follows terms first.slots run fore s.follows).refused;
  short = λ terms first run fore s.
      let f : Follows terms first.slots new now.slots (after_mark terms run m) = answers.follows terms first.slots run fore s.follows in
      let printed : (after_mark terms run m).printed ≡ run.printed ++ text = answers.printed terms first.slots run fore s.follows in
      record {
        text = (
          run.printed ++ wrote.0,
          (wrote.1.0, printed ∙ ap (λ (u : List ℕ). run.printed ++ u) wrote.1.1 ∙ sym (append_assoc run.printed wrote.0 wrote.1.0)),
          appends_then first.taken out.taken now.taken run.printed wrote.0 s.text wrote.2,
        );
        slots = heard_follows laws terms first.slots new now.slots (after_mark terms run m) f;
      };
  fails = λ terms first run fore s.
      let f : Follows terms first.slots new now.slots (after_mark terms run m) = answers.follows terms first.slots run fore s.follows in
      sink_fails stop first out now cause s.faults (counts_follow laws terms first.slots new now.slots (after_mark terms run m) f);
}

-- by how the writing of the text ended
pub run_written : (old new : Runner) (out now : Outlets) (m : Mark) (text wanted : List ℕ) (result : Result (Unit {0}) Stop) → text ≡ wanted
    → Answers m old out.slots new now.slots wanted → OnOk result (Appends out.taken now.taken text) → HasSinkCause out.faults now.faults result
    → OnOk result (Runs m old out new now)
run_written old new out now m text wanted (Ok x) is answers wrote cause = runs_whole old new out now m wanted answers (rw (← is) wrote) cause
run_written old new out now m text wanted (Err stop) is answers wrote cause = tt

pub run_unwritten : Laws → (old new : Runner) (out now : Outlets) (m : Mark) (text wanted : List ℕ) (result : Result (Unit {0}) Stop) → text ≡ wanted
    → Answers m old out.slots new now.slots wanted → OnErr result (AppendsPrefix out.taken now.taken text) → HasSinkCause out.faults now.faults result
    → IfErr result (λ stop. RunsShort m old out stop new now)
run_unwritten laws old new out now m text wanted (Ok x) is answers wrote cause = tt
run_unwritten laws old new out now m text wanted (Err stop) is answers wrote cause =
    runs_unwritten laws old new out now m wanted stop answers (rw (← is) wrote) cause

-- before the first statement nothing is attached
pub served_first : {W : Type 0} (see : W → Watched) (watchers : List (Option W)) (runner : Runner) → IsFresh runner → AreOpen (slots_by see watchers)
    → length watchers ≤ slots_limit → AreServed runner.session.state.watches (slots_by see watchers)
served_first see watchers runner fresh unfinished few =
    subst (λ (s : State). AreServed s.watches (slots_by see watchers)) (sym fresh.state) (record {
      unfinished = unfinished;
      few = rw length-map few;
      there = λ k attached. absurd (true≢false (sym attached));
    })
