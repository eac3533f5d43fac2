-- What the words of the top call say.
use Rattle.std.proofs.Common.{◌≡◌, ℕ, ◌⊎◌, inl, inr, List, [], ◌∷◌, ◌++◌, Bool, true, Option, Some, None, refl, sym, ap, subst, ◌∙◌, append_assoc, append-nil}
use Rattle.std.specs.Prelude.{◌≤◌, length}
use Rattle.std.specs.List.{All}
use Rattle.std.specs.List.Sorted.{IsStrictlyIncreasing}
use Rattle.std.specs.Io.KnownBytes.{Appends, IsAtEnd}
use Rattle.pdl_watch.specs.Watched.{Watched}
use Rattle.pdl_io.specs.Told.{AppendsPrefix}
use Rattle.pdl_watch.specs.declared.notice.Notice.{Notice}
use Rattle.pdl_watch.specs.Slots.{slots_by, slot, notices_of, ToldPart, SlotRose, CountStays}
use Rattle.pdl_shell.specs.declared.status.Status.{Status}
use Rattle.pdl_shell.specs.declared.status.Status.TheVariants.{Done, ScriptFault, Usage, SourceFault, SinkFault, WatcherFault, NoMemory}
use Rattle.pdl_shell.specs.declared.words.Command.{Command}
use Rattle.pdl_shell.specs.declared.words.Command.TheVariants.{Run, Generate}
use Rattle.pdl_shell.specs.Outside.{Outlets, Outside}
use Rattle.pdl_shell.specs.Answers.{CameToItsEnd, HasReason, CanAnswer, Gives, Ending, AllQuiet, IsWhole, IsShort, SlotHears, ending_on, status_at_end}
use Rattle.pdl_machine.specs.Watches.{is_present}
use Rattle.pdl_machine.specs.Run.{Terms, refused_limit, run, so_far}
use Rattle.pdl_machine.specs.RunLaws.{RefusedAreGiven, RefusedRise, RefusedAreFew}
use Rattle.pdl_shell.specs.Summary.{unwatched}
use Rattle.pdl_shell.specs.Taken.{Reads, terms_for}
use Rattle.pdl_shell.specs.Headline.{NoneRose, OneFailed, OfWholeStatements, RefusedAreRead, EndsBy, IsAllOf, IsCutOff, HeardAFront}

pub count_of : (s t : Option Watched) (before after : Watched) → s ≡ Some before → t ≡ Some after → CountStays s t → after.misses ≡ before.misses
count_of s t before after was is stays = pair (subst (λ (o : Option Watched). CountStays o t) was stays)
  where
    pair : CountStays (Some before) t → after.misses ≡ before.misses
    pair stays' = subst (λ (o : Option Watched). CountStays (Some before) o) is stays'

none_rose : (old new : Outside) → AllQuiet old new → NoneRose old new
none_rose old new quiet = record {
  source = quiet.0;
  sink = quiet.1.0;
  watchers = λ k before after was is. count_of (slot old.out.slots k) (slot new.out.slots k) before after was is (quiet.1.1 k);
}

pub ends_quiet : (status : Status) (old new : Outside) → CameToItsEnd status → HasReason status old new → NoneRose old new
ends_quiet Done old new ended reason = none_rose old new reason
ends_quiet ScriptFault old new ended reason = none_rose old new reason
ends_quiet Usage old new ended reason = none_rose old new reason
ends_quiet SourceFault old new ended reason = absurd ended
ends_quiet SinkFault old new ended reason = absurd ended
ends_quiet WatcherFault old new ended reason = absurd ended
ends_quiet NoMemory old new ended reason = absurd ended

pub memory_quiet : (old new : Outside) → HasReason NoMemory old new → NoneRose old new
memory_quiet old new reason = none_rose old new reason

one_failed : (old new : Outside) (at : ℕ) (s t : Option Watched) → slot old.out.slots at ≡ s → slot new.out.slots at ≡ t → SlotRose s t
    → new.faults ≡ old.faults → new.out.faults ≡ old.out.faults → OneFailed old new
one_failed old new at None None was is rose source sink = absurd rose
one_failed old new at None (Some after) was is rose source sink = absurd rose
one_failed old new at (Some before) None was is rose source sink = absurd rose
one_failed old new at (Some before) (Some after) was is rose source sink =
    record { at = at; before = before; after = after; was = was; is = is; rose = rose; source = source; sink = sink }

pub watcher_rises : (old new : Outside) → HasReason WatcherFault old new → OneFailed old new
watcher_rises old new reason =
    one_failed old new reason.0.at (slot old.out.slots reason.0.at) (slot new.out.slots reason.0.at) refl refl reason.0.rose reason.1 reason.2

pub appended : (old new : Option (List ℕ)) (before after text : List ℕ) → old ≡ Some before → new ≡ Some after → Appends old new text → after ≡ before ++ text
appended old new before after text was is wrote =
    known (subst (λ (o : Option (List ℕ)). Appends o new text) was wrote)
  where
    known : Appends (Some before) new text → after ≡ before ++ text
    known wrote' = subst (λ (o : Option (List ℕ)). Appends (Some before) o text) is wrote'

pub source_leaves : (keep : Bool) (refused : List ℕ) (old new : Outside) (before after : List ℕ) → old.out.taken ≡ Some before → new.out.taken ≡ Some after
    → Reads keep refused SourceFault old new → OfWholeStatements keep refused old new before after
source_leaves keep refused old new before after was is reads = record {
  bytes = reads.taken;
  taken = reads.all;
  text = appended old.out.taken new.out.taken before after _ was is reads.so_far.0;
  told = reads.so_far.1;
  unended = reads.so_far.2;
  met = reads.so_far.3;
}

pub rising_read : RefusedRise → (keep : Bool) (refused : List ℕ) (status : Status) (old new : Outside) → Reads keep refused status old new → IsStrictlyIncreasing refused
rising_read rising keep refused status old new reads = subst IsStrictlyIncreasing reads.met (rising (terms_for keep old.out.slots refused) reads.taken)

-- whatever the status, the refused statements are ones of the bytes taken
pub refused_read : RefusedAreGiven → RefusedRise → RefusedAreFew → RefusedAreRead
refused_read given rising few keep refused status old new reads =
    let terms : Terms = terms_for keep old.out.slots refused in
    record {
      bytes = reads.taken;
      taken = reads.all;
      came = subst (λ (ns : List ℕ). All (λ n. n ≤ (run terms reads.taken).count) ns) reads.met (λ k d lt. (given terms reads.taken k d lt).1);
      rise = rising_read rising keep refused status old new reads;
      few = subst (λ (ns : List ℕ). length ns ≤ refused_limit) reads.met (few terms reads.taken);
    }

pub done_reads : (keep : Bool) (refused : List ℕ) (old new : Outside) (rest : List ℕ) → new.left ≡ Some rest → Reads keep refused Done old new → rest ≡ []
done_reads keep refused old new rest is reads = subst (λ (o : Option (List ℕ)). IsAtEnd o) is reads.so_far

pub fault_reads : (keep : Bool) (refused : List ℕ) (old new : Outside) (rest : List ℕ) → new.left ≡ Some rest → Reads keep refused ScriptFault old new
    → (rest ≡ []) ⊎ EndsBy keep refused old new
fault_reads keep refused old new rest is reads = how reads.so_far
  where
    how : IsAtEnd new.left ⊎ ((so_far (terms_for keep old.out.slots refused) reads.taken).ended ≡ true) → (rest ≡ []) ⊎ EndsBy keep refused old new
    how (inl at_end) = inl (subst (λ (o : Option (List ℕ)). IsAtEnd o) is at_end)
    how (inr ended) = inr (record { bytes = reads.taken; taken = reads.all; ended = ended })

wrote_all : (e : Ending) (old new : Outside) (before after : List ℕ) → old.out.taken ≡ Some before → new.out.taken ≡ Some after → IsWhole e old.out new.out
    → IsAllOf e old new before after
wrote_all e old new before after was is whole =
    record { text = appended old.out.taken new.out.taken before after e.text was is whole.text; flushed = whole.flushed; met = whole.met; slots = whole.slots }

pub ends_write : (status : Status) (e : Ending) (old new : Outside) (before after : List ℕ) → CameToItsEnd status
    → old.out.taken ≡ Some before → new.out.taken ≡ Some after → Gives status e old.out new.out → (e.status ≡ status) × IsAllOf e old new before after
ends_write Done e old new before after ended was is gives = (sym gives.0, wrote_all e old new before after was is gives.1)
ends_write ScriptFault e old new before after ended was is gives = (sym gives.0, wrote_all e old new before after was is gives.1)
ends_write Usage e old new before after ended was is gives = (sym gives.0, wrote_all e old new before after was is gives.1)
ends_write SourceFault e old new before after ended was is gives = absurd ended
ends_write SinkFault e old new before after ended was is gives = absurd ended
ends_write WatcherFault e old new before after ended was is gives = absurd ended
ends_write NoMemory e old new before after ended was is gives = absurd ended

-- of a whole text nothing is behind what was written
wholly : (before after text : List ℕ) → after ≡ before ++ text → (rest : List ℕ) × (before ++ text ≡ after ++ rest)
wholly before after text is = ([], sym is ∙ sym (append-nil after))

partly : (old new : Option (List ℕ)) (before after text : List ℕ) → old ≡ Some before → new ≡ Some after → AppendsPrefix old new text
    → (rest : List ℕ) × (before ++ text ≡ after ++ rest)
partly old new before after text was is wrote = (
  wrote.1.0,
  ap (λ ts. before ++ ts) wrote.1.1 ∙ sym (append_assoc before wrote.0 wrote.1.0)
      ∙ ap (λ ts. ts ++ wrote.1.0) (sym (appended old new before after wrote.0 was is wrote.2)),
)

pub all_front : (status : Status) (e : Ending) (old new : Outside) (before after : List ℕ) → old.out.taken ≡ Some before
    → new.out.taken ≡ Some after → Gives status e old.out new.out → (rest : List ℕ) × (before ++ e.text ≡ after ++ rest)
all_front Done e old new before after was is gives =
    wholly before after e.text (appended old.out.taken new.out.taken before after e.text was is gives.1.text)
all_front ScriptFault e old new before after was is gives =
    wholly before after e.text (appended old.out.taken new.out.taken before after e.text was is gives.1.text)
all_front Usage e old new before after was is gives =
    wholly before after e.text (appended old.out.taken new.out.taken before after e.text was is gives.1.text)
all_front SourceFault e old new before after was is gives = partly old.out.taken new.out.taken before after e.text was is gives.text
all_front SinkFault e old new before after was is gives = partly old.out.taken new.out.taken before after e.text was is gives.text
all_front WatcherFault e old new before after was is (inl short) = partly old.out.taken new.out.taken before after e.text was is short.text
all_front WatcherFault e old new before after was is (inr closes) =
    wholly before after e.text (appended old.out.taken new.out.taken before after e.text was is closes.text)
all_front NoMemory e old new before after was is (inl ends) =
    wholly before after e.text (appended old.out.taken new.out.taken before after e.text was is ends.1.text)
all_front NoMemory e old new before after was is (inr short) = partly old.out.taken new.out.taken before after e.text was is short.text

pub memory_writes : (e : Ending) (old new : Outside) (before after : List ℕ) → old.out.taken ≡ Some before → new.out.taken ≡ Some after
    → Gives NoMemory e old.out new.out
    → ((e.status ≡ NoMemory) × IsAllOf e old new before after) ⊎ ((rest : List ℕ) × (before ++ e.text ≡ after ++ rest))
memory_writes e old new before after was is (inl ends) = inl (sym ends.0, wrote_all e old new before after was is ends.1)
memory_writes e old new before after was is (inr short) = inr (partly old.out.taken new.out.taken before after e.text was is short.text)

heard_by : (ns : List Notice) (stays : Bool) (s t : Option Watched) (before after : Watched) → s ≡ Some before → t ≡ Some after
    → SlotHears ns stays s t → HeardAFront ns before after
heard_by ns stays s t before after was is hears = front (subst (λ (o : Option Watched). SlotHears ns stays (Some before) o) is
    (subst (λ (o : Option Watched). SlotHears ns stays o t) was hears))
  where
    front : ToldPart ns before after → HeardAFront ns before after
    front told = record { part = told.part; front = told.front; told = told.told; finished = told.finished }

pub short_front : (e : Ending) (old new : Outside) (k : ℕ) (before after : Watched) → IsShort e old.out new.out → slot old.out.slots k ≡ Some before
    → slot new.out.slots k ≡ Some after → HeardAFront (notices_of e.told k) before after
short_front e old new k before after short was is =
    heard_by (notices_of e.told k) (is_present e.present k) (slot old.out.slots k) (slot new.out.slots k) before after was is (short.slots.each k)

pub cut_off_front : (status : Status) (e : Ending) (old new : Outside) (k : ℕ) (before after : Watched) → IsCutOff status
    → Gives status e old.out new.out → slot old.out.slots k ≡ Some before → slot new.out.slots k ≡ Some after
    → HeardAFront (notices_of e.told k) before after
cut_off_front SourceFault e old new k before after cut gives was is = short_front e old new k before after gives was is
cut_off_front SinkFault e old new k before after cut gives was is = short_front e old new k before after gives was is
cut_off_front NoMemory e old new k before after cut gives was is = absurd cut
cut_off_front Done e old new k before after cut gives was is = absurd cut
cut_off_front ScriptFault e old new k before after cut gives was is = absurd cut
cut_off_front Usage e old new k before after cut gives was is = absurd cut
cut_off_front WatcherFault e old new k before after cut gives was is = absurd cut

-- a run that came to its end as if there were memory for each statement refused none
none_refused : (status : Status) (faulted : Bool) (refused : List ℕ) → CameToItsEnd status → status ≡ status_at_end faulted refused → refused ≡ []
none_refused status faulted [] ended is = refl
none_refused status faulted (n ∷ ns) ended is = absurd (subst (λ (s : Status). CameToItsEnd s) is ended)

-- so its text is that of the run with memory for each
pub whole_printed : (status : Status) (terms : Terms) (script : List ℕ) (old new : Outlets) (before after : List ℕ) → CameToItsEnd status
    → (status ≡ (ending_on terms script).status) × IsWhole (ending_on terms script) old new → old.taken ≡ Some before → new.taken ≡ Some after
    → after ≡ before ++ (run (record terms { refused = [] }) script).printed
whole_printed status terms script old new before after ended (is, whole) was now =
    let none : terms.refused ≡ [] = sym whole.met ∙ none_refused status (run terms script).faulted (run terms script).refused ended is in
    appended old.taken new.taken before after (run terms script).printed was now whole.text
    ∙ ap (λ (ns : List ℕ). before ++ (run (record terms { refused = ns }) script).printed) none

-- and that of a run that nobody watches
pub unwatched_printed : {W : Type 0} (see : W → Watched) (watchers : List (Option W)) → watchers ≡ [] → (status : Status) (keep : Bool) (refused script : List ℕ)
    (old new : Outlets) (before after : List ℕ) → CameToItsEnd status
    → (status ≡ (ending_on (terms_for keep (slots_by see watchers) refused) script).status) × IsWhole (ending_on (terms_for keep (slots_by see watchers) refused) script) old new
    → old.taken ≡ Some before → new.taken ≡ Some after → after ≡ before ++ (run (unwatched keep) script).printed
unwatched_printed {W} see watchers none status keep refused script old new before after ended whole was now =
    whole_printed status (terms_for keep (slots_by see watchers) refused) script old new before after ended whole was now
    ∙ ap (λ (ws : List (Option W)). before ++ (run (terms_for keep (slots_by see ws) []) script).printed) none

pub usage_alone : (command : Command) → CanAnswer (Some command) Usage → ⊥
usage_alone (Run keep) answers = answers
usage_alone (Generate keep rounds) answers = answers

pub generating_alone : (keep : Bool) (rounds : ℕ) (status : Status) → CanAnswer (Some (Generate keep rounds)) status
    → (status ≡ Done) ⊎ ((status ≡ SinkFault) ⊎ (status ≡ NoMemory))
generating_alone keep rounds Done answers = inl refl
generating_alone keep rounds SinkFault answers = inr (inl refl)
generating_alone keep rounds NoMemory answers = inr (inr refl)
generating_alone keep rounds ScriptFault answers = absurd answers
generating_alone keep rounds Usage answers = absurd answers
generating_alone keep rounds SourceFault answers = absurd answers
generating_alone keep rounds WatcherFault answers = absurd answers
