-- What the words of the top call say of watchers and their slots.
use Rattle.std.proofs.Common.{◌≡◌, ◌≢◌, ℕ, zero, suc, ◌<◌, ◌⊎◌, inl, inr, List, [], ◌∷◌, take, length, Bool, true, false, Option, Some, None, refl, sym, ap, subst, ◌∙◌, arith, eqb-true, eq-eqb}
use Rattle.std.specs.Prelude.{◌==◌, IsSome, is_some, slice_set}
use Rattle.std.proofs.lemmas.Bool.{true≢false}
use Rattle.std.proofs.lemmas.List.{get_or-set_other, length-set}
use Rattle.pdl_lemmas.specs.Tests.{by_test}
use Rattle.pdl_watch.specs.declared.notice.Notice.{Notice}
use Rattle.pdl_watch.specs.Watched.{Watched, told_more, ended}
use Rattle.pdl_watch.specs.Slots.{Slots, all_told, all_ended, ended_where, changed, emptied, slot, notices_of, EndedShort, SlotMissed, SlotRose}
use Rattle.pdl_watch.specs.SlotLaws.{EachIsToldItsOwn, TellingKeepsLength, EmptyingKeepsLength}
use Rattle.pdl_machine.specs.Watches.{Watches, watch_of, is_present}
use Rattle.pdl_shell.specs.declared.status.Status.{Status}
use Rattle.pdl_shell.specs.declared.status.Status.TheVariants.{Done, ScriptFault, Usage, SourceFault, SinkFault, WatcherFault, NoMemory}
use Rattle.pdl_shell.specs.Outside.{Outlets, Outside, CountsStay}
use Rattle.pdl_shell.specs.Answers.{Ending, Gives, HasReason, IsWhole, IsShort, ClosesShort, SlotHears, told_by}
use Rattle.pdl_shell.specs.Headline.{MayHaveEnded}
use Rattle.pdl_shell.specs.HeadlineSlots.{CountIsKept, IsFinished, FinishesInTurn}
use Rattle.pdl_shell.proofs.HeadlineLemmas.{count_of, short_front}
use Rattle.pdl_shell.proofs.AnswerGuards.{closes_at, ended_at, told_still, some_is, set_at, missed_of}

-- a call came to its end, stopped short, or stopped where it finished watchers
ways : (status : Status) (e : Ending) (old new : Outlets) → Gives status e old new → IsWhole e old new ⊎ (IsShort e old new ⊎ ClosesShort e old new)
ways Done e old new gives = inl gives.1
ways ScriptFault e old new gives = inl gives.1
ways Usage e old new gives = inl gives.1
ways SourceFault e old new gives = inr (inl gives)
ways SinkFault e old new gives = inr (inl gives)
ways WatcherFault e old new (inl short) = inr (inl short)
ways WatcherFault e old new (inr closes) = inr (inr closes)
ways NoMemory e old new (inl ends) = inl ends.1
ways NoMemory e old new (inr short) = inr (inl short)

ended_long : (ss : Slots) (ws : Watches) → length (all_ended ss ws) ≡ length ss
ended_long [] ws = refl
ended_long (s ∷ ss) [] = refl
ended_long (s ∷ ss) (w ∷ ws) = ap suc (ended_long ss ws)

pub slots_stay : TellingKeepsLength → EmptyingKeepsLength → (status : Status) (e : Ending) (old new : Outside) → Gives status e old.out new.out
    → length new.out.slots ≡ length old.out.slots
slots_stay told_long left_long status e old new gives = elim (ways status e old.out new.out gives) [
  | inl whole ↦ ap length whole.slots ∙ ended_long (told_by e old.out.slots) e.watches ∙ told
  | inr (inl short) ↦ short.slots.long
  | inr (inr closes) ↦ ap length closes.slots.before ∙ length-set (all_ended (told_by e old.out.slots) (take closes.slots.at e.watches)) closes.slots.at closes.slots.watcher
      ∙ ended_long (told_by e old.out.slots) (take closes.slots.at e.watches) ∙ told
]
  where
    told : length (told_by e old.out.slots) ≡ length old.out.slots
    told = left_long (all_told old.out.slots e.told) e.present ∙ told_long old.out.slots e.told

-- a slot that stays keeps its watcher, and one without a watcher gets none
abbrev KeepsPlace : (stays : Bool) → (s t : Option Watched) → Type 0
KeepsPlace stays s t = (stays ≡ true → is_some s ≡ true → is_some t ≡ true) × (is_some s ≡ false → is_some t ≡ false)

hears_place : (ns : List Notice) (stays : Bool) (s t : Option Watched) → SlotHears ns stays s t → KeepsPlace stays s t
hears_place ns stays None None hears = (λ stay there. there, λ gone. gone)
hears_place ns stays None (Some now) hears = absurd hears
hears_place ns stays (Some old) None hears = (λ stay there. absurd (hears stay), λ gone. refl)
hears_place ns stays (Some old) (Some now) hears = (λ stay there. there, λ gone. gone)

changed_place : {A : Type 0} (f : A → Watched → Watched) (ss : Slots) (xs : List A) (k : ℕ) → is_some (slot (changed f ss xs) k) ≡ is_some (slot ss k)
changed_place f [] xs k = refl
changed_place f (s ∷ ss) [] k = refl
changed_place f (None ∷ ss) (x ∷ xs) zero = refl
changed_place f (Some w ∷ ss) (x ∷ xs) zero = refl
changed_place f (s ∷ ss) (x ∷ xs) (suc k) = changed_place f ss xs k

left_place : (ss : Slots) (ps : List Bool) (k : ℕ) → KeepsPlace (is_present ps k) (slot ss k) (slot (emptied ss ps) k)
left_place [] ps k = (λ stay there. there, λ gone. gone)
left_place (s ∷ ss) [] k = (λ stay there. there, λ gone. gone)
left_place (s ∷ ss) (true ∷ ps) zero = (λ stay there. there, λ gone. gone)
left_place (s ∷ ss) (false ∷ ps) zero = (λ stay there. absurd (true≢false (sym stay)), λ gone. refl)
left_place (s ∷ ss) (p ∷ ps) (suc k) = left_place ss ps k

-- where a slot has a watcher just if another has
placed_by : (stays : Bool) (s s' t t' : Option Watched) → is_some s ≡ is_some s' → is_some t' ≡ is_some t → KeepsPlace stays s t → KeepsPlace stays s' t'
placed_by stays s s' t t' same_s same_t place = (λ stay there. same_t ∙ place.0 stay (same_s ∙ there), λ gone. same_t ∙ place.1 (same_s ∙ gone))

told_place : (e : Ending) (ss : Slots) (k : ℕ) (t : Option Watched) → is_some t ≡ is_some (slot (told_by e ss) k) → KeepsPlace (is_present e.present k) (slot ss k) t
told_place e ss k t same =
    placed_by (is_present e.present k) (slot (all_told ss e.told) k) (slot ss k) (slot (told_by e ss) k) t (changed_place told_more ss e.told k) same
    (left_place (all_told ss e.told) e.present k)

set_there : (ss : Slots) (k : ℕ) (o : Option Watched) → is_some (slot ss k) ≡ true → slot (slice_set ss k o) k ≡ o
set_there [] k o there = absurd (true≢false (sym there))
set_there (s ∷ ss) zero o there = refl
set_there (s ∷ ss) (suc k) o there = set_there ss k o there

missed_there : (s t : Option Watched) → SlotMissed s t → (is_some s ≡ true) × (is_some t ≡ true)
missed_there None None missed = absurd missed
missed_there None (Some now) missed = absurd missed
missed_there (Some old) None missed = absurd missed
missed_there (Some old) (Some now) missed = (refl, refl)

-- finishing that stopped leaves each slot its watcher
closes_place : (base : Slots) (ws : Watches) (now : Slots) (k : ℕ) → EndedShort base ws now → is_some (slot now k) ≡ is_some (slot base k)
closes_place base ws now k short = by_test (k == short.at)
    (λ same. (let e : k ≡ short.at = eqb-true k short.at same in
    let missed = missed_there (slot base short.at) short.watcher short.missed in
    let there : is_some (slot before short.at) ≡ true = changed_place ended_where base (take short.at ws) short.at ∙ missed.0 in
    let found : slot now short.at ≡ short.watcher = ap (λ (ss : Slots). slot ss short.at) short.before ∙ set_there before short.at short.watcher there in
    ap (λ (j : ℕ). is_some (slot now j)) e ∙ ap is_some found ∙ missed.1 ∙ sym missed.0 ∙ ap (λ (j : ℕ). is_some (slot base j)) (sym e)))
    (λ other. (let apart : k ≢ short.at = λ e. (let t : (k == short.at) ≡ true = eq-eqb k short.at e in cc) in
    let found : slot now k ≡ slot before k = ap (λ (ss : Slots). slot ss k) short.before ∙ get_or-set_other before short.at k short.watcher None apart in
    ap is_some found ∙ changed_place ended_where base (take short.at ws) k))
  where
    before : Slots
    before = all_ended base (take short.at ws)

place_kept : (status : Status) (e : Ending) (old new : Outside) (k : ℕ) → Gives status e old.out new.out
    → KeepsPlace (is_present e.present k) (slot old.out.slots k) (slot new.out.slots k)
place_kept status e old new k gives = elim (ways status e old.out new.out gives) [
  | inl whole ↦ told_place e old.out.slots k (slot new.out.slots k)
      (ap (λ (ss : Slots). is_some (slot ss k)) whole.slots ∙ changed_place ended_where (told_by e old.out.slots) e.watches k)
  | inr (inl short) ↦ hears_place (notices_of e.told k) (is_present e.present k) (slot old.out.slots k) (slot new.out.slots k) (short.slots.each k)
  | inr (inr closes) ↦ told_place e old.out.slots k (slot new.out.slots k) (closes_place (told_by e old.out.slots) e.watches new.out.slots k closes.slots)
]

pub watchers_stay : (status : Status) (e : Ending) (old new : Outside) (k : ℕ) → Gives status e old.out new.out → is_present e.present k ≡ true
    → IsSome (slot old.out.slots k) → IsSome (slot new.out.slots k)
watchers_stay status e old new k gives stays there = (place_kept status e old new k gives).0 stays there

without : (s : Option Watched) → is_some s ≡ false → s ≡ None
without None gone = refl
without (Some w) gone = absurd (true≢false gone)

pub none_appears : (status : Status) (e : Ending) (old new : Outside) (k : ℕ) → Gives status e old.out new.out → slot old.out.slots k ≡ None
    → slot new.out.slots k ≡ None
none_appears status e old new k gives none = without (slot new.out.slots k) ((place_kept status e old new k gives).1 (ap is_some none))

kept_where : (old new : Outside) (k : ℕ) → CountsStay old.out.slots new.out.slots → CountIsKept old new k
kept_where old new k stay before after was is = count_of (slot old.out.slots k) (slot new.out.slots k) before after was is (stay k)

pub counts_kept : (status : Status) (old new : Outside) (k : ℕ) → status ≢ WatcherFault → HasReason status old new → CountIsKept old new k
counts_kept Done old new k other reason = kept_where old new k reason.1.1
counts_kept ScriptFault old new k other reason = kept_where old new k reason.1.1
counts_kept Usage old new k other reason = kept_where old new k reason.1.1
counts_kept SourceFault old new k other reason = kept_where old new k reason.1.1
counts_kept SinkFault old new k other reason = kept_where old new k reason.2
counts_kept WatcherFault old new k other reason = absurd (other refl)
counts_kept NoMemory old new k other reason = kept_where old new k reason.1.1

pub one_alone : (old new : Outside) → HasReason WatcherFault old new → (failed : ℕ) × SlotRose (slot old.out.slots failed) (slot new.out.slots failed)
    × ((k : ℕ) → k ≢ failed → CountIsKept old new k)
one_alone old new reason = (
  reason.0.at,
  reason.0.rose,
  λ k other before after was is. count_of (slot old.out.slots k) (slot new.out.slots k) before after was is (reason.0.others k other),
)

-- of the first slots alone the attached ones are finished
first_attached : (n : ℕ) (ws : Watches) (k : ℕ) → IsSome (watch_of (take n ws) k) → k < n
first_attached zero ws k some = absurd (none_of k some)
  where
    none_of : (k : ℕ) → IsSome (watch_of [] k) → ⊥
    none_of k some = cc
first_attached (suc n) [] k some = absurd (cc)
first_attached (suc n) (w ∷ ws) zero some = omega arith
first_attached (suc n) (w ∷ ws) (suc k) some = let first : k < n = first_attached n ws k some in omega (arith, first)

-- and each attached one is finished
each_ended : (ss : Slots) (ws : Watches) (k : ℕ) (a : Watched) → IsSome (watch_of ws k) → slot (all_ended ss ws) k ≡ Some a → a.finished ≡ true
each_ended [] ws k a some is = absurd (cc)
each_ended (s ∷ ss) [] k a some is = absurd (cc)
each_ended (s ∷ ss) (None ∷ ws) zero a some is = absurd (cc)
each_ended (None ∷ ss) (Some v ∷ ws) zero a some is = absurd (cc)
each_ended (Some b ∷ ss) (Some v ∷ ws) zero a some is = ap (λ (w : Watched). w.finished) (sym (some_is (ended b) a is))
each_ended (s ∷ ss) (w ∷ ws) (suc k) a some is = each_ended ss ws k a some is

first_same : (n : ℕ) (ws : Watches) (k : ℕ) → k < n → watch_of (take n ws) k ≡ watch_of ws k
first_same zero ws k first = absurd (omega (arith, first))
first_same (suc n) [] k first = refl
first_same (suc n) (w ∷ ws) zero first = refl
first_same (suc n) (w ∷ ws) (suc k) first = first_same n ws k (omega (arith, first))

earlier_finished : (base : Slots) (ws : Watches) (now : Slots) (short : EndedShort base ws now) (j : ℕ) (after : Watched) → j < short.at → IsSome (watch_of ws j)
    → slot now j ≡ Some after → after.finished ≡ true
earlier_finished base ws now short j after first some is = each_ended base (take short.at ws) j after
    (subst (λ (o : Option ℕ). IsSome o) (sym (first_same short.at ws j first)) some)
    (sym (get_or-set_other before short.at j short.watcher None apart) ∙ ap (λ (ss : Slots). slot ss j) (sym short.before) ∙ is)
  where
    before : Slots
    before = all_ended base (take short.at ws)

    apart : j ≢ short.at
    apart = λ e. omega (arith, first, e)

-- one that finishing has finished stands before the one at which it stopped
finished_before : (base : Slots) (ws : Watches) (now : Slots) (short : EndedShort base ws now) (k : ℕ) (a : Watched) → slot now k ≡ Some a → a.finished ≡ true
    → ((b : Watched) → slot base k ≡ Some b → b.finished ≡ false) → k < short.at
finished_before base ws now short k a is finished open_before = by_test (k == short.at)
    (λ same. (let e : k ≡ short.at = eqb-true k short.at same in
    let there : slot (slice_set before short.at short.watcher) short.at ≡ Some a = ap (λ (j : ℕ). slot (slice_set before short.at short.watcher) j) (sym e) ∙ ap (λ (ss : Slots). slot ss k) (sym short.before) ∙ is in
    let found = missed_of (slot base short.at) a (subst (λ (s : Option Watched). SlotMissed (slot base short.at) s) (set_at before short.at short.watcher a there) short.missed) in
    absurd (true≢false (sym finished ∙ found.2.finished ∙ open_before found.0 (ap (slot base) e ∙ found.1)))))
    (λ other. (let apart : k ≢ short.at = λ e. (let t : (k == short.at) ≡ true = eq-eqb k short.at e in cc) in
    let there : slot before k ≡ Some a = sym (get_or-set_other before short.at k short.watcher None apart) ∙ ap (λ (ss : Slots). slot ss k) (sym short.before) ∙ is in
    let found = ended_at base (take short.at ws) k a there in
    attached_before found.0 found.1 found.2.finished))
  where
    before : Slots
    before = all_ended base (take short.at ws)

    attached_before : (b : Watched) → slot base k ≡ Some b → (a.finished ≡ b.finished) ⊎ ((a.finished ≡ true) × IsSome (watch_of (take short.at ws) k)) → k < short.at
    attached_before b is_b (inl same) = absurd (true≢false (sym finished ∙ same ∙ open_before b is_b))
    attached_before b is_b (inr done) = first_attached short.at ws k done.1

closed_last : EachIsToldItsOwn → (e : Ending) (old new : Outside) (k : ℕ) → ClosesShort e old.out new.out → IsFinished old new k → FinishesInTurn e old new k
closed_last each e old new k closes call = record {
  given = record {
    text = closes.text;
    flushed = closes.flushed;
    told = λ j before after was is. (let found = closes_at base e.watches new.out.slots j after closes.slots is in
        found.2.told ∙ ap (λ (w : Watched). w.told) (told_still each e old.out.slots j before found.0 was found.1));
  };
  earlier = λ j after first some is. earlier_finished base e.watches new.out.slots closes.slots j after (omega (arith, first, inside)) some is;
}
  where
    base : Slots
    base = told_by e old.out.slots

    inside : k < closes.slots.at
    inside = finished_before base e.watches new.out.slots closes.slots k call.after call.is call.finished
        (λ b is. ap (λ (w : Watched). w.finished) (told_still each e old.out.slots k call.before b call.was is) ∙ call.open_before)

ended_last : EachIsToldItsOwn → (e : Ending) (old new : Outside) (k : ℕ) → IsWhole e old.out new.out → FinishesInTurn e old new k
ended_last each e old new k whole = record {
  given = record {
    text = whole.text;
    flushed = whole.flushed;
    told = λ j before after was is. (let found = ended_at base e.watches j after (there j after is) in
        found.2.told ∙ ap (λ (w : Watched). w.told) (told_still each e old.out.slots j before found.0 was found.1));
  };
  earlier = λ j after first some is. each_ended base e.watches j after some (there j after is);
}
  where
    base : Slots
    base = told_by e old.out.slots

    there : (j : ℕ) (after : Watched) → slot new.out.slots j ≡ Some after → slot (all_ended base e.watches) j ≡ Some after
    there j after is = ap (λ (ss : Slots). slot ss j) (sym whole.slots) ∙ is

-- where the call stopped short none is finished
none_last : (e : Ending) (old new : Outside) (k : ℕ) → IsShort e old.out new.out → IsFinished old new k → FinishesInTurn e old new k
none_last e old new k short call =
    absurd (true≢false (sym call.finished ∙ (short_front e old new k call.before call.after short call.was call.is).finished ∙ call.open_before))

pub finishing_last : EachIsToldItsOwn → (status : Status) (e : Ending) (old new : Outside) (k : ℕ) → MayHaveEnded status → Gives status e old.out new.out → IsFinished old new k
    → FinishesInTurn e old new k
finishing_last each WatcherFault e old new k may (inl short) call = none_last e old new k short call
finishing_last each WatcherFault e old new k may (inr closes) call = closed_last each e old new k closes call
finishing_last each NoMemory e old new k may (inl ends) call = ended_last each e old new k ends.1
finishing_last each NoMemory e old new k may (inr short) call = none_last e old new k short call
finishing_last each Done e old new k may gives call = absurd may
finishing_last each ScriptFault e old new k may gives call = absurd may
finishing_last each Usage e old new k may gives call = absurd may
finishing_last each SourceFault e old new k may gives call = absurd may
finishing_last each SinkFault e old new k may gives call = absurd may
