-- What follows of the words that guard how far the source is read and what a failed watcher leaves.
use Rattle.std.proofs.Common.{◌≡◌, ◌≢◌, ℕ, zero, suc, ◌+◌, ◌-◌, ◌<◌, ◌≤◌, ◌⊎◌, inl, inr, List, [], ◌∷◌, ◌++◌, take, drop, length, Bool, true, false, Option, Some, None, refl, sym, ap, subst, ◌∙◌, arith, eqb-true, eq-eqb}
use Rattle.std.specs.Prelude.{◌==◌, ◌^◌, IsSome, option_map, slice_set}
use Rattle.std.proofs.lemmas.Bool.{cases_lt, true≢false}
use Rattle.std.proofs.lemmas.List.{append-nil, get_or-set_other, length-append}
use Rattle.pdl_lemmas.specs.Tests.{by_test}
use Rattle.pdl_io.specs.Counts.{Rose}
use Rattle.pdl_watch.specs.declared.notice.Notice.{Notice}
use Rattle.pdl_watch.specs.Watched.{Watched, Missed, told_more, ended}
use Rattle.pdl_watch.specs.Slots.{Slots, all_told, all_ended, ended_where, emptied, slot, notices_of, EndedShort, SlotMissed, SlotRose}
use Rattle.pdl_watch.specs.SlotLaws.{EachIsToldItsOwn}
use Rattle.pdl_machine.specs.RunLaws.{EndedStays, SoFarGrows}
use Rattle.pdl_machine.specs.Run.{Progress, Terms, so_far}
use Rattle.pdl_machine.specs.Watches.{Watches, watch_of}
use Rattle.pdl_shell.specs.declared.status.Status.{Status}
use Rattle.pdl_shell.specs.declared.status.Status.TheVariants.{Done, ScriptFault, Usage, SourceFault, SinkFault, WatcherFault, NoMemory}
use Rattle.pdl_shell.specs.Limits.{read_limit}
use Rattle.pdl_shell.specs.Outside.{Outside}
use Rattle.pdl_shell.specs.Answers.{Ending, Gives, IsWhole, IsShort, IsUndisturbed, TakesAtMost, told_by}
use Rattle.pdl_shell.specs.Taken.{Reads, terms_for}
use Rattle.pdl_shell.specs.Headline.{CanRise, MayHaveEnded, HeardAFront, HeardOrEnded, NoneRose}
use Rattle.pdl_shell.proofs.HeadlineLemmas.{short_front}

-- a run that bytes have ended stays ended by more bytes
ends_still : EndedStays → SoFarGrows → (terms : Terms) (bytes more : List ℕ) → (so_far terms bytes).ended ≡ true → (so_far terms (bytes ++ more)).ended ≡ true
ends_still stays grows terms bytes more ended =
    let on = grows terms bytes more in
    ap (λ (p : Progress). p.ended) (on.1 ∙ stays terms (so_far terms bytes) on.0 ended) ∙ ended

-- all but the last bytes are those before, and some of the rest
front_of : (all before rest : List ℕ) (n : ℕ) → all ≡ before ++ rest → n ≤ length rest → (more : List ℕ) × (take (length all - n) all ≡ before ++ more)
front_of all before rest n is few =
    (take (length rest - n) rest, ap (λ (xs : List ℕ). take (length xs - n) xs) is ∙ by_length before rest n few)
  where
    by_length : (before rest : List ℕ) (n : ℕ) → n ≤ length rest → take (length (before ++ rest) - n) (before ++ rest) ≡ before ++ take (length rest - n) rest
    by_length [] rest n few = refl
    by_length (b ∷ before) rest n few =
        let long : length (before ++ rest) ≡ length before + length rest = length-append before rest in
        let e : length (b ∷ (before ++ rest)) - n ≡ suc (length (before ++ rest) - n) = omega (arith, long) in
        ap (λ (k : ℕ). take k (b ∷ (before ++ rest))) e ∙ ap (λ (xs : List ℕ). b ∷ xs) (by_length before rest n few)

pub no_part_behind : EndedStays → SoFarGrows → (keep : Bool) (refused : List ℕ) (status : Status) (old new : Outside) (before rest : List ℕ) (reads : Reads keep refused status old new)
    → reads.taken ≡ before ++ rest → (so_far (terms_for keep old.out.slots refused) before).ended ≡ true → length rest < read_limit
no_part_behind stays grows keep refused status old new before rest reads is ended = elim (cases_lt (length rest) read_limit) [
  | inl few ↦ few
  | inr many ↦ (let terms : Terms = terms_for keep old.out.slots refused in
      let more = front_of reads.taken before rest read_limit is many in
      let e : (so_far terms (before ++ more.0)).ended ≡ true = ends_still stays grows terms before more.0 ended in
      absurd (true≢false (sym e ∙ ap (λ (xs : List ℕ). (so_far terms xs).ended) (sym more.1) ∙ reads.soon)))
]

pub some_is : {A : Type 0} (a b : A) → Some a ≡ Some b → a ≡ b
some_is a b is = cc

drop_long : (n : ℕ) (xs : List ℕ) → length xs ≤ n + length (drop n xs)
drop_long zero xs = omega arith
drop_long (suc n) [] = omega arith
drop_long (suc n) (x ∷ xs) = let rest = drop_long n xs in omega arith

pub few_taken : (most : ℕ) (old new : Option (List ℕ)) (before after : List ℕ) → old ≡ Some before → new ≡ Some after → TakesAtMost most old new → length before ≤ most + length after
few_taken most old new before after was is takes =
    let e : after ≡ drop takes.count before = some_is _ _ (sym is ∙ takes.rest before was) in
    let l : length after ≡ length (drop takes.count before) = ap length e in
    let d = drop_long takes.count before in
    let w = takes.within in
    omega arith

-- a count below its greatest value that is as it was didn't rise
not_risen : (before after : ℕ) → before < 2 ^ 64 - 1 → after ≡ before → Rose before after → ⊥
not_risen before after small same rose = omega arith

slot_not_risen : (s t : Option Watched) → ((w : Watched) → s ≡ Some w → w.misses < 2 ^ 64 - 1) → ((b a : Watched) → s ≡ Some b → t ≡ Some a → a.misses ≡ b.misses) → SlotRose s t → ⊥
slot_not_risen None None small same rose = rose
slot_not_risen None (Some a) small same rose = rose
slot_not_risen (Some b) None small same rose = rose
slot_not_risen (Some b) (Some a) small same rose = not_risen b.misses a.misses (small b refl) (same b a refl refl) rose

pub quiet_undisturbed : (old new : Outside) → CanRise old → NoneRose old new → IsUndisturbed old new
quiet_undisturbed old new can none = record {
  source = λ rose. not_risen old.faults new.faults can.source none.source rose;
  sink = λ rose. not_risen old.out.faults new.out.faults can.sink none.sink rose;
  watchers = λ k rose. slot_not_risen (slot old.out.slots k) (slot new.out.slots k) (can.watchers k) (none.watchers k) rose;
}

-- a slot that is there still was not emptied
left_there : (rs : Slots) (ps : List Bool) (k : ℕ) (t : Watched) → slot (emptied rs ps) k ≡ Some t → slot rs k ≡ Some t
left_there [] ps k t is = is
left_there (r ∷ rs) [] k t is = is
left_there (r ∷ rs) (true ∷ ps) zero t is = is
left_there (r ∷ rs) (false ∷ ps) zero t is = absurd (cc)
left_there (r ∷ rs) (p ∷ ps) (suc k) t is = left_there rs ps k t is

-- what the ending tells a watcher that is there still
pub told_still : EachIsToldItsOwn → (e : Ending) (ss : Slots) (k : ℕ) (before t : Watched) → slot ss k ≡ Some before → slot (told_by e ss) k ≡ Some t → t ≡ told_more (notices_of e.told k) before
told_still each e ss k before t was is =
    some_is _ _ (sym (left_there (all_told ss e.told) e.present k t is) ∙ each ss e.told k ∙ ap (option_map (told_more (notices_of e.told k))) was)

-- a watcher after the first ones were finished: finished where its slot is attached
pub record EndedOrNot (watch : Option ℕ) (before after : Watched) : Type 0 where
  pub told : after.told ≡ before.told
  pub finished : (after.finished ≡ before.finished) ⊎ ((after.finished ≡ true) × IsSome watch)

ended_by : (o : Option ℕ) (b a : Watched) → Some a ≡ option_map (ended_where o) (Some b) → EndedOrNot o b a
ended_by None b a is = let e : a ≡ b = some_is a b is in record { told = ap (λ (w : Watched). w.told) e; finished = inl (ap (λ (w : Watched). w.finished) e) }
ended_by (Some v) b a is = let e : a ≡ ended b = some_is a (ended b) is in record { told = ap (λ (w : Watched). w.told) e; finished = inr (ap (λ (w : Watched). w.finished) e, refl) }

-- an attached slot at the front of watches is attached
front_attached : (n : ℕ) (ws : Watches) (k : ℕ) → IsSome (watch_of (take n ws) k) → IsSome (watch_of ws k)
front_attached zero ws k some = absurd (none_of k some)
  where
    none_of : (k : ℕ) → IsSome (watch_of [] k) → ⊥
    none_of k some = cc
front_attached (suc n) [] k some = some
front_attached (suc n) (w ∷ ws) zero some = some
front_attached (suc n) (w ∷ ws) (suc k) some = front_attached n ws k some

pub ended_at : (ss : Slots) (ws : Watches) (k : ℕ) (a : Watched) → slot (all_ended ss ws) k ≡ Some a → (b : Watched) × (slot ss k ≡ Some b) × EndedOrNot (watch_of ws k) b a
ended_at [] ws k a is = absurd (cc)
ended_at (s ∷ ss) [] k a is = (a, is, record { told = refl; finished = inl refl })
ended_at (None ∷ ss) (w ∷ ws) zero a is = absurd (cc)
ended_at (Some b ∷ ss) (w ∷ ws) zero a is = (b, refl, ended_by w b a (sym is))
ended_at (s ∷ ss) (w ∷ ws) (suc k) a is = ended_at ss ws k a is

pub set_at : (ss : Slots) (k : ℕ) (o : Option Watched) (a : Watched) → slot (slice_set ss k o) k ≡ Some a → o ≡ Some a
set_at [] k o a is = absurd (cc)
set_at (s ∷ ss) zero o a is = is
set_at (s ∷ ss) (suc k) o a is = set_at ss k o a is

pub missed_of : (s : Option Watched) (a : Watched) → SlotMissed s (Some a) → (b : Watched) × (s ≡ Some b) × Missed b a
missed_of None a missed = absurd missed
missed_of (Some b) a missed = (b, refl, missed)

-- the watcher of a slot where finishing stopped
pub closes_at : (base : Slots) (ws : Watches) (now : Slots) (k : ℕ) (a : Watched) → EndedShort base ws now → slot now k ≡ Some a → (b : Watched) × (slot base k ≡ Some b) × EndedOrNot (watch_of ws k) b a
closes_at base ws now k a short is = by_test (k == short.at)
    (λ same. (let e : k ≡ short.at = eqb-true k short.at same in
    let there : slot (slice_set before short.at short.watcher) short.at ≡ Some a = ap (λ (j : ℕ). slot (slice_set before short.at short.watcher) j) (sym e) ∙ ap (λ (ss : Slots). slot ss k) (sym short.before) ∙ is in
    let found = missed_of (slot base short.at) a (subst (λ (s : Option Watched). SlotMissed (slot base short.at) s) (set_at before short.at short.watcher a there) short.missed) in
    (found.0, ap (slot base) e ∙ found.1, record { told = found.2.told; finished = inl found.2.finished })))
    (λ other. (let apart : k ≢ short.at = λ e. (let t : (k == short.at) ≡ true = eq-eqb k short.at e in cc) in
    let there : slot before k ≡ Some a = sym (get_or-set_other before short.at k short.watcher None apart) ∙ ap (λ (ss : Slots). slot ss k) (sym short.before) ∙ is in
    let found = ended_at base (take short.at ws) k a there in
    (found.0, found.1, record { told = found.2.told; finished = attached_still found.2.finished })))
  where
    before : Slots
    before = all_ended base (take short.at ws)

    attached_still : {P Q : Type 0} → P ⊎ (Q × IsSome (watch_of (take short.at ws) k)) → P ⊎ (Q × IsSome (watch_of ws k))
    attached_still (inl p) = inl p
    attached_still (inr q) = inr (q.0, front_attached short.at ws k q.1)

-- a watcher that was told all that the ending tells it, and may be finished
heard_whole : (ns : List Notice) (watch : Option ℕ) (before b after : Watched) → b ≡ told_more ns before → EndedOrNot watch b after → HeardOrEnded ns watch before after
heard_whole ns watch before b after told ends = record {
  part = ns;
  front = ([], sym (append-nil ns));
  told = ends.told ∙ ap (λ (w : Watched). w.told) told;
  finished = by_end ends.finished;
}
  where
    by_end : (after.finished ≡ b.finished) ⊎ ((after.finished ≡ true) × IsSome watch) → (after.finished ≡ before.finished) ⊎ ((after.finished ≡ true) × (ns ≡ ns) × IsSome watch)
    by_end (inl same) = inl (same ∙ ap (λ (w : Watched). w.finished) told)
    by_end (inr (is, some)) = inr (is, refl, some)

heard_front : (ns : List Notice) (watch : Option ℕ) (before after : Watched) → HeardAFront ns before after → HeardOrEnded ns watch before after
heard_front ns watch before after heard = record { part = heard.part; front = heard.front; told = heard.told; finished = inl heard.finished }

-- where the call stopped short or came to its end
short_heard : (e : Ending) (old new : Outside) (k : ℕ) (before after : Watched) → IsShort e old.out new.out → slot old.out.slots k ≡ Some before
    → slot new.out.slots k ≡ Some after → HeardOrEnded (notices_of e.told k) (watch_of e.watches k) before after
short_heard e old new k before after short was is =
    heard_front (notices_of e.told k) (watch_of e.watches k) before after (short_front e old new k before after short was is)

whole_heard : EachIsToldItsOwn → (e : Ending) (old new : Outside) (k : ℕ) (before after : Watched) → IsWhole e old.out new.out → slot old.out.slots k ≡ Some before
    → slot new.out.slots k ≡ Some after → HeardOrEnded (notices_of e.told k) (watch_of e.watches k) before after
whole_heard each e old new k before after whole was is =
    let there : slot (all_ended (told_by e old.out.slots) e.watches) k ≡ Some after = ap (λ (ss : Slots). slot ss k) (sym whole.slots) ∙ is in
    let found = ended_at (told_by e old.out.slots) e.watches k after there in
    heard_whole (notices_of e.told k) (watch_of e.watches k) before found.0 after (told_still each e old.out.slots k before found.0 was found.1) found.2

pub others_front : EachIsToldItsOwn → (status : Status) (e : Ending) (old new : Outside) (k : ℕ) (before after : Watched) → MayHaveEnded status → Gives status e old.out new.out
    → slot old.out.slots k ≡ Some before → slot new.out.slots k ≡ Some after → HeardOrEnded (notices_of e.told k) (watch_of e.watches k) before after
others_front each WatcherFault e old new k before after may (inl short) was is = short_heard e old new k before after short was is
others_front each WatcherFault e old new k before after may (inr closes) was is =
    let found = closes_at (told_by e old.out.slots) e.watches new.out.slots k after closes.slots is in
    heard_whole (notices_of e.told k) (watch_of e.watches k) before found.0 after (told_still each e old.out.slots k before found.0 was found.1) found.2
others_front each NoMemory e old new k before after may (inl ends) was is = whole_heard each e old new k before after ends.1 was is
others_front each NoMemory e old new k before after may (inr short) was is = short_heard e old new k before after short was is
others_front each Done e old new k before after may gives was is = absurd may
others_front each ScriptFault e old new k before after may gives was is = absurd may
others_front each Usage e old new k before after may gives was is = absurd may
others_front each SourceFault e old new k before after may gives was is = absurd may
others_front each SinkFault e old new k before after may gives was is = absurd may
