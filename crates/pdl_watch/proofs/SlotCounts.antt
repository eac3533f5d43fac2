-- A failure among slots raises the count of one watcher alone.
use Rattle.std.proofs.Common.{◌≡◌, ℕ, zero, suc, ◌<◌, List, [], ◌∷◌, take, length, set, Option, Some, None, option_map, refl, sym, subst}
use Rattle.std.proofs.lemmas.List.{get_or-set_same, get_or-set_other}
use Rattle.pdl_watch.specs.declared.notice.Notice.{Notice}
use Rattle.pdl_watch.specs.Watched.{Watched, told_more}
use Rattle.pdl_watch.specs.Slots.{Slots, changed, all_told, all_ended, ended_where, slot, SlotMissed, SlotRose, CountStays, OneMissed, StopsInTurn, EndsShort, EndedShort}
use Rattle.pdl_watch.proofs.SlotLemmas.{slot_none, changed_long, stops_rose, stops_inside}

count_stays : (s : Option Watched) → CountStays s s
count_stays None = tt
count_stays (Some w) = refl

count_changed : {A : Type 0} → (f : A → Watched → Watched) → ((x : A) (w : Watched) → (f x w).misses ≡ w.misses)
    → (x : A) (s : Option Watched) → CountStays s (option_map (f x) s)
count_changed f keeps x None = tt
count_changed f keeps x (Some w) = keeps x w

-- what is done to the watchers of slots leaves their counts
counts_changed : {A : Type 0} → (f : A → Watched → Watched) → ((x : A) (w : Watched) → (f x w).misses ≡ w.misses)
    → (ss : Slots) (xs : List A) (j : ℕ) → CountStays (slot ss j) (slot (changed f ss xs) j)
counts_changed f keeps [] xs j = tt
counts_changed f keeps (s ∷ ss) [] j = count_stays (slot (s ∷ ss) j)
counts_changed f keeps (s ∷ ss) (x ∷ xs) zero = count_changed f keeps x s
counts_changed f keeps (s ∷ ss) (x ∷ xs) (suc j) = counts_changed f keeps ss xs j

-- the count of one slot rose
one_missed : (ss base : Slots) (k : ℕ) (new : Option Watched) → length base ≡ length ss
    → ((j : ℕ) → CountStays (slot ss j) (slot base j)) → k < length ss → SlotRose (slot ss k) new → OneMissed ss (set base k new)
one_missed ss base k new long keeps inside rose = record {
  at = k;
  rose = subst (λ (s : Option Watched). SlotRose (slot ss k) s) (sym here) rose;
  others = λ j other. subst (λ (s : Option Watched). CountStays (slot ss j) s) (sym (get_or-set_other base k j new None other)) (keeps j);
} where
  here : slot (set base k new) k ≡ new
  here = get_or-set_same base k new None (subst (λ (n : ℕ). k < n) (sym long) inside)

-- a call that failed is one that failed after nothing was told
told_nothing : (s n : Option Watched) → SlotMissed s n → SlotMissed (option_map (told_more []) s) n
told_nothing s n missed = subst (λ (w : Option Watched). SlotMissed w n) (sym (slot_none s)) missed

pub stops_one : (ss : Slots) (all : List (List Notice)) (now : Slots) → StopsInTurn ss all now → OneMissed ss now
stops_one ss all now stops =
    subst (λ (n : Slots). OneMissed ss n) (sym stops.before)
    (one_missed ss (all_told ss (take stops.at all)) stops.at stops.watcher (changed_long told_more ss (take stops.at all))
    (counts_changed told_more (λ ns w. refl) ss (take stops.at all))
    (stops_inside ss stops.at stops.stops.part stops.watcher stops.stops.missed)
    (stops_rose stops.stops.part (slot ss stops.at) stops.watcher stops.stops.missed))

pub ends_one : (ss : Slots) (k : ℕ) (now : Slots) → EndsShort ss k now → OneMissed ss now
ends_one ss k now ends =
    subst (λ (n : Slots). OneMissed ss n) (sym ends.at)
    (one_missed ss ss k ends.watcher refl (λ j. count_stays (slot ss j))
    (stops_inside ss k [] ends.watcher (told_nothing (slot ss k) ends.watcher ends.missed))
    (stops_rose [] (slot ss k) ends.watcher (told_nothing (slot ss k) ends.watcher ends.missed)))

ended_count : (watch : Option ℕ) (w : Watched) → (ended_where watch w).misses ≡ w.misses
ended_count None w = refl
ended_count (Some v) w = refl

pub ended_one : (ss : Slots) (watches : List (Option ℕ)) (now : Slots) → EndedShort ss watches now → OneMissed ss now
ended_one ss watches now short =
    subst (λ (n : Slots). OneMissed ss n) (sym short.before)
    (one_missed ss (all_ended ss (take short.at watches)) short.at short.watcher (changed_long ended_where ss (take short.at watches))
    (counts_changed ended_where ended_count ss (take short.at watches))
    (stops_inside ss short.at [] short.watcher (told_nothing (slot ss short.at) short.watcher short.missed))
    (stops_rose [] (slot ss short.at) short.watcher (told_nothing (slot ss short.at) short.watcher short.missed)))
