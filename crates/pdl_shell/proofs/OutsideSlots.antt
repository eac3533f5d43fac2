-- Slots while a run goes on, and where it stops, number by number.
use Rattle.std.proofs.Common.{◌≡◌, ℕ, zero, suc, List, [], ◌∷◌, ◌++◌, length, Bool, true, false, if◌then◌else◌, Option, Some, None, option_map, refl, sym, ◌∙◌, ap, subst, arith, append_assoc, append-nil}
use Rattle.std.proofs.lemmas.Bool.{true≢false}
use Rattle.pdl_io.specs.Counts.{Rose}
use Rattle.pdl_watch.specs.declared.notice.Notice.{Notice}
use Rattle.pdl_watch.specs.Watched.{Watched, told_more}
use Rattle.pdl_watch.specs.Slots.{Slots, slot, notices_of, all_told, all_ended, ended_where, emptied, IsBelow, IsQuiet, joined, SlotRose, CountStays, SlotToldPart, ToldShort, OneMissed}
use Rattle.pdl_watch.specs.SlotLaws.{EachIsToldItsOwn, EachIsJoined}
use Rattle.pdl_machine.specs.Watches.{is_present}
use Rattle.pdl_shell.specs.Outside.{CountsStay}
use Rattle.pdl_shell.specs.Answers.{SlotHears, HeardShort}

count_same : (s : Option Watched) → CountStays s s
count_same None = tt
count_same (Some w) = refl

count_then : (a b c : Option Watched) → CountStays a b → CountStays b c → CountStays a c
count_then None None None first then' = tt
count_then None None (Some z) first then' = then'
count_then None (Some y) None first then' = tt
count_then None (Some y) (Some z) first then' = first
count_then (Some x) None None first then' = tt
count_then (Some x) None (Some z) first then' = absurd then'
count_then (Some x) (Some y) None first then' = tt
count_then (Some x) (Some y) (Some z) first then' = then' ∙ first

pub counts_same : (ss : Slots) → CountsStay ss ss
counts_same ss k = count_same (slot ss k)

pub counts_then : (a b c : Slots) → CountsStay a b → CountsStay b c → CountsStay a c
counts_then a b c first then' k = count_then (slot a k) (slot b k) (slot c k) (first k) (then' k)

count_told : (ns : List Notice) (s : Option Watched) → CountStays s (option_map (told_more ns) s)
count_told ns None = tt
count_told ns (Some w) = refl

counts_told : (ss : Slots) (xs : List (List Notice)) → CountsStay ss (all_told ss xs)
counts_told [] xs k = count_same (slot [] k)
counts_told (s ∷ ss) [] k = count_same (slot (s ∷ ss) k)
counts_told (s ∷ ss) (x ∷ xs) zero = count_told x s
counts_told (s ∷ ss) (x ∷ xs) (suc k) = counts_told ss xs k

count_left : (p : Bool) (s : Option Watched) → CountStays s (if p then s else None)
count_left true s = count_same s
count_left false None = tt
count_left false (Some w) = tt

counts_left : (ss : Slots) (ps : List Bool) → CountsStay ss (emptied ss ps)
counts_left [] ps k = count_same (slot [] k)
counts_left (s ∷ ss) [] k = count_same (slot (s ∷ ss) k)
counts_left (s ∷ ss) (p ∷ ps) zero = count_left p s
counts_left (s ∷ ss) (p ∷ ps) (suc k) = counts_left ss ps k

count_ended : (o : Option ℕ) (s : Option Watched) → CountStays s (option_map (ended_where o) s)
count_ended None None = tt
count_ended None (Some w) = refl
count_ended (Some v) None = tt
count_ended (Some v) (Some w) = refl

pub counts_ended : (ss : Slots) (ws : List (Option ℕ)) → CountsStay ss (all_ended ss ws)
counts_ended [] ws k = count_same (slot [] k)
counts_ended (s ∷ ss) [] k = count_same (slot (s ∷ ss) k)
counts_ended (s ∷ ss) (w ∷ ws) zero = count_ended w s
counts_ended (s ∷ ss) (w ∷ ws) (suc k) = counts_ended ss ws k

-- telling and giving up raise no count
pub counts_by : (first : Slots) (xs : List (List Notice)) (ps : List Bool) → CountsStay first (emptied (all_told first xs) ps)
counts_by first xs ps = counts_then first (all_told first xs) (emptied (all_told first xs) ps) (counts_told first xs) (counts_left (all_told first xs) ps)

rose_then : (a b c : Option Watched) → CountStays a b → SlotRose b c → SlotRose a c
rose_then None None None stays rose = absurd rose
rose_then None None (Some z) stays rose = absurd rose
rose_then None (Some y) None stays rose = absurd rose
rose_then None (Some y) (Some z) stays rose = absurd stays
rose_then (Some x) None None stays rose = absurd rose
rose_then (Some x) None (Some z) stays rose = absurd rose
rose_then (Some x) (Some y) None stays rose = absurd rose
rose_then (Some x) (Some y) (Some z) stays rose = subst (λ (n : ℕ). Rose n z.misses) stays rose

-- one call failed, after others that didn't
pub one_rose : (first mid now : Slots) → CountsStay first mid → OneMissed mid now → OneMissed first now
one_rose first mid now stays missed = record {
  at = missed.at;
  rose = rose_then (slot first missed.at) (slot mid missed.at) (slot now missed.at) (stays missed.at) missed.rose;
  others = λ k other.
      count_then (slot first k) (slot mid k) (slot now k) (stays k) (missed.others k other);
}

-- no slot has notices where there are none
pub no_notices : IsQuiet []
no_notices = λ k d inside. absurd (omega arith)

behind_twice : (o : Option (List Notice)) (ns ms : List Notice)
    → option_map (λ (before : List Notice). before ++ ms) (option_map (λ before. before ++ ns) o) ≡ option_map (λ before. before ++ (ns ++ ms)) o
behind_twice None ns ms = refl
behind_twice (Some xs) ns ms = ap Some (append_assoc xs ns ms)

heard_all : (ns : List Notice) (stays : Bool) (s : Option Watched) → SlotHears ns stays s (option_map (told_more ns) s)
heard_all ns stays None = tt
heard_all ns stays (Some w) = record { part = ns; front = ([], sym (append-nil ns)); told = refl; finished = refl; later = omega arith }

heard_left : (ns : List Notice) (p : Bool) (s t : Option Watched) → SlotHears ns p s t → SlotHears ns p s (if p then t else None)
heard_left ns true s t heard = heard
heard_left ns false None t heard = tt
heard_left ns false (Some w) t heard = λ e. true≢false (sym e)

left_heard : (s : Option Watched) (rs : Slots) (ps : List Bool) (k : ℕ) (ns : List Notice)
    → SlotHears ns (is_present ps k) s (slot rs k) → SlotHears ns (is_present ps k) s (slot (emptied rs ps) k)
left_heard s [] ps k ns heard = heard
left_heard s (r ∷ rs) [] k ns heard = heard
left_heard s (r ∷ rs) (p ∷ ps) zero ns heard = heard_left ns p s r heard
left_heard s (r ∷ rs) (p ∷ ps) (suc k) ns heard = left_heard s rs ps k ns heard

-- all were told all of their notices
pub heard_by : EachIsToldItsOwn → (first : Slots) (xs : List (List Notice)) (ps : List Bool) → length (emptied (all_told first xs) ps) ≡ length first
    → HeardShort first xs ps (emptied (all_told first xs) ps)
heard_by told first xs ps long = record {
  long = long;
  each = λ k. left_heard (slot first k) (all_told first xs) ps k (notices_of xs k)
      (subst (λ (s : Option Watched). SlotHears (notices_of xs k) (is_present ps k) (slot first k) s) (sym (told first xs k))
      (heard_all (notices_of xs k) (is_present ps k) (slot first k)));
}

below_at : (qs ps : List Bool) → IsBelow qs ps → (k : ℕ) → is_present qs k ≡ true → is_present ps k ≡ true
below_at [] [] below k is = is
below_at [] (p ∷ ps) below k is = absurd below
below_at (q ∷ qs) [] below k is = absurd below
below_at (q ∷ qs) (p ∷ ps) below zero is = below.0 is
below_at (q ∷ qs) (p ∷ ps) below (suc k) is = below_at qs ps below.1 k is

hears_later : (ns ms : List Notice) (stays stays' : Bool) (s n : Option Watched) → (stays' ≡ true → stays ≡ true)
    → SlotHears ns stays s n → SlotHears (ns ++ ms) stays' s n
hears_later ns ms stays stays' None None below heard = tt
hears_later ns ms stays stays' None (Some n) below heard = heard
hears_later ns ms stays stays' (Some w) None below heard = λ e. heard (below e)
hears_later ns ms stays stays' (Some w) (Some n) below heard = record {
  part = heard.part;
  front = (heard.front.0 ++ ms, ap (λ (u : List Notice). u ++ ms) heard.front.1 ∙ append_assoc heard.part heard.front.0 ms);
  told = heard.told;
  finished = heard.finished;
  later = heard.later;
}

-- what was heard by a stop is the front of what more statements tell
pub heard_later : EachIsJoined → (first : Slots) (xs more : List (List Notice)) (ps qs : List Bool) (now : Slots) → IsBelow qs ps
    → HeardShort first xs ps now → HeardShort first (joined xs more) qs now
heard_later joins first xs more ps qs now below heard = record {
  long = heard.long;
  each = λ k. subst (λ (ns : List Notice). SlotHears ns (is_present qs k) (slot first k) (slot now k)) (sym (joins xs more k))
      (hears_later (notices_of xs k) (notices_of more k) (is_present ps k) (is_present qs k) (slot first k) (slot now k) (below_at qs ps below k) (heard.each k));
}

hears_then : (xs ys : List Notice) (stays : Bool) (s n : Option Watched) → SlotToldPart ys (option_map (told_more xs) s) n → SlotHears (xs ++ ys) stays s n
hears_then xs ys stays None None told = tt
hears_then xs ys stays None (Some n) told = told
hears_then xs ys stays (Some w) None told = absurd told
hears_then xs ys stays (Some w) (Some n) told = record {
  part = xs ++ told.part;
  front = (told.front.0, ap (λ (u : List Notice). xs ++ u) told.front.1 ∙ sym (append_assoc xs told.part told.front.0));
  told = told.told ∙ behind_twice w.told xs told.part;
  finished = told.finished;
  later = told.later;
}

gone_then : (p : Bool) (xs ys : List Notice) (s r n : Option Watched) → r ≡ option_map (told_more xs) s → SlotToldPart ys (if p then r else None) n
    → SlotHears (xs ++ ys) p s n
gone_then true xs ys s r n is told = hears_then xs ys true s n (subst (λ (o : Option Watched). SlotToldPart ys o n) is told)
gone_then false xs ys None r None is told = tt
gone_then false xs ys None r (Some n) is told = told
gone_then false xs ys (Some w) r None is told = λ e. true≢false (sym e)
gone_then false xs ys (Some w) r (Some n) is told = absurd told

left_then : (s : Option Watched) (rs : Slots) (ps : List Bool) (k : ℕ) (xs ys : List Notice) (n : Option Watched)
    → slot rs k ≡ option_map (told_more xs) s → SlotToldPart ys (slot (emptied rs ps) k) n → SlotHears (xs ++ ys) (is_present ps k) s n
left_then s [] ps k xs ys n is told = hears_then xs ys (is_present ps k) s n (subst (λ (o : Option Watched). SlotToldPart ys o n) is told)
left_then s (r ∷ rs) [] k xs ys n is told = hears_then xs ys (is_present [] k) s n (subst (λ (o : Option Watched). SlotToldPart ys o n) is told)
left_then s (r ∷ rs) (p ∷ ps) zero xs ys n is told = gone_then p xs ys s r n is told
left_then s (r ∷ rs) (p ∷ ps) (suc k) xs ys n is told = left_then s rs ps k xs ys n is told

hears_below : (ns : List Notice) (stays stays' : Bool) (s n : Option Watched) → (stays' ≡ true → stays ≡ true) → SlotHears ns stays s n → SlotHears ns stays' s n
hears_below ns stays stays' None None below heard = tt
hears_below ns stays stays' None (Some n) below heard = heard
hears_below ns stays stays' (Some w) None below heard = λ e. heard (below e)
hears_below ns stays stays' (Some w) (Some n) below heard = heard

-- a statement's telling stopped, after all that was told before it
pub heard_then : EachIsToldItsOwn → EachIsJoined → (first : Slots) (xs ys : List (List Notice)) (ps qs : List Bool) (now : Slots) → IsBelow qs ps
    → length (emptied (all_told first xs) ps) ≡ length first → ToldShort (emptied (all_told first xs) ps) ys now
    → HeardShort first (joined xs ys) qs now
heard_then told joins first xs ys ps qs now below long short = record {
  long = short.long ∙ long;
  each = λ k. subst (λ (ns : List Notice). SlotHears ns (is_present qs k) (slot first k) (slot now k)) (sym (joins xs ys k))
      (hears_below (notices_of xs k ++ notices_of ys k) (is_present ps k) (is_present qs k) (slot first k) (slot now k) (below_at qs ps below k)
      (left_then (slot first k) (all_told first xs) ps k (notices_of xs k) (notices_of ys k) (slot now k) (told first xs k) (short.each k)));
}
