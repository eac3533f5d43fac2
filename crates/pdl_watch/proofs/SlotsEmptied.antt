-- Slots that are emptied, and slots that are told.
use Rattle.std.proofs.Common.{◌≡◌, ℕ, zero, suc, Bool, true, false, List, [], ◌∷◌, length, set, Option, Some, None, is_some, option_map, if◌then◌else◌, refl, sym, ap, ap₂, subst, ◌∙◌, arith}
use Rattle.std.proofs.lemmas.Bool.{true≢false}
use Rattle.std.proofs.lemmas.List.{get_or_default}
use Rattle.pdl_watch.specs.declared.notice.Notice.{Notice}
use Rattle.pdl_watch.specs.Watched.{Watched, told_more}
use Rattle.pdl_watch.specs.Slots.{Slots, all_told, slot, notices_of, IsQuiet, present_in, emptied, IsBelow, IsOpen, AreOpen}
use Rattle.pdl_watch.proofs.SlotLemmas.{slot_none}
use Rattle.pdl_watch.proofs.WatchedJoins.{told_at}

pub quiet_none : (ss : Slots) (all : List (List Notice)) → IsQuiet all → all_told ss all ≡ ss
quiet_none [] all quiet = refl
quiet_none (s ∷ ss) [] quiet = refl
quiet_none (s ∷ ss) (x ∷ xs) quiet =
    ap (λ (o : Option Watched). o ∷ all_told ss xs) (ap (λ (ns : List Notice). option_map (told_more ns) s) (quiet 0 x (omega arith)) ∙ slot_none s)
    ∙ ap (λ (r : Slots). s ∷ r) (quiet_none ss xs (λ k d inside. quiet (suc k) d (omega arith)))

quiet_by : (all : List (List Notice)) → ((k : ℕ) → notices_of all k ≡ []) → IsQuiet all
quiet_by all none k d inside = get_or_default all k d [] inside ∙ none k

pub same_told : (ss : Slots) (xs ys : List (List Notice)) → ((k : ℕ) → notices_of xs k ≡ notices_of ys k) → all_told ss xs ≡ all_told ss ys
same_told [] xs ys same = refl
same_told (s ∷ ss) [] ys same = sym (quiet_none (s ∷ ss) ys (quiet_by ys (λ k. sym (same k))))
same_told (s ∷ ss) (x ∷ xs) [] same = quiet_none (s ∷ ss) (x ∷ xs) (quiet_by (x ∷ xs) same)
same_told (s ∷ ss) (x ∷ xs) (y ∷ ys) same =
    ap (λ (ns : List Notice). option_map (told_more ns) s ∷ all_told ss xs) (same 0)
    ∙ ap (λ (r : Slots). option_map (told_more y) s ∷ r) (same_told ss xs ys (λ k. same (suc k)))

some_told : (ns : List Notice) (s : Option Watched) → is_some (option_map (told_more ns) s) ≡ is_some s
some_told ns None = refl
some_told ns (Some w) = refl

pub present_told : (ss : Slots) (all : List (List Notice)) → present_in (all_told ss all) ≡ present_in ss
present_told [] all = refl
present_told (s ∷ ss) [] = refl
present_told (s ∷ ss) (x ∷ xs) = ap₂ (λ (p : Bool) (ps : List Bool). p ∷ ps) (some_told x s) (present_told ss xs)

some_left : (p : Bool) (s : Option Watched) → (p ≡ true → is_some s ≡ true) → is_some (if p then s else None) ≡ p
some_left true s below = below refl
some_left false s below = refl

pub present_left : (ss : Slots) (ps : List Bool) → IsBelow ps (present_in ss) → present_in (emptied ss ps) ≡ ps
present_left [] [] below = refl
present_left [] (p ∷ ps) below = absurd below
present_left (s ∷ ss) [] below = absurd below
present_left (s ∷ ss) (p ∷ ps) below = ap₂ (λ (q : Bool) (qs : List Bool). q ∷ qs) (some_left p s below.0) (present_left ss ps below.1)

all_stays : (s : Option Watched) → (if is_some s then s else None) ≡ s
all_stays None = refl
all_stays (Some w) = refl

pub none_emptied : (ss : Slots) → emptied ss (present_in ss) ≡ ss
none_emptied [] = refl
none_emptied (s ∷ ss) = ap₂ (λ (o : Option Watched) (r : Slots). o ∷ r) (all_stays s) (none_emptied ss)

pub ended_emptied : (ss : Slots) (k : ℕ) → set ss k None ≡ emptied ss (set (present_in ss) k false)
ended_emptied [] k = refl
ended_emptied (s ∷ ss) zero = ap (λ (r : Slots). None ∷ r) (sym (none_emptied ss))
ended_emptied (s ∷ ss) (suc k) = ap₂ (λ (o : Option Watched) (r : Slots). o ∷ r) (sym (all_stays s)) (ended_emptied ss k)

told_left : (p : Bool) (ns : List Notice) (s : Option Watched) → option_map (told_more ns) (if p then s else None) ≡ (if p then option_map (told_more ns) s else None)
told_left true ns s = refl
told_left false ns s = refl

pub emptied_told : (ss : Slots) (ps : List Bool) (all : List (List Notice)) → all_told (emptied ss ps) all ≡ emptied (all_told ss all) ps
emptied_told [] ps all = refl
emptied_told (s ∷ ss) [] [] = refl
emptied_told (s ∷ ss) [] (x ∷ xs) = refl
emptied_told (s ∷ ss) (p ∷ ps) [] = refl
emptied_told (s ∷ ss) (p ∷ ps) (x ∷ xs) = ap₂ (λ (o : Option Watched) (r : Slots). o ∷ r) (told_left p x s) (emptied_told ss ps xs)

left_twice : (p q : Bool) (s : Option Watched) → (q ≡ true → p ≡ true) → (if q then (if p then s else None) else None) ≡ (if q then s else None)
left_twice true true s below = refl
left_twice false true s below = absurd (true≢false (sym (below refl)))
left_twice true false s below = refl
left_twice false false s below = refl

pub emptied_twice : (ss : Slots) (ps qs : List Bool) → IsBelow qs ps → emptied (emptied ss ps) qs ≡ emptied ss qs
emptied_twice [] ps qs below = refl
emptied_twice (s ∷ ss) [] [] below = refl
emptied_twice (s ∷ ss) [] (q ∷ qs) below = absurd below
emptied_twice (s ∷ ss) (p ∷ ps) [] below = absurd below
emptied_twice (s ∷ ss) (p ∷ ps) (q ∷ qs) below = ap₂ (λ (o : Option Watched) (r : Slots). o ∷ r) (left_twice p q s below.0) (emptied_twice ss ps qs below.1)

pub emptied_long : (ss : Slots) (ps : List Bool) → length (emptied ss ps) ≡ length ss
emptied_long [] ps = refl
emptied_long (s ∷ ss) [] = refl
emptied_long (s ∷ ss) (p ∷ ps) = ap suc (emptied_long ss ps)

open_told : (ns : List Notice) (s : Option Watched) → IsOpen s → IsOpen (option_map (told_more ns) s)
open_told ns None is = tt
open_told ns (Some w) is = is

pub told_open : (ss : Slots) (all : List (List Notice)) → AreOpen ss → AreOpen (all_told ss all)
told_open ss all are k =
    subst (λ (s : Option Watched). IsOpen s) (sym (told_at ss all k)) (open_told (notices_of all k) (slot ss k) (are k))

open_left : (p : Bool) (s : Option Watched) → IsOpen s → IsOpen (if p then s else None)
open_left true s is = is
open_left false s is = tt

pub emptied_open : (ss : Slots) (ps : List Bool) → AreOpen ss → AreOpen (emptied ss ps)
emptied_open [] ps are k = are k
emptied_open (s ∷ ss) [] are k = are k
emptied_open (s ∷ ss) (p ∷ ps) are zero = open_left p s (are 0)
emptied_open (s ∷ ss) (p ∷ ps) are (suc k) = emptied_open ss ps (λ j. are (suc j)) k
