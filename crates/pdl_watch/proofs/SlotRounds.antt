-- The rounds of a loop that changes slot after slot.
use Rattle.std.proofs.Common.{◌≡◌, ℕ, ◌+◌, ◌<◌, ◌≤◌, List, [], take, length, get_or, set, Option, None, option_map, sym, ap, subst, ◌∙◌, arith, add-one, min, inl, inr}
use Rattle.std.specs.Prelude.{IsSome, Vec}
use Rattle.std.proofs.lemmas.List.{get_or-map, get_or_default, map-set, set-set, length-set, length-map, take_all}
use Rattle.std.proofs.lemmas.Bool.{cases_lt}
use Rattle.std.specs.Global.{Global}
use Rattle.pdl_watch.specs.declared.notice.Notice.{Notice}
use Rattle.pdl_watch.specs.Watched.{Watched, told_more}
use Rattle.pdl_watch.specs.Slots.{Slots, slots_by, lists_of, changed, ended_where, slot, StopsAt, StopsInTurn, SlotMissed, EndedShort, EndsShort, IsOpen, AreOpen}
use Rattle.pdl_watch.proofs.SlotLemmas.{next_slot, one_more, enough, open_all}

-- so far the first k slots were changed
pub record SoFar {W A : Type 0} (see : W → Watched) (f : A → Watched → Watched) (start items : List (Option W)) (xs : List A) (k : ℕ) : Type 0 where
  pub long : length items ≡ length start
  pub now : slots_by see items ≡ changed f (slots_by see start) (take k xs)

-- the next slot has the watcher w, and x stands for it
pub record IsNext {W A : Type 0} (see : W → Watched) (f : A → Watched → Watched) (start items : List (Option W)) (xs : List A) (k : ℕ) (w : Option W) (x : A) : Type 0 where
  pub so_far : SoFar see f start items xs k
  pub inside : k < length start
  pub there : k < length xs
  pub for_it : x ≡ get_or xs k x
  pub seen : option_map see w ≡ slot (slots_by see start) k

pub is_next : {W A : Type 0} → (see : W → Watched) (f : A → Watched → Watched) (start items : List (Option W)) (xs : List A) (k : ℕ)
    (w : Option W) (x : A) → SoFar see f start items xs k → k < length items → k < length xs
    → w ≡ get_or items k w → x ≡ get_or xs k x → IsNext see f start items xs k w x
is_next see f start items xs k w x so_far inside there here for_it = record {
  so_far = so_far;
  inside = subst (λ (n : ℕ). k < n) so_far.long inside;
  there = there;
  for_it = for_it;
  seen = ap (option_map see) here ∙ sym (get_or-map (option_map see) items k w None inside)
      ∙ ap (λ (ss : Slots). slot ss k) so_far.now ∙ next_slot f (slots_by see start) xs k;
}

long_seen : {W : Type 0} → (see : W → Watched) (items : List (Option W)) (k : ℕ) → k < length items → k < length (slots_by see items)
long_seen see items k inside = subst (λ (n : ℕ). k < n) (sym (length-map items (option_map see))) inside

pub next_round : {W A : Type 0} → (see : W → Watched) (f : A → Watched → Watched) (start items : List (Option W)) (xs : List A) (k : ℕ)
    (w new : Option W) (x : A) → IsNext see f start items xs k w x
    → option_map see new ≡ option_map (f x) (option_map see w)
    → SoFar see f start (set items k new) xs (k + 1)
next_round see f start items xs k w new x next told = record {
  long = length-set items k new ∙ next.so_far.long;
  now = map-set (option_map see) items k new
      ∙ ap (λ (ss : Slots). set ss k (option_map see new)) next.so_far.now
      ∙ ap (set (changed f (slots_by see start) (take k xs)) k) (told ∙ ap (λ y. option_map (f y) (option_map see w)) next.for_it ∙ ap (option_map (f (get_or xs k x))) next.seen)
      ∙ one_more f (slots_by see start) xs k x (long_seen see start k next.inside) next.there
      ∙ ap (λ (n : ℕ). changed f (slots_by see start) (take n xs)) (sym (add-one k));
}

pub next_open : {W A : Type 0} → (see : W → Watched) (f : A → Watched → Watched) (start items : List (Option W)) (xs : List A) (k : ℕ)
    (w : Option W) (x : A) → IsNext see f start items xs k w x → AreOpen (slots_by see start) → IsOpen (option_map see w)
next_open see f start items xs k w x next are = subst (λ (s : Option Watched). IsOpen s) (sym next.seen) (are k)

pub all_done : {W A : Type 0} → (see : W → Watched) (f : A → Watched → Watched) (start items : List (Option W)) (xs : List A) (k : ℕ)
    → SoFar see f start items xs k → min (length start) (length xs) ≤ k
    → slots_by see items ≡ changed f (slots_by see start) xs
all_done see f start items xs k so_far end = so_far.now ∙ elim (cases_lt k (length start)) [
  | inl inside ↦ ap (changed f (slots_by see start)) (take_all k xs (omega arith))
  | inr past ↦ enough f (slots_by see start) xs k (subst (λ (n : ℕ). n ≤ k) (sym (length-map start (option_map see))) past)
]

-- the slots where one of them is another
now_set : {W A : Type 0} → (see : W → Watched) (f : A → Watched → Watched) (start items : List (Option W)) (xs : List A) (k : ℕ) (new : Option W)
    → SoFar see f start items xs k
    → slots_by see (set items k new) ≡ set (changed f (slots_by see start) (take k xs)) k (option_map see new)
now_set see f start items xs k new so_far =
    map-set (option_map see) items k new ∙ ap (λ (ss : Slots). set ss k (option_map see new)) so_far.now

pub next_stops : {W : Type 0} → (see : W → Watched) (start items : List (Option W)) (all : List (List Notice)) (k : ℕ)
    (w new : Option W) (ns : List Notice) → IsNext see told_more start items all k w ns
    → StopsAt ns (option_map see w) (option_map see new)
    → StopsInTurn (slots_by see start) all (slots_by see (set items k new))
next_stops see start items all k w new ns next stops = record {
  at = k;
  watcher = option_map see new;
  stops = subst (λ (ms : List Notice). StopsAt ms (slot (slots_by see start) k) (option_map see new)) (next.for_it ∙ get_or_default all k ns [] next.there)
      (subst (λ (s : Option Watched). StopsAt ns s (option_map see new)) next.seen stops);
  before = now_set see told_more start items all k new next.so_far;
}

pub next_ended_short : {W : Type 0} → (see : W → Watched) (start items : List (Option W)) (watches : List (Option ℕ)) (k : ℕ)
    (w new : Option W) (b : Option ℕ) → IsNext see ended_where start items watches k w b
    → IsSome b → SlotMissed (option_map see w) (option_map see new)
    → EndedShort (slots_by see start) watches (slots_by see (set items k new))
next_ended_short see start items watches k w new b next some missed = record {
  at = k;
  attached = subst (λ (o : Option ℕ). IsSome o) (next.for_it ∙ get_or_default watches k b None next.there) some;
  watcher = option_map see new;
  missed = subst (λ (s : Option Watched). SlotMissed s (option_map see new)) next.seen missed;
  before = now_set see ended_where start items watches k new next.so_far;
}

-- the notices for a slot
pub notices_seen : (vs : List (Vec Notice Global)) (k : ℕ) (v : Vec Notice Global) (ns : List Notice)
    → k < length vs → v ≡ get_or vs k v → ns ≡ v.items → ns ≡ get_or (lists_of vs) k ns
notices_seen vs k v ns there here same =
    same ∙ ap (λ (v : Vec Notice Global). v.items) here ∙ sym (get_or-map (λ (v : Vec Notice Global). v.items) vs k v ns there)

pub lists_long : (vs : List (Vec Notice Global)) → length (lists_of vs) ≡ length vs
lists_long vs = length-map vs (λ v. v.items)

-- a slot of a list is seen in what is seen of the list
pub slot_seen : {W : Type 0} → (see : W → Watched) (items : List (Option W)) (k : ℕ) (w : Option W) → k < length items
    → w ≡ get_or items k w → option_map see w ≡ slot (slots_by see items) k
slot_seen see items k w inside here = ap (option_map see) here ∙ sym (get_or-map (option_map see) items k w None inside)

-- one slot replaced, seen
pub seen_set : {W : Type 0} → (see : W → Watched) (items : List (Option W)) (k : ℕ) (w : Option W)
    → slots_by see (set items k w) ≡ set (slots_by see items) k (option_map see w)
seen_set see items k w = map-set (option_map see) items k w

-- one slot replaced twice, seen
pub seen_set_twice : {W : Type 0} → (see : W → Watched) (items : List (Option W)) (k : ℕ) (w v : Option W)
    → slots_by see (set (set items k w) k v) ≡ set (slots_by see items) k (option_map see v)
seen_set_twice see items k w v = ap (slots_by see) (set-set items k w v) ∙ seen_set see items k v

pub ends_short : {W : Type 0} → (see : W → Watched) (items : List (Option W)) (k : ℕ) (w new : Option W) → k < length items
    → w ≡ get_or items k w → SlotMissed (option_map see w) (option_map see new)
    → EndsShort (slots_by see items) k (slots_by see (set items k new))
ends_short see items k w new inside here missed = record {
  watcher = option_map see new;
  missed = subst (λ (s : Option Watched). SlotMissed s (option_map see new)) (slot_seen see items k w inside here) missed;
  at = seen_set see items k new;
}

pub seen_open : {W : Type 0} → (see : W → Watched) (items : List (Option W)) (n : ℕ) → length items ≤ n
    → ((k : ℕ) → k < n → IsOpen (slot (slots_by see items) k)) → AreOpen (slots_by see items)
seen_open see items n long are =
    open_all (slots_by see items) n (subst (λ (m : ℕ). m ≤ n) (sym (length-map items (option_map see))) long) are
