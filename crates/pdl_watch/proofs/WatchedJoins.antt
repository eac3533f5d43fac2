-- Tellings one after another.
use Rattle.std.proofs.Common.{◌≡◌, ℕ, zero, suc, List, [], ◌∷◌, ◌++◌, length, Option, Some, None, option_map, refl, sym, ap, subst, ◌∙◌, append_assoc, inl, inr}
use Rattle.std.proofs.lemmas.List.{append-nil}
use Rattle.std.proofs.lemmas.Bool.{cases_lt}
use Rattle.std.proofs.Math.ListN.{get_or-eq_default}
use Rattle.pdl_watch.specs.declared.notice.Notice.{Notice}
use Rattle.pdl_watch.specs.Watched.{Watched, told_more}
use Rattle.pdl_watch.specs.Slots.{Slots, all_told, joined, slot, notices_of, SlotToldPart, SlotRose, ToldShort}
use Rattle.pdl_watch.proofs.WatchedTellings.{told_twice, behind_twice}
use Rattle.pdl_watch.proofs.SlotLemmas.{slot_none, slot_changed, slot_past, changed_long}

slot_twice : (xs ys : List Notice) (s : Option Watched) → option_map (told_more ys) (option_map (told_more xs) s) ≡ option_map (told_more (xs ++ ys)) s
slot_twice xs ys None = refl
slot_twice xs ys (Some w) = ap Some (told_twice xs ys w)

pub tells_twice : (ss : Slots) (xs ys : List (List Notice)) → all_told (all_told ss xs) ys ≡ all_told ss (joined xs ys)
tells_twice [] xs ys = refl
tells_twice (s ∷ ss) [] ys = refl
tells_twice (s ∷ ss) (x ∷ xs) [] = refl
tells_twice (s ∷ ss) (x ∷ xs) (y ∷ ys) =
    ap (λ (o : Option Watched). o ∷ all_told (all_told ss xs) ys) (slot_twice x y s)
    ∙ ap (λ (r : Slots). option_map (told_more (x ++ y)) s ∷ r) (tells_twice ss xs ys)

-- the notices of a slot are joined
pub joined_at : (xs ys : List (List Notice)) (k : ℕ) → notices_of (joined xs ys) k ≡ notices_of xs k ++ notices_of ys k
joined_at [] ys k = refl
joined_at (x ∷ xs) [] k = sym (append-nil (notices_of (x ∷ xs) k))
joined_at (x ∷ xs) (y ∷ ys) zero = refl
joined_at (x ∷ xs) (y ∷ ys) (suc k) = joined_at xs ys k

-- a slot afterwards was told the notices that stand for it
pub told_at : (ss : Slots) (xs : List (List Notice)) (k : ℕ) → slot (all_told ss xs) k ≡ option_map (told_more (notices_of xs k)) (slot ss k)
told_at ss xs k = elim (cases_lt k (length xs)) [
  | inl inside ↦ slot_changed told_more ss xs k [] inside
  | inr past ↦ slot_past told_more ss xs k past ∙ sym (slot_none (slot ss k))
      ∙ ap (λ (ns : List Notice). option_map (told_more ns) (slot ss k)) (sym (get_or-eq_default xs [] past))
]

part_later : (xs ys : List Notice) (s n : Option Watched) → SlotToldPart ys (option_map (told_more xs) s) n → SlotToldPart (xs ++ ys) s n
part_later xs ys None None p = tt
part_later xs ys None (Some n) p = absurd p
part_later xs ys (Some w) None p = absurd p
part_later xs ys (Some w) (Some n) p = record {
  part = xs ++ p.part;
  front = (p.front.0, ap (λ (ns : List Notice). xs ++ ns) p.front.1 ∙ sym (append_assoc xs p.part p.front.0));
  told = p.told ∙ behind_twice w.told xs p.part;
  finished = p.finished;
  later = p.later;
}

rose_later : (xs : List Notice) (s n : Option Watched) → SlotRose (option_map (told_more xs) s) n → SlotRose s n
rose_later xs None None p = p
rose_later xs None (Some n) p = p
rose_later xs (Some w) None p = p
rose_later xs (Some w) (Some n) p = p

pub stops_later : (ss : Slots) (xs ys : List (List Notice)) (now : Slots) → ToldShort (all_told ss xs) ys now → ToldShort ss (joined xs ys) now
stops_later ss xs ys now p = record {
  long = p.long ∙ changed_long told_more ss xs;
  each = λ k. subst (λ (ns : List Notice). SlotToldPart ns (slot ss k) (slot now k)) (sym (joined_at xs ys k))
      (part_later (notices_of xs k) (notices_of ys k) (slot ss k) (slot now k)
      (subst (λ (s : Option Watched). SlotToldPart (notices_of ys k) s (slot now k)) (told_at ss xs k) (p.each k)));
  rose = (
    p.rose.0,
    rose_later (notices_of xs p.rose.0) (slot ss p.rose.0) (slot now p.rose.0)
        (subst (λ (s : Option Watched). SlotRose s (slot now p.rose.0)) (told_at ss xs p.rose.0) p.rose.1),
  );
}
