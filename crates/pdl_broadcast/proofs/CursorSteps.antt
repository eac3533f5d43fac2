-- How coordinates move on, one dimension after another.
use Rattle.std.proofs.Common.{◌≡◌, ℕ, zero, suc, ◌+◌, ◌<◌, ◌≤◌, nat_lt, List, [], ◌∷◌, ◌++◌, length, get_or, set, take, drop, ap, sym, ◌∙◌, arith, append_assoc, append-nil, length-set, drop-drop, if◌then◌else◌}
use Rattle.std.proofs.lemmas.Bool.Decides.{nat_tests}
use Rattle.std.proofs.lemmas.List.{at_drop_all, at_drop_more, drop-set-lt, take_all, take_more_set, take-append-drop}
use Rattle.pdl_broadcast.specs.Cursor.{next_of, rolled_of}
use Rattle.pdl_shape.specs.Laws.{PositionLaws}
use Rattle.pdl_shape.specs.Shape.{IsWithin}

-- the dimensions below i have rolled over
pub record Rolled (i : ℕ) (now old ds : List ℕ) : Type 0 where
  pub long : length now ≡ length old
  pub rest : drop i now ≡ drop i old
  pub moved : next_of ds old ≡ take i now ++ next_of (drop i ds) (drop i old)
  pub rolled : rolled_of ds old ≡ i + rolled_of (drop i ds) (drop i old)

-- a coordinate is below its size
pub within_at : (ds cs : List ℕ) (i : ℕ) → IsWithin ds cs → i < length ds → get_or cs i 0 < get_or ds i 0
within_at [] cs i w h = absurd (omega arith)
within_at (d ∷ ds) [] i w h = absurd w
within_at (d ∷ ds) (c ∷ cs) zero w h = w.0
within_at (d ∷ ds) (c ∷ cs) (suc i) w h = within_at ds cs i w.1 (omega arith)

-- what the code sees along dimension i
pub record Seen (i : ℕ) (now old ds : List ℕ) : Type 0 where
  pub inside : i < length now
  pub below : get_or now i 0 < get_or ds i 0
  pub same : get_or now i 0 ≡ get_or old i 0

abbrev first_or : List ℕ → ℕ
first_or [] = 0
first_or (c ∷ cs) = c

pub seen : PositionLaws → (i : ℕ) (now old ds : List ℕ) → IsWithin ds old → i < length ds → Rolled i now old ds → Seen i now old ds
seen laws i now old ds w h r =
    let short : i < length old = omega (arith, laws.as_many ds old w) in
    let short' : i < length now = omega (arith, r.long) in
    let a = at_drop_more first_or now i 0 short' in
    let b = at_drop_more first_or old i 0 short in
    let same : get_or now i 0 ≡ get_or old i 0 = sym a ∙ ap first_or r.rest ∙ b in
    record {
      inside = short';
      below = rw same (within_at ds old i w h);
      same = same;
    }

-- the parts of next and rolled along dimension i
next_at : (i : ℕ) (old ds : List ℕ) → i < length ds → i < length old → next_of (drop i ds) (drop i old) ≡ (if nat_lt (get_or old i 0 + 1) (get_or ds i 0) then (get_or old i 0 + 1) ∷ drop (i + 1) old else 0 ∷ next_of (drop (i + 1) ds) (drop (i + 1) old))
next_at i old ds h k =
    at_drop_more (λ rest. next_of rest (drop i old)) ds i 0 h ∙ at_drop_more (λ rest. next_of (get_or ds i 0 ∷ drop (i + 1) ds) rest) old i 0 k

rolled_at : (i : ℕ) (old ds : List ℕ) → i < length ds → i < length old → rolled_of (drop i ds) (drop i old) ≡ (if nat_lt (get_or old i 0 + 1) (get_or ds i 0) then 0 else suc (rolled_of (drop (i + 1) ds) (drop (i + 1) old)))
rolled_at i old ds h k =
    at_drop_more (λ rest. rolled_of rest (drop i old)) ds i 0 h ∙ at_drop_more (λ rest. rolled_of (get_or ds i 0 ∷ drop (i + 1) ds) rest) old i 0 k

-- a write within a list, by its parts
set_parts : (xs : List ℕ) (i v : ℕ) → i < length xs → set xs i v ≡ take i xs ++ v ∷ drop (i + 1) xs
set_parts xs i v h =
    sym (take-append-drop (i + 1) (set xs i v))
    ∙ ap (λ front. front ++ drop (i + 1) (set xs i v)) (take_more_set xs i v h)
    ∙ ap (λ back. (take i xs ++ v ∷ []) ++ back) (drop-set-lt (i + 1) xs i v (omega arith))
    ∙ append_assoc (take i xs) (v ∷ []) (drop (i + 1) xs)

drop_one : (i : ℕ) (xs ys : List ℕ) → drop i xs ≡ drop i ys → drop (i + 1) xs ≡ drop (i + 1) ys
drop_one i xs ys e = sym (drop-drop 1 i xs) ∙ ap (drop 1) e ∙ drop-drop 1 i ys

-- dimension i rolls over too
pub rolled_more : PositionLaws → (i : ℕ) (now old ds : List ℕ) → IsWithin ds old → i < length ds → get_or ds i 0 ≤ get_or now i 0 + 1 → Rolled i now old ds → Rolled (i + 1) (set now i 0) old ds
rolled_more laws i now old ds w h past r =
    let s = seen laws i now old ds w h r in
    let short : i < length old = omega (arith, laws.as_many ds old w) in
    let past' : get_or ds i 0 ≤ get_or old i 0 + 1 = omega (arith, s.same) in
    let next : next_of (drop i ds) (drop i old) ≡ 0 ∷ next_of (drop (i + 1) ds) (drop (i + 1) old) = next_at i old ds h short ∙ grind (arith, nat_tests, past') in
    let number : rolled_of (drop i ds) (drop i old) ≡ suc (rolled_of (drop (i + 1) ds) (drop (i + 1) old)) = rolled_at i old ds h short ∙ grind (arith, nat_tests, past') in
    record {
      long = length-set now i 0 ∙ r.long;
      rest = drop-set-lt (i + 1) now i 0 (omega arith) ∙ drop_one i now old r.rest;
      moved = r.moved ∙ ap (λ back. take i now ++ back) next ∙ sym (append_assoc (take i now) (0 ∷ []) _) ∙ ap (λ front. front ++ next_of (drop (i + 1) ds) (drop (i + 1) old)) (sym (take_more_set now i 0 s.inside));
      rolled = omega (arith, r.rolled, number);
    }

-- dimension i moves on
pub record Moved (i : ℕ) (new old ds : List ℕ) : Type 0 where
  pub moved : new ≡ next_of ds old
  pub rolled : i ≡ rolled_of ds old

pub moved_on : PositionLaws → (i : ℕ) (now old ds : List ℕ) → IsWithin ds old → i < length ds → get_or now i 0 + 1 < get_or ds i 0 → Rolled i now old ds → Moved i (set now i (get_or now i 0 + 1)) old ds
moved_on laws i now old ds w h below r =
    let s = seen laws i now old ds w h r in
    let short : i < length old = omega (arith, laws.as_many ds old w) in
    let below' : get_or old i 0 + 1 < get_or ds i 0 = omega (arith, s.same) in
    let next : next_of (drop i ds) (drop i old) ≡ (get_or old i 0 + 1) ∷ drop (i + 1) old = next_at i old ds h short ∙ grind (arith, nat_tests, below') in
    let number : rolled_of (drop i ds) (drop i old) ≡ 0 = rolled_at i old ds h short ∙ grind (arith, nat_tests, below') in
    record {
      moved = set_parts now i (get_or now i 0 + 1) s.inside
          ∙ ap (λ v. take i now ++ (v + 1) ∷ drop (i + 1) now) s.same
          ∙ ap (λ back. take i now ++ (get_or old i 0 + 1) ∷ back) (drop_one i now old r.rest)
          ∙ ap (λ back. take i now ++ back) (sym next)
          ∙ sym r.moved;
      rolled = omega (arith, r.rolled, number);
    }

-- all dimensions roll over
pub rolled_all : PositionLaws → (i : ℕ) (now old ds : List ℕ) → IsWithin ds old → length ds ≤ i → i ≤ length ds → Rolled i now old ds → Moved (length ds) now old ds
rolled_all laws i now old ds w end inside r =
    let long : length now ≤ i = omega (arith, r.long, laws.as_many ds old w) in
    let none = at_drop_all (λ rest. rolled_of rest (drop i old)) ds i end in
    record {
      moved = sym (take_all i now long) ∙ sym (append-nil (take i now)) ∙ ap (λ back. take i now ++ back) (sym (at_drop_all (λ rest. next_of rest (drop i old)) ds i end)) ∙ sym r.moved;
      rolled = omega (arith, r.rolled, none);
    }
