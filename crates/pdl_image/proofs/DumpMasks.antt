-- Masks of listed positions, and parts of them.
use Rattle.std.proofs.Common.{◌≡◌, ℕ, zero, suc, ◌+◌, ◌-◌, ◌<◌, ◌≤◌, Bool, true, false, cond, List, [], ◌∷◌, ◌++◌, length, take, drop, map, get_or, ℤ, pos, refl, ap, ap₂, sym, ◌∙◌, subst, arith, eqb-true}
use Rattle.std.specs.Prelude.{◌==◌, ◌||◌, ◌&&◌, IsTrue, nat_le, nat_lt, slice_set, replicate}
use Rattle.std.specs.List.{All, filter, range_with_len}
use Rattle.std.specs.List.Sorted.{IsNonDecreasing}
use Rattle.std.proofs.lemmas.Bool.{and_parts, ltb-true, eqb-false, ne_eqb, leb-true, le-leb}
use Rattle.std.proofs.lemmas.List.{get_or-set_same, get_or-set_other, get_or-take, get_or-drop, length-set, length-take-le, length-drop, get_or-replicate, length-replicate, same_lists, take-append-drop}
use Rattle.std.proofs.lemmas.List.Elements.{All-map, All-weaker}
use Rattle.std.proofs.lemmas.List.Folds.{list_any-append, list_any_none}
use Rattle.std.proofs.lemmas.List.FromFn.{get_or-map-range_with_len, length-map-range_with_len, take-map-range_with_len}
use Rattle.std.proofs.Math.Bool.{or-true, or-false}
use Rattle.pdl_lemmas.specs.Tests.{by_lt, by_test}
use Rattle.pdl_choice.specs.Where.{is_set, rises}
use Rattle.pdl_image.specs.Stems.{is_in}
use Rattle.pdl_image.specs.Dump.{is_least, mask_of}
use Rattle.pdl_image.specs.Adding.{mask_part}
use Rattle.pdl_image.specs.Laws.{MasksChoose}

-- a mask's number at a position
abbrev pub mark : List ℕ → ℕ → ℤ
mark places p = cond (is_in places p) (pos 1) (pos 0)

-- ---- the lists that hold no number of a range, or one

in_none : (places : List ℕ) (a n : ℕ) (p : ℕ) → IsTrue (rises a n places) → p < a → is_in places p ≡ false
in_none [] a n p up below = refl
in_none (q ∷ places) a n p up below =
    let first = and_parts (nat_le a q && nat_lt q n) (rises (q + 1) n places) up in
    let second = and_parts (nat_le a q) (nat_lt q n) first.0 in
    ap₂ (λ s t. s || t) (ne_eqb q p (apart a q p (leb-true a q second.0) below)) (in_none places (q + 1) n p first.1 (omega (arith, leb-true a q second.0)))
  where
    apart : (a q p : ℕ) → a ≤ q → p < a → q ≡ p → ⊥
    apart a q p h k e = omega arith

filter_none : (p : ℕ → Bool) (a m : ℕ) → ((j : ℕ) → a ≤ j → p j ≡ false) → filter p (range_with_len a m) ≡ []
filter_none p a zero none' = refl
filter_none p a (suc m) none' =
    ap (λ b. cond b (a ∷ filter p (range_with_len (a + 1) m)) (filter p (range_with_len (a + 1) m))) (none' a (omega arith))
    ∙ filter_none p (a + 1) m (λ j h. none' j (omega arith))

filter_alike : (p q : ℕ → Bool) (a m : ℕ) → ((j : ℕ) → a ≤ j → j < a + m → p j ≡ q j) → filter p (range_with_len a m) ≡ filter q (range_with_len a m)
filter_alike p q a zero same = refl
filter_alike p q a (suc m) same =
    ap₂ (λ b t. cond b (a ∷ t) t) (same a (omega arith) (omega arith)) (filter_alike p q (a + 1) m (λ j h k. same j (omega arith) (omega arith)))

-- the listed numbers of a range are the list
chosen : (places : List ℕ) (a n m : ℕ) → n ≡ a + m → IsTrue (rises a n places) → filter (is_in places) (range_with_len a m) ≡ places
chosen [] a n m whole up = filter_none (is_in []) a m (λ j h. refl)
chosen (q ∷ places) a n zero whole up =
    let first = and_parts (nat_le a q && nat_lt q n) (rises (q + 1) n places) up in
    let second = and_parts (nat_le a q) (nat_lt q n) first.0 in
    absurd (omega (arith, leb-true a q second.0, ltb-true q n second.1))
chosen (q ∷ places) a n (suc m) whole up =
    let first = and_parts (nat_le a q && nat_lt q n) (rises (q + 1) n places) up in
    let second = and_parts (nat_le a q) (nat_lt q n) first.0 in
    by_test (q == a)
    (λ here. let same : q ≡ a = eqb-true q a here in
    ap₂ (λ b t. cond b (a ∷ t) t) (ap (λ b. b || is_in places a) here)
    (filter_alike (is_in (q ∷ places)) (is_in places) (a + 1) m (λ j h k. ap (λ b. b || is_in places j) (ne_eqb q j (λ e. omega arith)))
    ∙ chosen places (a + 1) n m (omega arith) (subst (λ k. IsTrue (rises (k + 1) n places)) same first.1))
    ∙ ap (λ k. k ∷ places) (sym same))
    (λ other. let above : a < q = omega (arith, leb-true a q second.0, eqb-false q a other) in
    ap (λ b. cond b (a ∷ filter (is_in (q ∷ places)) (range_with_len (a + 1) m)) (filter (is_in (q ∷ places)) (range_with_len (a + 1) m)))
    (in_none (q ∷ places) (a + 1) n a (later a n q places above second.1 first.1) (omega arith))
    ∙ chosen (q ∷ places) (a + 1) n m (omega arith) (later a n q places above second.1 first.1))
  where
    later : (a n q : ℕ) (places : List ℕ) → a < q → nat_lt q n ≡ true → IsTrue (rises (q + 1) n places) → IsTrue (rises (a + 1) n (q ∷ places))
    later a n q places above below up' = ap₂ (λ s t. (s && t) && rises (q + 1) n places) (le-leb (a + 1) q (omega arith)) below ∙ up'

-- ---- the law

set_mark : (places : List ℕ) (p : ℕ) → is_set (mark places p) ≡ is_in places p
set_mark places p = at (is_in places p)
  where
    at : (b : Bool) → is_set (cond b (pos 1) (pos 0)) ≡ b
    at true = refl
    at false = refl

pub masks_choose : MasksChoose
masks_choose n places up =
    ap (λ (k : ℕ). filter (λ p. is_set (get_or (mask_of n places) p (pos 0))) (range_with_len 0 k)) (length-map-range_with_len (mark places) 0 n)
    ∙ filter_alike (λ p. is_set (get_or (mask_of n places) p (pos 0))) (is_in places) 0 n
    (λ j h k. ap is_set (get_or-map-range_with_len (mark places) 0 n j j (pos 0) (omega arith) (omega arith)) ∙ set_mark places j)
    ∙ chosen places 0 n n (omega arith) up

-- ---- a part of a mask

pub mask_len : (n : ℕ) (places : List ℕ) → length (mask_of n places) ≡ n
mask_len n places = length-map-range_with_len (mark places) 0 n

-- a list that has the part's numbers
part_is : (first n : ℕ) (places : List ℕ) (xs : List ℤ) → length xs ≡ n → ((k : ℕ) (d : ℤ) → k < n → get_or xs k d ≡ mark places (first + k)) → xs ≡ mask_part first n places
part_is first n places xs long at =
    same_lists xs (mask_part first n places) (long ∙ sym (length-map-range_with_len (mark places) first n))
    (λ k d below. at k d (omega arith) ∙ sym (get_or-map-range_with_len (mark places) first n k (first + k) d (omega arith) refl))

pub part_none : (first n : ℕ) → replicate n (pos 0) ≡ mask_part first n []
part_none first n = part_is first n [] (replicate n (pos 0)) (length-replicate n (pos 0)) (λ k d below. get_or-replicate n k (pos 0) d below)

in_more : (places : List ℕ) (q p : ℕ) → is_in (places ++ q ∷ []) p ≡ (is_in places p || ((q == p) || false))
in_more places q p = list_any-append (λ c. c == p) places (q ∷ [])

-- a place that is looked at, and one that isn't
mark_here : (places : List ℕ) (q p : ℕ) → q ≡ p → mark (places ++ q ∷ []) p ≡ pos 1
mark_here places q p same =
    ap (λ b. cond b (pos 1) (pos 0)) (in_more places q p ∙ ap (λ b. is_in places p || (b || false)) (same_eqb q p same) ∙ or-true (is_in places p))
  where
    same_eqb : (q p : ℕ) → q ≡ p → (q == p) ≡ true
    same_eqb q p e = by_test (q == p) (λ t. t) (λ f. absurd (eqb-false q p f e))

mark_other : (places : List ℕ) (q p : ℕ) → (q ≡ p → ⊥) → mark (places ++ q ∷ []) p ≡ mark places p
mark_other places q p other =
    ap (λ b. cond b (pos 1) (pos 0)) (in_more places q p ∙ ap (λ b. is_in places p || (b || false)) (ne_eqb q p other) ∙ or-false (is_in places p))

part_marked : (first n : ℕ) (places : List ℕ) (q : ℕ) → first ≤ q → q - first < n → slice_set (mask_part first n places) (q - first) (pos 1) ≡ mask_part first n (places ++ q ∷ [])
part_marked first n places q low within =
    let long : length (mask_part first n places) ≡ n = length-map-range_with_len (mark places) first n in
    part_is first n (places ++ q ∷ []) (slice_set (mask_part first n places) (q - first) (pos 1)) (length-set (mask_part first n places) (q - first) (pos 1) ∙ long)
    (λ k d below. by_test (q - first == k)
    (λ here. let same : q - first ≡ k = eqb-true (q - first) k here in
    ap (λ (j : ℕ). get_or (slice_set (mask_part first n places) (q - first) (pos 1)) j d) (sym same)
    ∙ get_or-set_same (mask_part first n places) (q - first) (pos 1) d (omega (arith, long))
    ∙ sym (mark_here places q (first + k) (omega arith)))
    (λ other. let apart : ¬ (q - first ≡ k) = eqb-false (q - first) k other in
    get_or-set_other (mask_part first n places) (q - first) k (pos 1) d (λ e. apart (sym e))
    ∙ get_or-map-range_with_len (mark places) first n k (first + k) d below refl
    ∙ sym (mark_other places q (first + k) (λ e. apart (moved q first k e)))))
  where
    moved : (q first k : ℕ) → q ≡ first + k → q - first ≡ k
    moved q first k e = omega arith

-- a place that lies outside marks nothing
part_unmarked : (first n : ℕ) (places : List ℕ) (q : ℕ) → ((k : ℕ) → k < n → q ≡ first + k → ⊥) → mask_part first n places ≡ mask_part first n (places ++ q ∷ [])
part_unmarked first n places q outside =
    part_is first n (places ++ q ∷ []) (mask_part first n places) (length-map-range_with_len (mark places) first n)
    (λ k d below. get_or-map-range_with_len (mark places) first n k (first + k) d below refl ∙ sym (mark_other places q (first + k) (outside k below)))

-- the part after a place was looked at
pub part_step : (first n : ℕ) (places : List ℕ) (q : ℕ) (old new : List ℤ) → old ≡ mask_part first n places
    → (q < first → new ≡ old) → (first ≤ q → q - first < length old → new ≡ slice_set old (q - first) (pos 1)) → (length old ≤ q - first → new ≡ old)
    → new ≡ mask_part first n (places ++ q ∷ [])
part_step first n places q old new is before inside past =
    let long : length old ≡ n = ap length is ∙ length-map-range_with_len (mark places) first n in
    by_lt q first
    (λ low. before low ∙ is ∙ part_unmarked first n places q (λ k h e. omega arith))
    (λ high. by_lt (q - first) n
    (λ below. inside high (omega arith) ∙ ap (λ m. slice_set m (q - first) (pos 1)) is ∙ part_marked first n places q high below)
    (λ beyond. past (omega arith) ∙ is ∙ part_unmarked first n places q (λ k h e. omega arith)))

-- ---- the places that lie in a part

-- what stands before a partition point, and from it on
pub taken_below : (places : List ℕ) (i at : ℕ) → i ≤ length places → ((k d : ℕ) → k < i → get_or places k d < at) → All (λ q. q < at) (take i places)
taken_below places i at within below k d h =
    let short : k < i = omega (arith, length-take-le i places within) in
    subst (λ q. q < at) (sym (get_or-take i places k d short)) (below k d short)

pub dropped_past : (places : List ℕ) (i at : ℕ) → ((k d : ℕ) → i ≤ k → k < length places → at ≤ get_or places k d) → All (λ q. at ≤ q) (drop i places)
dropped_past places i at past k d h =
    subst (λ q. at ≤ q) (sym (get_or-drop i places k d)) (past (i + k) d (omega arith) (omega (arith, length-drop i places)))

in_none_of : (places : List ℕ) (p : ℕ) → All (λ q. ¬ (q ≡ p)) places → is_in places p ≡ false
in_none_of places p apart = list_any_none (λ c. c == p) places (All-weaker (λ q. ¬ (q ≡ p)) (λ q. (q == p) ≡ false) (λ q. ne_eqb q p) places apart)

in_parts : (places : List ℕ) (i p : ℕ) → is_in places p ≡ (is_in (take i places) p || is_in (drop i places) p)
in_parts places i p =
    ap (λ ps. is_in ps p) (sym (take-append-drop i places)) ∙ list_any-append (λ c. c == p) (take i places) (drop i places)

-- what lies from a position on is behind the places below it, and what lies below one before the others
pub in_later : (places : List ℕ) (i first p : ℕ) → All (λ q. q < first) (take i places) → first ≤ p → is_in (drop i places) p ≡ is_in places p
in_later places i first p below high =
    sym (in_parts places i p ∙ ap (λ b. b || is_in (drop i places) p)
    (in_none_of (take i places) p (All-weaker (λ q. q < first) (λ q. ¬ (q ≡ p)) (λ q h e. omega arith) (take i places) below)))

pub in_earlier : (places : List ℕ) (i end p : ℕ) → All (λ q. end ≤ q) (drop i places) → p < end → is_in (take i places) p ≡ is_in places p
in_earlier places i end p past low =
    sym (in_parts places i p ∙ ap (λ b. is_in (take i places) p || b)
    (in_none_of (drop i places) p (All-weaker (λ q. end ≤ q) (λ q. ¬ (q ≡ p)) (λ q h e. omega arith) (drop i places) past))
    ∙ or-false (is_in (take i places) p))

-- lists that have the same places of a part
pub parts_agree : (first n : ℕ) (places others : List ℕ) → ((p : ℕ) → first ≤ p → p < first + n → is_in places p ≡ is_in others p)
    → mask_part first n places ≡ mask_part first n others
parts_agree first zero places others same = refl
parts_agree first (suc n) places others same =
    ap₂ (λ b t. cond b (pos 1) (pos 0) ∷ t) (same first (omega arith) (omega arith))
    (parts_agree (first + 1) n places others (λ p h k. same p (omega arith) (omega arith)))

-- ---- some of a mask

dropped : (f : ℕ → ℤ) (a b n : ℕ) → drop a (map f (range_with_len b n)) ≡ map f (range_with_len (b + a) (n - a))
dropped f zero b n = ap₂ (λ (x y : ℕ). map f (range_with_len x y)) (from_zero b) (less_zero n)
  where
    from_zero : (b : ℕ) → b ≡ b + 0
    from_zero b = omega arith

    less_zero : (n : ℕ) → n ≡ n - 0
    less_zero n = omega arith
dropped f (suc a) b zero = ap (λ (y : ℕ). map f (range_with_len (b + suc a) y)) (none_left a)
  where
    none_left : (a : ℕ) → 0 ≡ 0 - suc a
    none_left a = omega arith
dropped f (suc a) b (suc n) =
    dropped f a (b + 1) n ∙ ap₂ (λ (x y : ℕ). map f (range_with_len x y)) (moved b a) (less n a)
  where
    moved : (b a : ℕ) → b + 1 + a ≡ b + suc a
    moved b a = omega arith

    less : (n a : ℕ) → n - a ≡ suc n - suc a
    less n a = omega arith

pub part_of_mask : (n first count : ℕ) (places : List ℕ) → first + count ≤ n → mask_part first count places ≡ take count (drop first (mask_of n places))
part_of_mask n first count places within =
    sym (ap (take count) (dropped (mark places) first 0 n)
    ∙ take-map-range_with_len (mark places) (0 + first) (n - first) count (omega arith)
    ∙ ap (λ (k : ℕ). mask_part k count places) (zero_left first))
  where
    zero_left : (n : ℕ) → 0 + n ≡ n
    zero_left n = omega arith

-- no number of a mask is the least longlong
pub no_least : (n : ℕ) (places : List ℕ) → All (λ m. is_least m ≡ false) (mask_of n places)
no_least n places =
    All-map (λ m. is_least m ≡ false) (mark places) (range_with_len 0 n) (λ k d h. at (is_in places (get_or (range_with_len 0 n) k d)))
  where
    at : (b : Bool) → is_least (cond b (pos 1) (pos 0)) ≡ false
    at true = refl
    at false = refl

-- ---- places that rise

lowest : (a n : ℕ) (places : List ℕ) (k : ℕ) (d : ℕ) → IsTrue (rises a n places) → k < length places → a ≤ get_or places k d
lowest a n [] k d up within = absurd (omega arith)
lowest a n (q ∷ places) zero d up within =
    let first = and_parts (nat_le a q && nat_lt q n) (rises (q + 1) n places) up in
    leb-true a q (and_parts (nat_le a q) (nat_lt q n) first.0).0
lowest a n (q ∷ places) (suc k) d up within =
    let first = and_parts (nat_le a q && nat_lt q n) (rises (q + 1) n places) up in
    let low : a ≤ q = leb-true a q (and_parts (nat_le a q) (nat_lt q n) first.0).0 in
    let high : q + 1 ≤ get_or places k d = lowest (q + 1) n places k d first.1 (omega arith) in
    omega arith

pub non_decreasing : (a n : ℕ) (places : List ℕ) → IsTrue (rises a n places) → IsNonDecreasing places
non_decreasing a n [] up i j d order within = absurd (omega arith)
non_decreasing a n (q ∷ places) up zero zero d order within = omega arith
non_decreasing a n (q ∷ places) up zero (suc j) d order within =
    let first = and_parts (nat_le a q && nat_lt q n) (rises (q + 1) n places) up in
    let high : q + 1 ≤ get_or places j d = lowest (q + 1) n places j d first.1 (omega arith) in
    omega arith
non_decreasing a n (q ∷ places) up (suc i) zero d order within = absurd (omega arith)
non_decreasing a n (q ∷ places) up (suc i) (suc j) d order within =
    let first = and_parts (nat_le a q && nat_lt q n) (rises (q + 1) n places) up in
    non_decreasing (q + 1) n places first.1 i j d (omega arith) (omega arith)
