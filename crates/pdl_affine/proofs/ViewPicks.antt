-- The course of each dimension of the parent, for the views that pick whole dimensions.
use Rattle.std.proofs.Common.{◌≡◌, ℕ, zero, suc, ◌+◌, ◌-◌, ◌<◌, ◌≤◌, max, inl, inr, Bool, true, false, not, ◌&&◌, ◌||◌, List, [], ◌∷◌, ◌++◌, filter, length, take, drop, get_or, replicate, insert, remove, swap, position, unwrap_or, Some, None, pos, ◌+ℤ◌, ◌*ℤ◌, nat_lt, nat_le, ◌==◌, if◌then◌else◌, refl, sym, ap, ◌∙◌, subst, arith, IsTrue, eq-eqb, length-append, get_or-take, zero-add, add-one, suc-le-suc}
use Rattle.std.specs.List.{range_with_len, list_all, position_or_len, All}
use Rattle.std.proofs.lemmas.Bool.{cases_eq, cases_lt, or_right}
use Rattle.std.proofs.lemmas.Bool.Decides.{nat_tests}
use Rattle.std.proofs.lemmas.Int.{ints}
use Rattle.std.proofs.lemmas.List.{length-map, get_or-map, length-replicate, get_or_append_left, get_or_at, get_or-drop}
use Rattle.std.proofs.lemmas.List.FromFn.{get_or-map-range_with_len, get_or-range_with_len, length-range_with_len}
use Rattle.std.proofs.lemmas.List.Edits.{swapped_from_swap, length-swap, length-insert, length-remove, get_or-insert_below, get_or-insert_at, get_or-insert_above, get_or-remove_below, get_or-remove_above}
use Rattle.std.proofs.lemmas.List.Folds.{Any-from_list_any, list_any_at}
use Rattle.std.proofs.lemmas.List.Sums.{prefix_len_passes, prefix_len_stops, prefix_len-le-length, AllPass-from_list_all}
use Rattle.pdl_shape.specs.Laws.{PositionLaws}
use Rattle.pdl_shape.specs.Shape.{IsWithin}
use Rattle.pdl_affine.specs.Views.{Form, exchanged, shifted, arranged, inserted, diagonal, squeezed, lists, lowest_of, kept_dims, is_arrangement, are_same_size, unsqueezed, sizes, form_source}
use Rattle.pdl_affine.specs.Courses.{filled, IsCourse, full_course, still, exchanged_to, past, before, shifted_to, diagonal_to, squeezed_to}
use Rattle.pdl_affine.proofs.ViewSizes.{kept_next}
use Rattle.pdl_affine.proofs.CourseSources.{at_within}

-- a dimension whose coordinate is that of one dimension of the view, of the same size
pub picked : PositionLaws → (form : Form) (ds : List ℕ) (i a : ℕ) → a < length (sizes form ds) → get_or (sizes form ds) a 0 ≡ get_or ds i 0
    → ((cs : List ℕ) → length cs ≡ length (sizes form ds) → get_or (form_source form ds cs) i 0 ≡ get_or cs a 0) → IsCourse form ds i (full_course a)
picked laws form ds i a inside size_is source_is = record {
  line = λ cs w. ap pos (source_is cs (long cs w)) ∙ once (get_or cs a 0);
  small = λ cs w. subst (λ n. n < max (get_or ds i 0) 1) (sym (source_is cs (long cs w))) (subst (λ m. get_or cs a 0 < max m 1) size_is (below cs w));
  empty = λ cs w. omega (arith, at_within (sizes form ds) cs a w inside, size_is);
} where
  long : (cs : List ℕ) → IsWithin (filled (sizes form ds)) cs → length cs ≡ length (sizes form ds)
  long cs w = laws.as_many (filled (sizes form ds)) cs w ∙ length-map (sizes form ds) (λ d. max d 1)

  once : (c : ℕ) → pos c ≡ pos 0 +ℤ (pos 1 *ℤ pos c)
  once c = omega (arith, ints)

  below : (cs : List ℕ) → IsWithin (filled (sizes form ds)) cs → get_or cs a 0 < max (get_or (sizes form ds) a 0) 1
  below cs w = subst (λ m. get_or cs a 0 < m) (get_or-map (λ d. max d 1) (sizes form ds) a 0 0 inside) (at_within (filled (sizes form ds)) cs a w (omega (arith, inside, length-map (sizes form ds) (λ d. max d 1))))

-- a dimension whose coordinate is always the same
pub fixed : PositionLaws → (form : Form) (ds : List ℕ) (i f : ℕ) → f < get_or ds i 0 → ((cs : List ℕ) → length cs ≡ length (sizes form ds) → get_or (form_source form ds cs) i 0 ≡ f) → IsCourse form ds i (still f)
fixed laws form ds i f inside source_is = record {
  line = λ cs w. ap pos (source_is cs (long cs w)) ∙ never (get_or cs 0 0);
  small = λ cs w. subst (λ n. n < max (get_or ds i 0) 1) (sym (source_is cs (long cs w))) (omega (arith, inside));
  empty = λ cs w. omega (arith, inside);
} where
  long : (cs : List ℕ) → IsWithin (filled (sizes form ds)) cs → length cs ≡ length (sizes form ds)
  long cs w = laws.as_many (filled (sizes form ds)) cs w ∙ length-map (sizes form ds) (λ d. max d 1)

  never : (c : ℕ) → pos f ≡ pos f +ℤ (pos 0 *ℤ pos c)
  never c = omega (arith, ints)

-- exchanged dimensions
exchange : (f g : ℕ → ℕ) (a b i : ℕ) → g a ≡ f b → g b ≡ f a → ((m : ℕ) → (m ≡ a → ⊥) → (m ≡ b → ⊥) → g m ≡ f m) → g i ≡ f (exchanged_to a b i)
exchange f g a b i p q r =
    elim (cases_eq i a) [
      | inl e ↦ ap g e ∙ p ∙ ap f (sym (yes i a b (if i == b then a else i) e))
      | inr h ↦ ap (λ n. n) (elim (cases_eq i b) [
        | inl e ↦ ap g e ∙ q ∙ ap f (sym (no i a b (if i == b then a else i) h ∙ yes i b a i e))
        | inr k ↦ r i h k ∙ ap f (sym (no i a b (if i == b then a else i) h ∙ no i b a i k))
      ])
    ] where
      yes : (i a x y : ℕ) → i ≡ a → (if i == a then x else y) ≡ x
      yes i a x y e = grind (arith, nat_tests)

      no : (i a x y : ℕ) → (i ≡ a → ⊥) → (if i == a then x else y) ≡ y
      no i a x y e = grind (arith, nat_tests)

exchange_at : (xs : List ℕ) (a b i : ℕ) → a < length xs → b < length xs → get_or (swap xs a b) i 0 ≡ get_or xs (exchanged_to a b i) 0
exchange_at xs a b i h k =
    let s = swapped_from_swap xs (swap xs a b) a b 0 h k refl in
    exchange (λ m. get_or xs m 0) (λ m. get_or (swap xs a b) m 0) a b i s.0 s.1 s.2

exchange_twice : (a b i : ℕ) → exchanged_to a b (exchanged_to a b i) ≡ i
exchange_twice a b i = grind (arith, nat_tests)

exchange_inside : (a b i n : ℕ) → a < n → b < n → i < n → exchanged_to a b i < n
exchange_inside a b i n h k l = grind (arith, nat_tests)

pub exchanged_course : PositionLaws → (ds : List ℕ) (a b i : ℕ) → a < length ds → b < length ds → i < length ds → IsCourse (exchanged a b) ds i (full_course (exchanged_to a b i))
exchanged_course laws ds a b i h k l =
    let long : length (swap ds a b) ≡ length ds = length-swap ds a b in
    picked laws (exchanged a b) ds i (exchanged_to a b i)
    (omega (arith, long, exchange_inside a b i (length ds) h k l))
    (exchange_at ds a b (exchanged_to a b i) h k ∙ ap (λ j. get_or ds j 0) (exchange_twice a b i))
    (λ cs e. exchange_at cs a b i (omega (arith, e, long, h)) (omega (arith, e, long, k)))

-- dimensions past one that is put in or taken out
insert_past : (xs : List ℕ) (p i y : ℕ) → p ≤ length xs → get_or (insert xs p y) (past p i) 0 ≡ get_or xs i 0
insert_past xs p i y h = elim (cases_lt i p) [
  | inl e ↦ ap (λ j. get_or (insert xs p y) j 0) (low e) ∙ get_or-insert_below xs p y 0 i e h
  | inr k ↦ ap (λ j. get_or (insert xs p y) j 0) (high k) ∙ get_or-insert_above xs p y 0 i k h
] where
  low : i < p → past p i ≡ i
  low e = grind (arith, nat_tests)

  high : p ≤ i → past p i ≡ i + 1
  high k = grind (arith, nat_tests)

remove_past : (xs : List ℕ) (p i : ℕ) → p < length xs → get_or (remove xs p) i 0 ≡ get_or xs (past p i) 0
remove_past xs p i h = elim (cases_lt i p) [
  | inl e ↦ get_or-remove_below xs p 0 i e h ∙ ap (λ j. get_or xs j 0) (sym (low e))
  | inr k ↦ get_or-remove_above xs p 0 i k h ∙ ap (λ j. get_or xs j 0) (sym (high k))
] where
  low : i < p → past p i ≡ i
  low e = grind (arith, nat_tests)

  high : p ≤ i → past p i ≡ i + 1
  high k = grind (arith, nat_tests)

past-before : (a i : ℕ) → (i ≡ a → ⊥) → past a (before a i) ≡ i
past-before a i h = grind (arith, nat_tests)

past_inside : (p i n : ℕ) → i < n → past p i < n + 1
past_inside p i n h = grind (arith, nat_tests)

before_inside : (a i n : ℕ) → (i ≡ a → ⊥) → a < n → i < n → before a i < n - 1
before_inside a i n o h k = grind (arith, nat_tests)

shifted_here : (a b i : ℕ) → i ≡ a → shifted_to a b i ≡ b
shifted_here a b i e = grind (arith, nat_tests)

shifted_there : (a b i : ℕ) → (i ≡ a → ⊥) → shifted_to a b i ≡ past b (before a i)
shifted_there a b i e = grind (arith, nat_tests)

pub shifted_course : PositionLaws → (ds : List ℕ) (a b i : ℕ) → a < length ds → b < length ds → i < length ds → IsCourse (shifted a b) ds i (full_course (shifted_to a b i))
shifted_course laws ds a b i h k l =
    let x : ℕ = get_or ds a 0 in
    let less : length (remove ds a) + 1 ≡ length ds = length-remove ds a h in
    let fits : b ≤ length (remove ds a) = omega (arith, less, k) in
    let long : length (insert (remove ds a) b x) ≡ length ds = length-insert (remove ds a) b x fits ∙ less in
    elim (cases_eq i a) [
      | inl e ↦ subst (λ j. IsCourse (shifted a b) ds i (full_course j)) (sym (shifted_here a b i e))
          (picked laws (shifted a b) ds i b (omega (arith, long, k)) (get_or-insert_at (remove ds a) b x 0 fits ∙ ap (λ j. get_or ds j 0) (sym e))
          (λ cs n.
          let shorter : length (remove cs b) + 1 ≡ length cs = length-remove cs b (omega (arith, n, long, k)) in
          ap (λ j. get_or (insert (remove cs b) a (get_or cs b 0)) j 0) e ∙ get_or-insert_at (remove cs b) a (get_or cs b 0) 0 (omega (arith, n, long, h, shorter))))
      | inr o ↦ subst (λ j. IsCourse (shifted a b) ds i (full_course j)) (sym (shifted_there a b i o))
          (picked laws (shifted a b) ds i (past b (before a i))
          (omega (arith, long, less, past_inside b (before a i) (length ds - 1) (before_inside a i (length ds) o h l)))
          (insert_past (remove ds a) b (before a i) x fits ∙ remove_past ds a (before a i) h ∙ ap (λ j. get_or ds j 0) (past-before a i o))
          (λ cs n.
          let shorter : length (remove cs b) + 1 ≡ length cs = length-remove cs b (omega (arith, n, long, k)) in
          ap (λ j. get_or (insert (remove cs b) a (get_or cs b 0)) j 0) (sym (past-before a i o))
          ∙ insert_past (remove cs b) a (before a i) (get_or cs b 0) (omega (arith, n, long, h, shorter))
          ∙ remove_past cs b (before a i) (omega (arith, n, long, k))))
    ]

pub inserted_course : PositionLaws → (ds : List ℕ) (p m i : ℕ) → i < length ds → IsCourse (inserted p m) ds i (full_course (past p i))
inserted_course laws ds p m i l =
    let xs : List ℕ = ds ++ replicate (p - length ds) 1 in
    let count : length xs ≡ length ds + (p - length ds) = length-append ds (replicate (p - length ds) 1) ∙ ap (λ n. length ds + n) (length-replicate (p - length ds) 1) in
    let fits : p ≤ length xs = omega (arith, count) in
    let long : length (insert xs p m) ≡ length xs + 1 = length-insert xs p m fits in
    picked laws (inserted p m) ds i (past p i)
    (omega (arith, long, past_inside p i (length xs) (omega (arith, l, count))))
    (insert_past xs p i m fits ∙ get_or_append_left ds (replicate (p - length ds) 1) 0 i l)
    (λ cs n. get_or-take (length ds) (remove cs p) i 0 l ∙ remove_past cs p i (omega (arith, n, long, fits)))

-- arranged dimensions: each stands somewhere in the order
listed_place : (is : List ℕ) (i : ℕ) → lists is i ≡ true → (position_or_len (λ j. j == i) is < length is) × (get_or is (position_or_len (λ j. j == i) is) 0 ≡ i)
listed_place is i h =
    let any = Any-from_list_any (λ j. j == i) is h in
    let most : position_or_len (λ j. j == i) is ≤ length is = prefix_len-le-length (λ x. not (x == i)) is in
    let below : position_or_len (λ j. j == i) is < length is = elim (cases_lt (position_or_len (λ j. j == i) is) (length is)) [
      | inl e ↦ e
      | inr k ↦ absurd (never (any.1 == i) (ap (λ x. not (x == i)) (sym any.3) ∙ prefix_len_passes (λ x. not (x == i)) is any.0 any.1 (omega (arith, k, any.2))) any.4)
    ] in
    (below, found (get_or is (position_or_len (λ j. j == i) is) 0) i (prefix_len_stops (λ x. not (x == i)) is 0 below)) where
      never : (b : Bool) → not b ≡ true → b ≡ true → ⊥
      never b p q = grind arith

      found : (x i : ℕ) → not (x == i) ≡ false → x ≡ i
      found x i h = grind (arith, nat_tests)

place_is : (is : List ℕ) (i : ℕ) → position_or_len (λ j. j == i) is < length is → unwrap_or (position (λ j. j == i) is) 0 ≡ position_or_len (λ j. j == i) is
place_is is i h = chosen (position_or_len (λ j. j == i) is) (length is) h where
  chosen : (p n : ℕ) → p < n → unwrap_or (if nat_lt p n then Some p else None) 0 ≡ p
  chosen p n h = grind (arith, nat_tests)

all_listed : (is : List ℕ) (n i : ℕ) → IsTrue (is_arrangement is n) → i < n → (length is ≡ n) × (lists is i ≡ true)
all_listed is n i h l =
    let parts = both (length is) n (list_all (λ j. lists is j) (range_with_len 0 n)) h in
    let at : lists is (get_or (range_with_len 0 n) i 0) ≡ true = AllPass-from_list_all (λ j. lists is j) (range_with_len 0 n) parts.1 i 0 (omega (arith, l, length-range_with_len 0 n)) in
    (parts.0, ap (λ j. lists is j) (sym (get_or-range_with_len 0 n i 0 l ∙ zero-add i)) ∙ at) where
      both : (m n : ℕ) (b : Bool) → IsTrue ((m == n) && b) → (m ≡ n) × (b ≡ true)
      both m n b h = grind (arith, nat_tests)

pub arranged_course : PositionLaws → (ds order : List ℕ) (i : ℕ) → IsTrue (is_arrangement order (length ds)) → i < length ds → IsCourse (arranged order) ds i (full_course (unwrap_or (position (λ j. j == i) order) 0))
arranged_course laws ds order i h l =
    let all = all_listed order (length ds) i h l in
    let place = listed_place order i all.1 in
    let a : ℕ = position_or_len (λ j. j == i) order in
    subst (λ j. IsCourse (arranged order) ds i (full_course j)) (sym (place_is order i place.0))
    (picked laws (arranged order) ds i a (omega (arith, place.0, length-map order (λ j. get_or ds j 0)))
    (get_or-map (λ j. get_or ds j 0) order a 0 0 place.0 ∙ ap (λ j. get_or ds j 0) place.1)
    (λ cs n.
    get_or-map-range_with_len (λ k. get_or cs (unwrap_or (position (λ j. j == k) order) 0) 0) 0 (length ds) i i 0 l (zero-add i)
    ∙ ap (λ j. get_or cs j 0) (place_is order i place.0)))

-- the dimension that a diagonal keeps for each
kept_here : (is : List ℕ) (n : ℕ) → (not (lists is n) || (n == lowest_of is)) ≡ true → kept_dims is (n + 1) ≡ kept_dims is n ++ n ∷ []
kept_here is n h = kept_next is n ∙ ap (λ b. kept_dims is n ++ (if b then n ∷ [] else [])) h

kept_or_not : (is : List ℕ) (n : ℕ) → (k : ℕ) × (kept_dims is (n + 1) ≡ kept_dims is n ++ replicate k n)
kept_or_not is n = more (not (lists is n) || (n == lowest_of is)) (kept_next is n) where
  more : (b : Bool) → kept_dims is (n + 1) ≡ kept_dims is n ++ (if b then n ∷ [] else []) → (k : ℕ) × (kept_dims is (n + 1) ≡ kept_dims is n ++ replicate k n)
  more true e = (1, e)
  more false e = (0, e)

pub kept_at : (is : List ℕ) (n k : ℕ) → k < n → (not (lists is k) || (k == lowest_of is)) ≡ true
    → (length (kept_dims is k) < length (kept_dims is n)) × (get_or (kept_dims is n) (length (kept_dims is k)) 0 ≡ k)
kept_at is zero k h t = absurd (omega arith)
kept_at is (suc n) k h t = subst (λ m. (length (kept_dims is k) < length (kept_dims is m)) × (get_or (kept_dims is m) (length (kept_dims is k)) 0 ≡ k)) (add-one n)
    (elim (cases_eq k n) [ inl e ↦ subst (λ j. (length (kept_dims is j) < length (kept_dims is (n + 1))) × (get_or (kept_dims is (n + 1)) (length (kept_dims is j)) 0 ≡ j)) (sym e) (last (subst (λ j. (not (lists is j) || (j == lowest_of is)) ≡ true) e t)) | inr o ↦ front o (λ below. kept_at is n k below t) ]) where
      last : (not (lists is n) || (n == lowest_of is)) ≡ true → (length (kept_dims is n) < length (kept_dims is (n + 1))) × (get_or (kept_dims is (n + 1)) (length (kept_dims is n)) 0 ≡ n)
      last u = rw (kept_here is n u) (omega (arith, length-append (kept_dims is n) (n ∷ [])), get_or_at (kept_dims is n) n [] 0 (length (kept_dims is n)) refl)

      front : (k ≡ n → ⊥) → (k < n → (length (kept_dims is k) < length (kept_dims is n)) × (get_or (kept_dims is n) (length (kept_dims is k)) 0 ≡ k))
          → (length (kept_dims is k) < length (kept_dims is (n + 1))) × (get_or (kept_dims is (n + 1)) (length (kept_dims is k)) 0 ≡ k)
      front o earlier =
          let rest = earlier (omega (arith, o, h)) in
          let more = kept_or_not is n in
          rw more.1 (omega (arith, length-append (kept_dims is n) (replicate more.0 n), rest.0), get_or_append_left (kept_dims is n) (replicate more.0 n) 0 (length (kept_dims is k)) rest.0 ∙ rest.1)

-- the listed sizes are one
listed-here : (i : ℕ) (is : List ℕ) → lists (i ∷ is) i ≡ true
listed-here i is = list_any_at (λ j. j == i) (i ∷ is) 0 0 (omega arith) (eq-eqb i i refl)

lowest_listed : (i : ℕ) (is : List ℕ) → lists (i ∷ is) (lowest_of (i ∷ is)) ≡ true
lowest_listed i [] = listed-here i []
lowest_listed i (j ∷ is) = lower (lowest_listed j is) (nat_le i (lowest_of (j ∷ is))) where
  lower : lists (j ∷ is) (lowest_of (j ∷ is)) ≡ true → (b : Bool) → lists (i ∷ j ∷ is) (if b then i else lowest_of (j ∷ is)) ≡ true
  lower h true = listed-here i (j ∷ is)
  lower h false = or_right (i == lowest_of (j ∷ is)) (lists (j ∷ is) (lowest_of (j ∷ is))) h

sizes_listed : (size : ℕ) (is ds : List ℕ) (i : ℕ) → list_all (λ j. get_or ds j 0 == size) is ≡ true → lists is i ≡ true → get_or ds i 0 ≡ size
sizes_listed size is ds i all h =
    let any = Any-from_list_any (λ j. j == i) is h in
    let at : (get_or ds (get_or is any.0 any.1) 0 == size) ≡ true = AllPass-from_list_all (λ j. get_or ds j 0 == size) is all any.0 any.1 any.2 in
    same (get_or ds i 0) size (ap (λ j. get_or ds j 0 == size) (sym (ap (λ j. j) any.3 ∙ equal any.1 i any.4)) ∙ at) where
      equal : (x i : ℕ) → (x == i) ≡ true → x ≡ i
      equal x i h = grind (arith, nat_tests)

      same : (x i : ℕ) → (x == i) ≡ true → x ≡ i
      same x i h = grind (arith, nat_tests)

one_size : (is ds : List ℕ) (i j : ℕ) → are_same_size is ds ≡ true → lists is i ≡ true → lists is j ≡ true → get_or ds i 0 ≡ get_or ds j 0
one_size [] ds i j h k l = absurd (cc)
one_size (a ∷ is) ds i j h k l = first i k ∙ sym (first j l) where
  first : (m : ℕ) → lists (a ∷ is) m ≡ true → get_or ds m 0 ≡ get_or ds a 0
  first m t = sizes_listed (get_or ds a 0) (a ∷ is) ds m (both (get_or ds a 0) (list_all (λ x. get_or ds x 0 == get_or ds a 0) is) h) t where
    both : (x : ℕ) (b : Bool) → b ≡ true → ((x == x) && b) ≡ true
    both x b p = grind (arith, nat_tests)

lowest_there : (is : List ℕ) (i : ℕ) → lists is i ≡ true → lists is (lowest_of is) ≡ true
lowest_there [] i h = absurd (cc)
lowest_there (j ∷ is) i h = lowest_listed j is

listed_below : (is : List ℕ) (i n : ℕ) → All (λ k. k < n) is → lists is i ≡ true → i < n
listed_below is i n all h =
    let any = Any-from_list_any (λ j. j == i) is h in
    subst (λ k. k < n) (any.3 ∙ equal any.1 i any.4) (all any.0 any.1 any.2) where
      equal : (x i : ℕ) → (x == i) ≡ true → x ≡ i
      equal x i h = grind (arith, nat_tests)

pub diagonal_course : PositionLaws → (ds is : List ℕ) (i : ℕ) → All (λ k. k < length ds) is → are_same_size is ds ≡ true → i < length ds → IsCourse (diagonal is) ds i (full_course (diagonal_to is i))
diagonal_course laws ds is i all same l = choose (lists is i) refl where
  course : (k : ℕ) → (if lists is i then lowest_of is else i) ≡ k → k < length ds → (not (lists is k) || (k == lowest_of is)) ≡ true → get_or ds k 0 ≡ get_or ds i 0 → IsCourse (diagonal is) ds i (full_course (diagonal_to is i))
  course k e below kept size =
      let at = kept_at is (length ds) k below kept in
      subst (λ a. IsCourse (diagonal is) ds i (full_course a)) (ap (λ j. length (kept_dims is j)) (sym e))
      (picked laws (diagonal is) ds i (length (kept_dims is k)) (omega (arith, at.0, length-map (kept_dims is (length ds)) (λ j. get_or ds j 0)))
      (get_or-map (λ j. get_or ds j 0) (kept_dims is (length ds)) (length (kept_dims is k)) 0 0 at.0 ∙ ap (λ j. get_or ds j 0) at.1 ∙ size)
      (λ cs n.
      get_or-map-range_with_len (λ j. get_or cs (length (kept_dims is (if lists is j then lowest_of is else j))) 0) 0 (length ds) i i 0 l (zero-add i)
      ∙ ap (λ j. get_or cs (length (kept_dims is j)) 0) e))

  choose : (b : Bool) → lists is i ≡ b → IsCourse (diagonal is) ds i (full_course (diagonal_to is i))
  choose true h =
      let low = lowest_there is i h in
      course (lowest_of is) (ap (λ b. if b then lowest_of is else i) h) (listed_below is (lowest_of is) (length ds) all low)
      (right (not (lists is (lowest_of is))) (lowest_of is)) (one_size is ds (lowest_of is) i same low h) where
        right : (b : Bool) (x : ℕ) → (b || (x == x)) ≡ true
        right b x = grind (arith, nat_tests)
  choose false h = course i (ap (λ b. if b then lowest_of is else i) h) l (left (i == lowest_of is) h) refl where
    left : (b : Bool) → lists is i ≡ false → (not (lists is i) || b) ≡ true
    left b p = ap (λ a. not a || b) p

-- dimensions of size 1 are left out
squeezed-one : (ds cs : List ℕ) (i : ℕ) → get_or ds i 0 ≡ 1 → get_or (unsqueezed ds cs) i 0 ≡ 0
squeezed-one [] cs i h = absurd (omega (arith, h))
squeezed-one (d ∷ ds) cs zero h = ap (λ b. get_or (if b then 0 ∷ unsqueezed ds cs else get_or cs 0 0 ∷ unsqueezed ds (drop 1 cs)) 0 0) (eq-eqb d 1 h)
squeezed-one (d ∷ ds) cs (suc i) h = rest (λ es. squeezed-one ds es i h) (d == 1) where
  rest : ((es : List ℕ) → get_or (unsqueezed ds es) i 0 ≡ 0) → (b : Bool) → get_or (if b then 0 ∷ unsqueezed ds cs else get_or cs 0 0 ∷ unsqueezed ds (drop 1 cs)) (suc i) 0 ≡ 0
  rest later true = later cs
  rest later false = later (drop 1 cs)

pub not_one : (d : ℕ) → (d ≡ 1 → ⊥) → (d == 1) ≡ false
not_one d h = grind (arith, nat_tests)

squeezed-other : (ds cs : List ℕ) (i : ℕ) → i < length ds → (get_or ds i 0 ≡ 1 → ⊥) → get_or (unsqueezed ds cs) i 0 ≡ get_or cs (squeezed_to ds i) 0
squeezed-other [] cs i h o = absurd (omega arith)
squeezed-other (d ∷ ds) cs zero h o = ap (λ b. get_or (if b then 0 ∷ unsqueezed ds cs else get_or cs 0 0 ∷ unsqueezed ds (drop 1 cs)) 0 0) (not_one d o)
squeezed-other (d ∷ ds) cs (suc i) h o = rest (λ es. squeezed-other ds es i (omega arith) o) (d == 1) where
  rest : ((es : List ℕ) → get_or (unsqueezed ds es) i 0 ≡ get_or es (squeezed_to ds i) 0) → (b : Bool) → get_or (if b then 0 ∷ unsqueezed ds cs else get_or cs 0 0 ∷ unsqueezed ds (drop 1 cs)) (suc i) 0 ≡ get_or cs (length (if not b then d ∷ filter (λ d. not (d == 1)) (take i ds) else filter (λ d. not (d == 1)) (take i ds))) 0
  rest later true = later cs
  rest later false = later (drop 1 cs) ∙ get_or-drop 1 cs (squeezed_to ds i) 0 ∙ ap (λ k. get_or cs k 0) (let e : 1 + squeezed_to ds i ≡ suc (squeezed_to ds i) = omega arith in e)

squeezed-size : (ds : List ℕ) (i : ℕ) → i < length ds → (get_or ds i 0 ≡ 1 → ⊥)
    → (squeezed_to ds i < length (filter (λ d. not (d == 1)) ds)) × (get_or (filter (λ d. not (d == 1)) ds) (squeezed_to ds i) 0 ≡ get_or ds i 0)
squeezed-size [] i h o = absurd (omega arith)
squeezed-size (d ∷ ds) zero h o = subst (λ b. (0 < length (if not b then d ∷ filter (λ d. not (d == 1)) ds else filter (λ d. not (d == 1)) ds)) × (get_or (if not b then d ∷ filter (λ d. not (d == 1)) ds else filter (λ d. not (d == 1)) ds) 0 0 ≡ d)) (sym (not_one d o)) (omega arith, refl)
squeezed-size (d ∷ ds) (suc i) h o = rest (squeezed-size ds i (omega arith) o) (d == 1) where
  rest : (squeezed_to ds i < length (filter (λ d. not (d == 1)) ds)) × (get_or (filter (λ d. not (d == 1)) ds) (squeezed_to ds i) 0 ≡ get_or ds i 0) → (b : Bool) → ((length (if not b then d ∷ filter (λ d. not (d == 1)) (take i ds) else filter (λ d. not (d == 1)) (take i ds))) < length (if not b then d ∷ filter (λ d. not (d == 1)) ds else filter (λ d. not (d == 1)) ds))
      × (get_or (if not b then d ∷ filter (λ d. not (d == 1)) ds else filter (λ d. not (d == 1)) ds) (length (if not b then d ∷ filter (λ d. not (d == 1)) (take i ds) else filter (λ d. not (d == 1)) (take i ds))) 0 ≡ get_or ds i 0)
  rest r true = r
  rest r false = (suc-le-suc r.0, r.1)

pub squeezed_course : PositionLaws → (ds : List ℕ) (i : ℕ) → i < length ds → IsCourse squeezed ds i (if get_or ds i 0 == 1 then still 0 else full_course (squeezed_to ds i))
squeezed_course laws ds i l = elim (cases_eq (get_or ds i 0) 1) [
  | inl e ↦ subst (λ b. IsCourse squeezed ds i (if b then still 0 else full_course (squeezed_to ds i))) (sym (eq-eqb (get_or ds i 0) 1 e))
      (fixed laws squeezed ds i 0 (omega (arith, e)) (λ cs n. squeezed-one ds cs i e))
  | inr o ↦ let s = squeezed-size ds i l o in subst (λ b. IsCourse squeezed ds i (if b then still 0 else full_course (squeezed_to ds i))) (sym (not_one (get_or ds i 0) o))
      (picked laws squeezed ds i (squeezed_to ds i) s.0 s.1 (λ cs n. squeezed-other ds cs i l o))
]
