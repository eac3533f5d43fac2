-- The triple by which places that run in steps are shown.
use Rattle.std.proofs.Common.{◌≡◌, ℕ, zero, suc, ◌+◌, ◌*◌, ◌<◌, ◌≤◌, List, [], ◌∷◌, ◌++◌, map, length, take, get_or, ℤ, pos, ◌+ℤ◌, ◌-ℤ◌, ◌≤ℤ◌, nat_abs, unsigned_abs, nat_le, ◌==◌, if◌then◌else◌, refl, sym, ap, ◌∙◌, subst, arith, zero-add, add-one}
use Rattle.std.specs.List.{range_with_len}
use Rattle.std.proofs.Math.Nat.{mul-zero}
use Rattle.std.proofs.lemmas.Bool.Decides.{nat_tests}
use Rattle.std.proofs.lemmas.Int.{ints}
use Rattle.std.proofs.lemmas.List.{take_more, length-take-le}
use Rattle.std.proofs.lemmas.List.FromFn.{fill_by_all, map-range_with_len_more, length-map-range_with_len}
use Rattle.pdl_shape.specs.Laws.{PositionLaws}
use Rattle.pdl_shape.specs.Shape.{IsWithin, size_of, extent_limit}
use Rattle.pdl_shape.specs.Triple.{Triple, IsTriple, IsPlace, place_of, moved, spread}
use Rattle.pdl_affine.specs.Windows.{origin, neighbour, increment, triple_showing, Shows, LiesIn}
use Rattle.pdl_affine.specs.Courses.{filled, counting, counted_incs}
use Rattle.pdl_affine.proofs.CourseMoves.{moved-counted, furthest, nearest, furthest_within, nearest_within, spread-ends, spread-counted, inc_spread}

pub filled_within : (ds cs : List ℕ) → IsWithin ds cs → IsWithin (filled ds) cs
filled_within [] [] w = tt
filled_within [] (c ∷ cs) w = absurd w
filled_within (d ∷ ds) [] w = absurd w
filled_within (d ∷ ds) (c ∷ cs) w = (omega (arith, w.0), filled_within ds cs w.1)

-- sizes that coordinates lie within have elements
pub some_element : PositionLaws → (ds cs : List ℕ) → IsWithin ds cs → size_of ds ≡ 0 → ⊥
some_element laws ds cs w none = omega (arith, laws.position_below ds cs w, none)

-- the first coordinates
pub origin_filled : (ds : List ℕ) → IsWithin (filled ds) (origin (length ds))
origin_filled [] = tt
origin_filled (d ∷ ds) = (omega arith, origin_filled ds)

pub origin_within : (ds : List ℕ) → (size_of ds ≡ 0 → ⊥) → IsWithin ds (origin (length ds))
origin_within [] some = tt
origin_within (zero ∷ ds) some = absurd (some (omega arith))
origin_within (suc d ∷ ds) some = (omega arith, origin_within ds (λ none. some (ap (λ n. suc d * n) none ∙ mul-zero (suc d))))

moved_origin : (xs : List ℤ) (n : ℕ) → moved xs (origin n) ≡ pos 0
moved_origin [] n = refl
moved_origin (x ∷ xs) zero = refl
moved_origin (x ∷ xs) (suc n) = rw (moved_origin xs n) (omega (arith, ints))

-- the coordinates one step along a dimension
neighbour_filled : (ds : List ℕ) (i : ℕ) → i < length ds → 1 < get_or ds i 0 → IsWithin (filled ds) (neighbour (length ds) i)
neighbour_filled [] i h big = absurd (omega arith)
neighbour_filled (d ∷ ds) zero h big = (omega (arith, big), origin_filled ds)
neighbour_filled (d ∷ ds) (suc i) h big = (omega arith, neighbour_filled ds i (omega arith) big)

moved_neighbour : (xs : List ℤ) (n i : ℕ) → length xs ≡ n → i < n → moved xs (neighbour n i) ≡ get_or xs i (pos 0)
moved_neighbour [] n i l h = absurd (omega arith)
moved_neighbour (x ∷ xs) zero i l h = absurd (omega arith)
moved_neighbour (x ∷ xs) (suc n) zero l h = rw (moved_origin xs n) (omega (arith, ints))
moved_neighbour (x ∷ xs) (suc n) (suc i) l h = rw (moved_neighbour xs n i (omega arith) (omega arith)) (omega (arith, ints))

-- places over a parent's base that begin somewhere and run in steps
pub record Runs (over : Triple) (place : List ℕ → ℤ) (ds : List ℕ) (start : ℤ) (xs : List ℤ) : Type 0 where
  pub paired : length xs ≡ length ds
  pub line : (cs : List ℕ) → IsWithin (filled ds) cs → place cs ≡ start +ℤ moved xs cs
  pub near : (cs es : List ℕ) → IsWithin (filled ds) cs → IsWithin (filled ds) es → place cs ≤ℤ (place es +ℤ pos (spread over.incs over.dims))
  pub inside : (cs : List ℕ) → IsWithin ds cs → (bs : List ℕ) × IsWithin over.dims bs × (place cs ≡ place_of over bs)
  pub triple : IsTriple over

-- each is one of the base
place_inside : (over : Triple) (place : List ℕ → ℤ) (ds : List ℕ) (start : ℤ) (xs : List ℤ) → Runs over place ds start xs → (cs : List ℕ) → IsWithin ds cs → IsPlace (place cs)
place_inside over place ds start xs r cs w = let b = r.inside cs w in subst IsPlace (sym b.2) (r.triple.reachable b.0 b.1)

pub place_origin : (over : Triple) (place : List ℕ → ℤ) (ds : List ℕ) (start : ℤ) (xs : List ℤ) → Runs over place ds start xs → place (origin (length ds)) ≡ start
place_origin over place ds start xs r = r.line (origin (length ds)) (origin_filled ds) ∙ ap (λ z. start +ℤ z) (moved_origin xs (length ds)) ∙ ends start where
  ends : (z : ℤ) → z +ℤ pos 0 ≡ z
  ends z = omega (arith, ints)

counts : (z y : ℤ) (d : ℕ) → (1 < d → z ≡ y) → (if nat_le d 1 then pos 0 else z) ≡ counting y d
counts z y d h = grind (arith, nat_tests)

increments : (over : Triple) (place : List ℕ → ℤ) (ds : List ℕ) (start : ℤ) (xs : List ℤ) → Runs over place ds start xs → (i : ℕ) → i < length ds
    → increment place ds i ≡ counting (get_or xs i (pos 0)) (get_or ds i 0)
increments over place ds start xs r i h = counts (place (neighbour (length ds) i) -ℤ place (origin (length ds))) (get_or xs i (pos 0)) (get_or ds i 0) step where
  less : (a b s x : ℤ) → a ≡ s +ℤ x → b ≡ s → a -ℤ b ≡ x
  less a b s x p q = omega (arith, ints)

  step : 1 < get_or ds i 0 → place (neighbour (length ds) i) -ℤ place (origin (length ds)) ≡ get_or xs i (pos 0)
  step big = less _ _ start _ (r.line (neighbour (length ds) i) (neighbour_filled ds i h big) ∙ ap (λ z. start +ℤ z) (moved_neighbour xs (length ds) i r.paired h)) (place_origin over place ds start xs r)

length-counted : (xs : List ℤ) (ds : List ℕ) → length xs ≡ length ds → length (counted_incs xs ds) ≡ length ds
length-counted [] ds h = h
length-counted (x ∷ xs) [] h = refl
length-counted (x ∷ xs) (d ∷ ds) h = ap suc (length-counted xs ds (omega arith))

get_or-counted : (xs : List ℤ) (ds : List ℕ) (i : ℕ) → length xs ≡ length ds → i < length ds → get_or (counted_incs xs ds) i (pos 0) ≡ counting (get_or xs i (pos 0)) (get_or ds i 0)
get_or-counted [] ds i l h = absurd (omega arith)
get_or-counted (x ∷ xs) [] i l h = absurd (omega arith)
get_or-counted (x ∷ xs) (d ∷ ds) zero l h = refl
get_or-counted (x ∷ xs) (d ∷ ds) (suc i) l h = get_or-counted xs ds i (omega arith) (omega arith)

-- the triple of a beginning and increments
abbrev pub triple_at : ℤ → List ℤ → List ℕ → Triple
triple_at start xs ds = record { offset = if size_of ds == 0 then 0 else nat_abs start; incs = counted_incs xs ds; dims = ds }

pub shown-is : (over : Triple) (place : List ℕ → ℤ) (ds : List ℕ) (start : ℤ) (xs : List ℤ) → Runs over place ds start xs → triple_showing place ds ≡ triple_at start xs ds
shown-is over place ds start xs r =
    let incs : counted_incs xs ds ≡ map (increment place ds) (range_with_len 0 (length ds)) =
    fill_by_all (increment place ds) (counted_incs xs ds) (length ds) (pos 0) (length-counted xs ds r.paired)
    (λ i h. get_or-counted xs ds i r.paired h ∙ sym (increments over place ds start xs r i h)) in
    ap (λ z. triple z (map (increment place ds) (range_with_len 0 (length ds)))) (place_origin over place ds start xs r) ∙ ap (triple start) (sym incs) where
      triple : ℤ → List ℤ → Triple
      triple z us = record { offset = if size_of ds == 0 then 0 else nat_abs z; incs = us; dims = ds }

elements : (n m : ℕ) → (n ≡ 0 → ⊥) → (if n == 0 then 0 else m) ≡ m
elements n m some = grind (arith, nat_tests)

natural : (z : ℤ) → pos 0 ≤ℤ z → pos (nat_abs z) ≡ z
natural z low = omega (arith, ints)

begins : (n : ℕ) (z : ℤ) → (n ≡ 0 → ⊥) → IsPlace z → pos (if n == 0 then 0 else nat_abs z) ≡ z
begins n z some p = ap pos (elements n (nat_abs z) some) ∙ natural z p.low

pub shows : PositionLaws → (over : Triple) (place : List ℕ → ℤ) (ds : List ℕ) (start : ℤ) (xs : List ℤ) → Runs over place ds start xs → Shows (triple_at start xs ds) place
shows laws over place ds start xs r cs w =
    let some = some_element laws ds cs w in
    let first : IsPlace start = subst IsPlace (place_origin over place ds start xs r) (place_inside over place ds start xs r (origin (length ds)) (origin_within ds some)) in
    ap (λ z. z +ℤ moved (counted_incs xs ds) cs) (begins (size_of ds) start some first)
    ∙ ap (λ z. start +ℤ z) (moved-counted xs ds cs r.paired (filled_within ds cs w)) ∙ sym (r.line cs (filled_within ds cs w))

-- the steps stay as near as the parent's places
pub narrow : (over : Triple) (place : List ℕ → ℤ) (ds : List ℕ) (start : ℤ) (xs : List ℤ) → Runs over place ds start xs → spread xs ds ≤ spread over.incs over.dims
narrow over place ds start xs r =
    let far = furthest xs ds in
    let by = nearest xs ds in
    ends (place far) (place by) start (moved xs far) (moved xs by) (spread xs ds) (spread over.incs over.dims)
    (r.line far (furthest_within xs ds)) (r.line by (nearest_within xs ds)) (spread-ends xs ds) (r.near far by (furthest_within xs ds) (nearest_within xs ds)) where
      ends : (p q s a b : ℤ) (m n : ℕ) → p ≡ s +ℤ a → q ≡ s +ℤ b → a ≡ b +ℤ pos m → p ≤ℤ (q +ℤ pos n) → m ≤ n
      ends p q s a b m n h k e l = omega (arith, ints)

pub is_triple : PositionLaws → (over : Triple) (place : List ℕ → ℤ) (ds : List ℕ) (start : ℤ) (xs : List ℤ) → Runs over place ds start xs → IsTriple (triple_at start xs ds)
is_triple laws over place ds start xs r = record {
  paired = length-counted xs ds r.paired;
  reachable = λ cs w. subst IsPlace (sym (shows laws over place ds start xs r cs w)) (place_inside over place ds start xs r cs w);
  narrow = omega (arith, spread-counted xs ds, narrow over place ds start xs r, r.triple.narrow);
}

-- where there are elements, the beginning is a place
pub start_place : (over : Triple) (place : List ℕ → ℤ) (ds : List ℕ) (start : ℤ) (xs : List ℤ) → Runs over place ds start xs → (size_of ds ≡ 0 → ⊥) → IsPlace start
start_place over place ds start xs r some = subst IsPlace (place_origin over place ds start xs r) (place_inside over place ds start xs r (origin (length ds)) (origin_within ds some))

-- an increment that counts is small
pub inc_small : (over : Triple) (place : List ℕ → ℤ) (ds : List ℕ) (start : ℤ) (xs : List ℤ) → Runs over place ds start xs → (i : ℕ) → i < length ds → 1 < get_or ds i 0 → unsigned_abs (get_or xs i (pos 0)) < extent_limit
inc_small over place ds start xs r i h big = omega (arith, inc_spread xs ds i (omega (arith, r.paired)) h big, narrow over place ds start xs r, r.triple.narrow)

-- one more increment that counts
counted-push : (xs : List ℤ) (ds : List ℕ) (x : ℤ) (d : ℕ) → length xs ≡ length ds → counted_incs (xs ++ x ∷ []) (ds ++ d ∷ []) ≡ counted_incs xs ds ++ counting x d ∷ []
counted-push [] [] x d h = refl
counted-push [] (e ∷ ds) x d h = absurd (omega arith)
counted-push (y ∷ xs) [] x d h = absurd (omega arith)
counted-push (y ∷ xs) (e ∷ ds) x d h = ap (λ r. counting y e ∷ r) (counted-push xs ds x d (omega arith))

pub counted_more : (f : ℕ → ℤ) (ds : List ℕ) (n : ℕ) → n < length ds
    → counted_incs (map f (range_with_len 0 (n + 1))) (take (n + 1) ds) ≡ counted_incs (map f (range_with_len 0 n)) (take n ds) ++ counting (f n) (get_or ds n 0) ∷ []
counted_more f ds n h =
    ap (λ xs. counted_incs xs (take (n + 1) ds)) (map-range_with_len_more f 0 n n (zero-add n))
    ∙ ap (counted_incs (map f (range_with_len 0 n) ++ f n ∷ [])) (take_more ds n 0 h)
    ∙ counted-push (map f (range_with_len 0 n)) (take n ds) (f n) (get_or ds n 0) (length-map-range_with_len f 0 n ∙ sym (length-take-le n ds (omega arith)))

pub counted_next : (x : ℤ) (xs : List ℤ) (ds : List ℕ) (n : ℕ) → length xs + 1 ≡ length ds → n < length xs
    → counted_incs (x ∷ take (n + 1) xs) (take (n + 1 + 1) ds) ≡ counted_incs (x ∷ take n xs) (take (n + 1) ds) ++ counting (get_or xs n (pos 0)) (get_or ds (n + 1) 0) ∷ []
counted_next x xs ds n l h =
    ap (λ ys. counted_incs (x ∷ ys) (take (n + 1 + 1) ds)) (take_more xs n (pos 0) h)
    ∙ ap (counted_incs (x ∷ (take n xs ++ get_or xs n (pos 0) ∷ []))) (take_more ds (n + 1) 0 (omega arith))
    ∙ counted-push (x ∷ take n xs) (take (n + 1) ds) (get_or xs n (pos 0)) (get_or ds (n + 1) 0) (ap suc (length-take-le n xs (omega arith)) ∙ sym (add-one n) ∙ sym (length-take-le (n + 1) ds (omega arith)))

-- one more element at the end of a list that is known
pub pushed : (made now xs : List ℤ) (z y : ℤ) → now ≡ made ++ z ∷ [] → made ≡ xs → z ≡ y → now ≡ xs ++ y ∷ []
pushed made now xs z y h k e = cc

-- the triple that is made of a beginning and of increments that run so
abbrev pub made : ℕ → List ℤ → List ℕ → Triple
made offset incs ds = record { offset = offset; incs = incs; dims = ds }

made-is : (offset : ℕ) (incs xs : List ℤ) (ds : List ℕ) (start : ℤ) → offset ≡ (if size_of ds == 0 then 0 else nat_abs start) → incs ≡ counted_incs xs ds → made offset incs ds ≡ triple_at start xs ds
made-is offset incs xs ds start h k = ap (λ n. made n incs ds) h ∙ ap (λ r. made (if size_of ds == 0 then 0 else nat_abs start) r ds) k

pub made_triple : PositionLaws → (over : Triple) (place : List ℕ → ℤ) (ds : List ℕ) (start : ℤ) (xs : List ℤ) (offset : ℕ) (incs : List ℤ) → Runs over place ds start xs
    → offset ≡ (if size_of ds == 0 then 0 else nat_abs start) → incs ≡ counted_incs xs ds → IsTriple (made offset incs ds)
made_triple laws over place ds start xs offset incs r h k = subst IsTriple (sym (made-is offset incs xs ds start h k)) (is_triple laws over place ds start xs r)

pub made_shown : (over : Triple) (place : List ℕ → ℤ) (ds : List ℕ) (start : ℤ) (xs : List ℤ) (offset : ℕ) (incs : List ℤ) → Runs over place ds start xs
    → offset ≡ (if size_of ds == 0 then 0 else nat_abs start) → incs ≡ counted_incs xs ds → made offset incs ds ≡ triple_showing place ds
made_shown over place ds start xs offset incs r h k = made-is offset incs xs ds start h k ∙ sym (shown-is over place ds start xs r)

pub made_shows : PositionLaws → (over : Triple) (place : List ℕ → ℤ) (ds : List ℕ) (start : ℤ) (xs : List ℤ) (offset : ℕ) (incs : List ℤ) → Runs over place ds start xs
    → offset ≡ (if size_of ds == 0 then 0 else nat_abs start) → incs ≡ counted_incs xs ds → Shows (made offset incs ds) place
made_shows laws over place ds start xs offset incs r h k =
    let P : Triple → Type 0 = λ t. Shows t place in
    subst P (sym (made-is offset incs xs ds start h k)) (shows laws over place ds start xs r)

pub made_lies : PositionLaws → (over : Triple) (place : List ℕ → ℤ) (ds : List ℕ) (start : ℤ) (xs : List ℤ) (offset : ℕ) (incs : List ℤ) → Runs over place ds start xs
    → offset ≡ (if size_of ds == 0 then 0 else nat_abs start) → incs ≡ counted_incs xs ds → LiesIn (made offset incs ds) over
made_lies laws over place ds start xs offset incs r h k =
    λ cs w. let b = r.inside cs w in (b.0, b.1, made_shows laws over place ds start xs offset incs r h k cs w ∙ b.2)
