-- Numbers that are changed where they stand.
use Rattle.std.proofs.Common.{◌≡◌, ℕ, zero, suc, ◌+◌, ◌-◌, ◌<◌, ◌≤◌, ℤ, pos, negsuc, FitsSigned, ◌+ℤ◌, ◌*ℤ◌, ◌*◌, List, [], ◌∷◌, ◌++◌, length, map, take, drop, get_or, arith, refl, ap, ap₂, sym, subst, ◌∙◌, append-nil, All}
use Rattle.std.specs.Prelude.{Option, None, Some, slice_set, unsigned_abs}
use Rattle.std.specs.List.{range_with_len}
use Rattle.std.proofs.lemmas.List.{at_drop_more, drop-drop, drop_all, get_or-map, get_or-set_other, get_or_default, take_all, length-drop, length-map, length-set, length-take-le}
use Rattle.std.proofs.lemmas.List.Edits.{map_over_more}
use Rattle.std.proofs.lemmas.List.Elements.{All-map}
use Rattle.std.proofs.lemmas.List.FromFn.{length-map-range_with_len, get_or-map-range_with_len}
use Rattle.std.proofs.lemmas.Int.{ints}
use Rattle.std.proofs.lemmas.Simd.{map-map}
use Rattle.std.proofs.Math.IntN.{negsuc-*ℤ-pos}
use Rattle.std.specs.Int.{w32, w64, from_le_bytes}
use Rattle.pdl_elem.specs.Laws.{WrappingLaws}
use Rattle.pdl_elem.specs.declared.BinaryOp.{BinaryOp}
use Rattle.pdl_elem.specs.declared.Ty.{Ty}
use Rattle.pdl_elem.specs.Operators.{binary_whole}
use Rattle.pdl_elem.specs.Types.{InRange}
use Rattle.pdl_lemmas.specs.Lists.{entry_inside, map-range_same}
use Rattle.pdl_shape.specs.Places.{element_at, put, read, write}
use Rattle.pdl_shape.specs.Shape.{size_of}
use Rattle.pdl_shape.specs.Triple.{IsPlace, Triple}
use Rattle.pdl_numbers.specs.Bytes.{bytes_of, number_of, word_of}
use Rattle.pdl_numbers.specs.Reads.{IsInside}
use Rattle.pdl_numbers.specs.Shown.{place_at, shown_through}
use Rattle.pdl_numbers.specs.Updates.{ShowsOnce, cell_with, change, value_with}
use Rattle.pdl_numbers.specs.Writes.{placed_from, stepped}
use Rattle.pdl_numbers.proofs.ByteLemmas.{set_number}
use Rattle.pdl_numbers.proofs.PlaceLists.{block_at, block_map, read_is}
use Rattle.pdl_numbers.proofs.ReadRuns.{inside_below}
use Rattle.pdl_numbers.proofs.ShownWalks.{IsStep, sum_fits}
use Rattle.pdl_numbers.proofs.WriteRuns.{neighbours_written, placed_part}

-- ---- one place after another

length_put : (p : Option ℕ) (x : ℤ) (es : List ℤ) → length (put p x es) ≡ length es
length_put None x es = refl
length_put (Some i) x es = length-set es i x

pub length_change : (f : ℤ → ℤ) (ps : List (Option ℕ)) (es : List ℤ) → length (change f ps es) ≡ length es
length_change f [] es = refl
length_change f (p ∷ ps) es = length_change f ps (put p (f (element_at es p)) es) ∙ length_put p (f (element_at es p)) es

-- one place more of what is left
pub change_more : (f : ℤ → ℤ) (ps : List (Option ℕ)) (es : List ℤ) (k : ℕ) → k < length ps
    → change f (drop k ps) es ≡ change f (drop (k + 1) ps) (put (get_or ps k None) (f (element_at es (get_or ps k None))) es)
change_more f ps es k h = at_drop_more (λ (qs : List (Option ℕ)). change f qs es) ps k None h

pub change_done : (f : ℤ → ℤ) (ps : List (Option ℕ)) (es : List ℤ) (k : ℕ) → length ps ≤ k → change f (drop k ps) es ≡ es
change_done f ps es k h = ap (λ (qs : List (Option ℕ)). change f qs es) (drop_all k ps h)

-- the first n places, and then the others
change_two : (f : ℤ → ℤ) (n : ℕ) (ps : List (Option ℕ)) (es : List ℤ) → change f ps es ≡ change f (drop n ps) (change f (take n ps) es)
change_two f zero ps es = refl
change_two f (suc n) [] es = refl
change_two f (suc n) (p ∷ ps) es = change_two f n ps (put p (f (element_at es p)) es)

-- one run more
pub run_changed : (f : ℤ → ℤ) (t : Triple) (first d r n p : ℕ) (es new all : List ℤ) → d + r ≤ n → p ≡ first + d
    → new ≡ change f (placed_from t p r) es → change f (drop d (placed_from t first n)) es ≡ all
    → change f (drop (d + r) (placed_from t first n)) new ≡ all
run_changed f t first d r n p es new all fits at made before =
    let ps : List (Option ℕ) = placed_from t first n in
    let part : new ≡ change f (take r (drop d ps)) es =
    made ∙ ap (λ q. change f (placed_from t q r) es) at ∙ ap (λ (qs : List (Option ℕ)). change f qs es) (sym (placed_part t first d r n fits)) in
    ap (λ (qs : List (Option ℕ)). change f qs new) (sym (drop-drop r d ps))
    ∙ ap (change f (drop r (drop d ps))) part
    ∙ sym (change_two f r (drop d ps) es) ∙ before

-- ---- a place that goes on step by step

pub from_first : (place : ℕ) (z : ℤ) → pos place ≡ pos place +ℤ z *ℤ pos 0
from_first place (pos n) = omega (arith, ints)
from_first place (negsuc n) = omega (arith, ints, negsuc-*ℤ-pos n 0)

pub one_further : (place j : ℕ) (z : ℤ) → (pos place +ℤ z *ℤ pos j) +ℤ z ≡ pos place +ℤ z *ℤ pos (j + 1)
one_further place j (pos n) = omega (arith, ints)
one_further place j (negsuc n) = omega (arith, ints, negsuc-*ℤ-pos n (j + 1), negsuc-*ℤ-pos n j)

-- the next one fits the word
near : (z : ℤ) → FitsSigned w32 z → IsStep z
near (pos n) f = record { high = omega (arith, ints, f.sfits); low = omega (arith, ints) }
near (negsuc n) f = record { high = omega (arith, ints); low = omega (arith, ints, f.sfits) }

pub next_fits : (at z : ℤ) → IsPlace at → FitsSigned w32 z → FitsSigned w64 (at +ℤ z)
next_fits at z i f = sum_fits 0 at z (omega arith) (omega (arith, ints, i.high)) (omega (arith, ints, i.low)) (near z f)

-- ---- each place once

-- no place stands twice
abbrev pub AreOnce : List (Option ℕ) → Type 0
AreOnce ps = (j k i : ℕ) → j < k → get_or ps j None ≡ Some i → get_or ps k None ≡ Some i → ⊥

-- an element at another place stays
element_beside : (es : List ℤ) (p o : Option ℕ) (x : ℤ) → ((i : ℕ) → p ≡ Some i → o ≡ Some i → ⊥) → element_at (put p x es) o ≡ element_at es o
element_beside es None o x n = refl
element_beside es (Some i) None x n = refl
element_beside es (Some i) (Some j) x n = get_or-set_other es i j x (pos 0) (λ e. n i refl (ap Some e))

read_beside : (ps : List (Option ℕ)) (es : List ℤ) (p : Option ℕ) (x : ℤ) → ((k i : ℕ) → p ≡ Some i → get_or ps k None ≡ Some i → ⊥) → read ps (put p x es) ≡ read ps es
read_beside [] es p x n = refl
read_beside (o ∷ ps) es p x n = ap₂ ◌∷◌ (element_beside es p o x (n zero)) (read_beside ps es p x (λ k. n (suc k)))

-- what is changed one after another is what all values are that were read before
pub change_once : (f : ℤ → ℤ) (ps : List (Option ℕ)) (es : List ℤ) → AreOnce ps → change f ps es ≡ write ps (map f (read ps es)) es
change_once f [] es n = refl
change_once f (p ∷ ps) es n =
    let x : ℤ = f (element_at es p) in
    change_once f ps (put p x es) (λ j k i h. n (suc j) (suc k) i (omega (arith, h)))
    ∙ ap (λ (rs : List ℤ). write ps (map f rs) (put p x es)) (read_beside ps es p x (λ k i. n zero (suc k) i (omega arith)))

some_same : (i j : ℕ) → Some i ≡ Some j → i ≡ j
some_same i j e = cc

-- the places of positions that are places of their own
once_each : (f : ℕ → ℕ) (n : ℕ) → ((p q : ℕ) → p < q → q < n → f p ≡ f q → ⊥) → AreOnce (map (λ p. Some (f p)) (range_with_len 0 n))
once_each f n once j k i h e g =
    let at : ℕ → Option ℕ = λ p. Some (f p) in
    let ps : List (Option ℕ) = map at (range_with_len 0 n) in
    let long : length ps ≡ n = length-map-range_with_len at 0 n in
    let last : k < n = omega (arith, long, entry_inside ps k i g) in
    let first : get_or ps j None ≡ Some (f j) = get_or-map-range_with_len at 0 n j j None (omega arith) (omega arith) in
    let second : get_or ps k None ≡ Some (f k) = get_or-map-range_with_len at 0 n k k None last (omega arith) in
    once j k h last (some_same (f j) (f k) (sym first ∙ e ∙ sym g ∙ second))

-- what a triple shows, changed where it stands
pub shown_changed : (f : ℤ → ℤ) (t : Triple) (es new : List ℤ) → ShowsOnce t → new ≡ change f (placed_from t 0 (size_of t.dims)) es
    → new ≡ write (placed_from t 0 (size_of t.dims)) (map f (shown_through t es)) es
shown_changed f t es new once made =
    let n : ℕ = size_of t.dims in
    let seen : read (map (λ p. Some (place_at t p)) (range_with_len 0 n)) es ≡ shown_through t es = map-map (element_at es) (λ p. Some (place_at t p)) (range_with_len 0 n) in
    let same : placed_from t 0 n ≡ map (λ p. Some (place_at t p)) (range_with_len 0 n) = map-range_same (λ p. Some (place_at t (0 + p))) (λ p. Some (place_at t p)) n None (λ k h. (let e : 0 + k ≡ k = omega arith in ap (λ p. Some (place_at t p)) e)) in
    made ∙ ap (λ (ps : List (Option ℕ)). change f ps es) same ∙ change_once f (map (λ p. Some (place_at t p)) (range_with_len 0 n)) es (once_each (place_at t) n once)
    ∙ ap₂ (λ (ps : List (Option ℕ)) (rs : List ℤ). write ps (map f rs) es) (sym same) seen

-- ---- neighbours

pub neighbours_changed : (f : ℤ → ℤ) (place count : ℕ) (inc : ℤ) (es : List ℤ) → inc ≡ pos 1 → place + count ≤ length es
    → take place es ++ map f (take count (drop place es)) ++ drop (place + count) es ≡ change f (stepped place inc count) es
neighbours_changed f place count inc es one fits =
    let to : ℕ → ℕ = λ j. unsigned_abs (pos place +ℤ inc *ℤ pos j) in
    let at : (j : ℕ) → to j ≡ place + j = λ j.
    (let on : place + 1 * j ≡ place + j = omega arith in
    ap (λ z. unsigned_abs (pos place +ℤ z *ℤ pos j)) one ∙ on) in
    let ps : List (Option ℕ) = stepped place inc count in
    let xs : List ℤ = take count (drop place es) in
    let vs : List ℤ = map f xs in
    let long : length ps ≡ count = length-map-range_with_len (λ j. Some (to j)) 0 count in
    let some : length xs ≡ count = length-take-le count (drop place es) (omega (arith, length-drop place es)) in
    let many : length vs ≡ count = length-map xs f ∙ some in
    let seen : xs ≡ read ps es =
    read_is ps es xs count (omega (arith, long)) (some ∙ sym long)
    (λ k h. block_at es xs place count k refl h
    ∙ ap (λ i. get_or es i (pos 0)) (sym (at k))
    ∙ sym (ap (element_at es) (get_or-map-range_with_len (λ j. Some (to j)) 0 count k k None h (omega arith)))) in
    let once : (p q : ℕ) → p < q → q < count → to p ≡ to q → ⊥ = λ p q h l e.
    (let same : place + p ≡ place + q = sym (at p) ∙ e ∙ at q in omega (arith, same, h)) in
    ap (λ (k : ℕ). take place es ++ vs ++ drop (place + k) es) (sym many)
    ∙ neighbours_written place inc vs es one (omega (arith, many))
    ∙ ap (λ (k : ℕ). write (stepped place inc k) vs es) many
    ∙ ap (λ (rs : List ℤ). write ps (map f rs) es) seen
    ∙ sym (change_once f ps es (once_each to count once))

-- ---- in cells

pub number_in_range : WrappingLaws → (ty : Ty) (bytes : List ℕ) → InRange ty (number_of ty bytes)
number_in_range laws ty bytes = laws.in_range ty (pos (from_le_bytes (word_of ty) bytes))

pub value_in_range : WrappingLaws → (op : BinaryOp) (ty : Ty) (n x : ℤ) → InRange ty (value_with op ty n x)
value_in_range laws op ty n x = laws.in_range ty (binary_whole op ty x n)

pub values_in_range : WrappingLaws → (op : BinaryOp) (ty : Ty) (n : ℤ) (xs : List ℤ) → All (InRange ty) (map (value_with op ty n) xs)
values_in_range laws op ty n xs = All-map (InRange ty) (value_with op ty n) xs (λ k d h. value_in_range laws op ty n (get_or xs k d))

-- cells from a place on are the bytes of what the numbers there became
pub cells_updated : (op : BinaryOp) (ty : Ty) (n : ℤ) (cells : List (List ℕ)) (start count : ℕ)
    → map (cell_with op ty n) (take count (drop start cells)) ≡ map (bytes_of ty) (map (value_with op ty n) (take count (drop start (map (number_of ty) cells))))
cells_updated op ty n cells start count =
    let part : List (List ℕ) = take count (drop start cells) in
    sym (map-map (bytes_of ty) (λ (bytes : List ℕ). value_with op ty n (number_of ty bytes)) part)
    ∙ ap (map (bytes_of ty)) (sym (map-map (value_with op ty n) (number_of ty) part))
    ∙ ap (λ (xs : List ℤ). map (bytes_of ty) (map (value_with op ty n) xs)) (block_map (number_of ty) cells start count)

-- one cell more of a run
pub cell_changed : WrappingLaws → (op : BinaryOp) (ty : Ty) (n : ℤ) (ps : List (Option ℕ)) (cells : List (List ℕ)) (p k : ℕ) (bytes : List ℕ) (all : List ℤ) → k < length ps → p < length cells → get_or ps k None ≡ Some p
    → bytes ≡ cell_with op ty n (get_or cells p []) → change (value_with op ty n) (drop k ps) (map (number_of ty) cells) ≡ all
    → change (value_with op ty n) (drop (k + 1) ps) (map (number_of ty) (slice_set cells p bytes)) ≡ all
cell_changed laws op ty n ps cells p k bytes all h inside at made before =
    let f : ℤ → ℤ = value_with op ty n in
    let es : List ℤ = map (number_of ty) cells in
    let x : ℤ = number_of ty (get_or cells p []) in
    let here : get_or es p (pos 0) ≡ x = get_or-map (number_of ty) cells p [] (pos 0) inside in
    ap (change f (drop (k + 1) ps)) (set_number ty cells p (f x) bytes (value_in_range laws op ty n x) made
    ∙ ap (λ y. slice_set es p (f y)) (sym here)
    ∙ ap (λ (o : Option ℕ). put o (f (element_at es o)) es) (sym at))
    ∙ sym (change_more f ps es k h) ∙ before

-- ---- a list that is changed from the front

pub over_more : {X : Type 0} (f : X → X) (xs ys : List X) (i : ℕ) (d y : X) → i < length ys → ys ≡ map f (take i xs) ++ drop i xs → length ys ≡ length xs → y ≡ f (get_or ys i d)
    → slice_set ys i y ≡ map f (take (i + 1) xs) ++ drop (i + 1) xs
over_more f xs ys i d y h e l v = ap (slice_set ys i) v ∙ map_over_more f xs ys i (get_or ys i d) (omega arith) e (get_or_default ys i d (get_or ys i d) h)

pub over_all : {X : Type 0} (f : X → X) (xs ys : List X) (n : ℕ) → length ys ≤ n → length ys ≡ length xs → ys ≡ map f (take n xs) ++ drop n xs → ys ≡ map f xs
over_all f xs ys n h l e =
    e ∙ ap₂ (λ us vs. map f us ++ vs) (take_all n xs (omega arith)) (drop_all n xs (omega arith)) ∙ append-nil (map f xs)

-- ---- a part of the cells

-- the cells of a part are the bytes of what the numbers there became
pub part_updated : (op : BinaryOp) (ty : Ty) (n m : ℤ) (cells now new : List (List ℕ)) (ns : List ℤ) (start count width : ℕ) → m ≡ n → width ≡ count → now ≡ cells → map (number_of ty) cells ≡ ns
    → new ≡ map (cell_with op ty m) (take width (drop start now)) → new ≡ map (bytes_of ty) (map (value_with op ty n) (take count (drop start ns)))
part_updated op ty n m cells now new ns start count width e w same are made =
    made ∙ ap₂ (λ y k. map (cell_with op ty y) (take k (drop start now))) e w
    ∙ ap (λ (xs : List (List ℕ)). map (cell_with op ty n) (take count (drop start xs))) same
    ∙ cells_updated op ty n cells start count
    ∙ ap (λ (xs : List ℤ). map (bytes_of ty) (map (value_with op ty n) (take count (drop start xs)))) are

-- a run of neighbours that lies inside
pub run_below : (n place count : ℕ) (inc : ℤ) → inc ≡ pos 1 → 0 < count → ((j : ℕ) → j < count → IsInside n (pos place +ℤ inc *ℤ pos j)) → place + count ≤ n
run_below n place count inc one some inside =
    let i : IsInside n (pos place +ℤ pos 1 *ℤ pos (count - 1)) = subst (λ z. IsInside n (pos place +ℤ z *ℤ pos (count - 1))) one (inside (count - 1) (omega arith)) in
    omega (arith, inside_below n (pos place +ℤ pos 1 *ℤ pos (count - 1)) i)
