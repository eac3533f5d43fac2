-- Values that are written run by run.
use Rattle.std.proofs.Common.{◌≡◌, ℕ, zero, suc, ◌+◌, ◌-◌, ◌*◌, ◌%◌, ◌<◌, ◌≤◌, ℤ, pos, ◌+ℤ◌, ◌*ℤ◌, List, [], ◌∷◌, ◌++◌, length, take, drop, set, map, get_or, arith, refl, ap, ap₂, sym, subst, ◌∙◌, All}
use Rattle.std.specs.Prelude.{Option, None, Some, unsigned_abs}
use Rattle.std.specs.List.{range_with_len}
use Rattle.std.proofs.lemmas.List.{append_assoc, drop-drop, drop-map, ext_get_or, get_or-drop, get_or-take, length-append, length-drop, length-map, length-take-le, map-append, take-map, take_at}
use Rattle.std.proofs.lemmas.Int.{ints}
use Rattle.std.proofs.lemmas.List.Edits.{sets, sets-eq}
use Rattle.std.proofs.lemmas.List.Elements.{All-append, All-drop, All-take}
use Rattle.std.proofs.lemmas.List.FromFn.{length-map-range_with_len, get_or-map-range_with_len}
use Rattle.pdl_elem.specs.declared.Ty.{Ty}
use Rattle.pdl_elem.specs.Types.{InRange}
use Rattle.pdl_shape.specs.Laws.{PositionLaws}
use Rattle.pdl_shape.specs.Places.{put, write}
use Rattle.pdl_shape.specs.Shape.{size_of}
use Rattle.pdl_shape.specs.Triple.{IsPlace, IsTriple, Reaches, Triple}
use Rattle.pdl_numbers.specs.Bytes.{ArePacked, IsPacked, bytes_of, number_of}
use Rattle.pdl_numbers.specs.Shown.{IsInOrder, place_at}
use Rattle.pdl_numbers.specs.Writes.{placed_from, stepped}
use Rattle.pdl_numbers.proofs.ByteLemmas.{all_again, all_packed}
use Rattle.pdl_numbers.proofs.ShownInOrder.{in_order_at}
use Rattle.pdl_numbers.proofs.ReadRuns.{Runs, run_at, run_inside}
use Rattle.pdl_numbers.proofs.ShownWalks.{IsShown, shown_at}
use borrow.Rule.Slice.PartMut.{post_of}

-- ---- one run after another

-- no values
write_none : (ps : List (Option ℕ)) (es : List ℤ) → write ps [] es ≡ es
write_none [] es = refl
write_none (p ∷ ps) es = refl

-- the first n values, and then the others
write_two : (n : ℕ) (ps : List (Option ℕ)) (vs es : List ℤ) → write ps vs es ≡ write (drop n ps) (drop n vs) (write (take n ps) (take n vs) es)
write_two zero ps vs es = refl
write_two (suc n) [] vs es = refl
write_two (suc n) (p ∷ ps) [] es = sym (write_none (drop n ps) es)
write_two (suc n) (p ∷ ps) (x ∷ vs) es = write_two n ps vs (put p x es)

-- places alike at each position
alike : (f g : ℕ → Option ℕ) (n : ℕ) → ((j : ℕ) → j < n → f j ≡ g j) → map f (range_with_len 0 n) ≡ map g (range_with_len 0 n)
alike f g n same =
    let fs : length (map f (range_with_len 0 n)) ≡ n = length-map-range_with_len f 0 n in
    let gs : length (map g (range_with_len 0 n)) ≡ n = length-map-range_with_len g 0 n in
    ext_get_or None (map f (range_with_len 0 n)) (map g (range_with_len 0 n)) (fs ∙ sym gs) (λ i l.
    let low : i < n = omega (arith, fs) in
    get_or-map-range_with_len f 0 n i i None low (omega arith) ∙ same i low ∙ sym (get_or-map-range_with_len g 0 n i i None low (omega arith)))

-- a part of the places that a triple shows
pub placed_part : (t : Triple) (first d r n : ℕ) → d + r ≤ n → take r (drop d (placed_from t first n)) ≡ placed_from t (first + d) r
placed_part t first d r n h =
    let f : ℕ → Option ℕ = λ p. Some (place_at t (first + p)) in
    let g : ℕ → Option ℕ = λ p. Some (place_at t (first + d + p)) in
    let ps : List (Option ℕ) = map f (range_with_len 0 n) in
    let long : length ps ≡ n = length-map-range_with_len f 0 n in
    let rest : length (drop d ps) ≡ n - d = length-drop d ps ∙ ap (λ k. k - d) long in
    let some : length (take r (drop d ps)) ≡ r = length-take-le r (drop d ps) (omega (arith, rest)) in
    let many : length (map g (range_with_len 0 r)) ≡ r = length-map-range_with_len g 0 r in
    ext_get_or None (take r (drop d ps)) (map g (range_with_len 0 r)) (some ∙ sym many) (λ i l.
    let low : i < r = omega (arith, some) in
    let same : first + (d + i) ≡ first + d + i = omega arith in
    get_or-take r (drop d ps) i None low
    ∙ get_or-drop d ps i None
    ∙ get_or-map-range_with_len f 0 n (d + i) (d + i) None (omega arith) (omega arith)
    ∙ ap (λ k. Some (place_at t k)) same
    ∙ sym (get_or-map-range_with_len g 0 r i i None low (omega arith)))

-- one run more
pub run_more : (t : Triple) (first d r n : ℕ) (vs es new run all : List ℤ) → length vs ≡ n → d + r ≤ n → length run ≡ r → run ≡ take r (drop d vs)
    → new ≡ write (placed_from t (first + d) (length run)) run es → write (drop d (placed_from t first n)) (drop d vs) es ≡ all
    → write (drop (d + r) (placed_from t first n)) (drop (d + r) vs) new ≡ all
run_more t first d r n vs es new run all count fits long is made before =
    let ps : List (Option ℕ) = placed_from t first n in
    let part : new ≡ write (take r (drop d ps)) (take r (drop d vs)) es =
    made ∙ ap (λ k. write (placed_from t (first + d) k) run es) long ∙ ap₂ (λ qs us. write qs us es) (sym (placed_part t first d r n fits)) is in
    ap₂ (λ qs us. write qs us new) (sym (drop-drop r d ps)) (sym (drop-drop r d vs))
    ∙ ap (write (drop r (drop d ps)) (drop r (drop d vs))) part
    ∙ sym (write_two r (drop d ps) (drop d vs) es) ∙ before

-- ---- neighbours

sets_from : (f : ℕ → Option ℕ) (s k : ℕ) (vs es : List ℤ) → ((j : ℕ) → f j ≡ Some (s + j)) → write (map f (range_with_len k (length vs))) vs es ≡ sets es (s + k) vs
sets_from f s k [] es at = refl
sets_from f s k (x ∷ vs) es at =
    let next : s + (k + 1) ≡ suc (s + k) = omega arith in
    ap (λ o. write (map f (range_with_len (k + 1) (length vs))) vs (put o x es)) (at k)
    ∙ sets_from f s (k + 1) vs (set es (s + k) x) at
    ∙ ap (λ i. sets (set es (s + k) x) i vs) next

-- values that are put side by side
pub neighbours_written : (place : ℕ) (inc : ℤ) (vs es : List ℤ) → inc ≡ pos 1 → place + length vs ≤ length es
    → take place es ++ vs ++ drop (place + length vs) es ≡ write (stepped place inc (length vs)) vs es
neighbours_written place inc vs es one fits =
    let at : (j : ℕ) → Some (unsigned_abs (pos place +ℤ inc *ℤ pos j)) ≡ Some (place + j) = λ j.
    (let on : place + 1 * j ≡ place + j = omega arith in
    ap (λ z. Some (unsigned_abs (pos place +ℤ z *ℤ pos j))) one ∙ ap Some on) in
    let start : place + 0 ≡ place = omega arith in
    sym (sets_from (λ j. Some (unsigned_abs (pos place +ℤ inc *ℤ pos j))) place 0 vs es at ∙ ap (λ i. sets es i vs) start ∙ sets-eq vs es place fits)

-- ---- cells that are set side by side

-- what stands before them, they, and what stands after them
pub spliced : (t : Ty) (cells now packed rest : List (List ℕ)) (es : List ℤ) (s k len : ℕ) → now ≡ cells → length cells ≡ len → k ≡ length es → s + length es ≤ len → packed ≡ map (bytes_of t) es
    → take len (take s now ++ (packed ++ post_of s k now) ++ rest) ≡ take s cells ++ map (bytes_of t) es ++ drop (s + length es) cells
spliced t cells now packed rest es s k len same long count fits is =
    let front : length (take s now) ≡ s = length-take-le s now (omega (arith, ap length same)) in
    let many : length packed ≡ length es = ap length is ∙ length-map es (bytes_of t) in
    let back : length (post_of s k now) ≡ length now - s - k = length-drop k (drop s now) ∙ ap (λ n. n - k) (length-drop s now) in
    let mid : length (packed ++ post_of s k now) ≡ length packed + length (post_of s k now) = length-append packed (post_of s k now) in
    let both : length (take s now ++ (packed ++ post_of s k now)) ≡ length (take s now) + length (packed ++ post_of s k now) = length-append (take s now) (packed ++ post_of s k now) in
    take_at (take s now ++ (packed ++ post_of s k now)) rest len (omega (arith, front, many, back, mid, both, ap length same))
    ∙ sym (append_assoc (take s now) packed (post_of s k now))
    ∙ ap₂ (λ (xs ys : List (List ℕ)). take s xs ++ ys ++ post_of s k xs) same is
    ∙ ap (λ (xs : List (List ℕ)). take s cells ++ map (bytes_of t) es ++ xs) (drop-drop k s cells ∙ ap (λ n. drop (s + n) cells) count)

pub splice_packed : (t : Ty) (cells : List (List ℕ)) (es : List ℤ) (s n : ℕ) → ArePacked t cells → All (InRange t) es → ArePacked t (take s cells ++ map (bytes_of t) es ++ drop n cells)
splice_packed t cells es s n packed all =
    All-append (IsPacked t) (take s cells ++ map (bytes_of t) es) (drop n cells)
    (All-append (IsPacked t) (take s cells) (map (bytes_of t) es) (All-take (IsPacked t) s cells packed) (all_packed t es all)) (All-drop (IsPacked t) n cells packed)

pub splice_numbers : (t : Ty) (cells : List (List ℕ)) (es : List ℤ) (s n : ℕ) → All (InRange t) es
    → map (number_of t) (take s cells ++ map (bytes_of t) es ++ drop n cells) ≡ take s (map (number_of t) cells) ++ es ++ drop n (map (number_of t) cells)
splice_numbers t cells es s n all =
    map-append (number_of t) (take s cells ++ map (bytes_of t) es) (drop n cells)
    ∙ ap (λ (xs : List ℤ). xs ++ map (number_of t) (drop n cells)) (map-append (number_of t) (take s cells) (map (bytes_of t) es))
    ∙ ap₂ (λ (xs ys : List ℤ). xs ++ ys ++ map (number_of t) (drop n cells)) (sym (take-map (number_of t) s cells)) (all_again t es all)
    ∙ ap (λ (xs : List ℤ). take s (map (number_of t) cells) ++ es ++ xs) (sym (drop-map (number_of t) n cells))

-- ---- what a triple shows of a row, and in order

reach_all : (t : Triple) → IsTriple t → Reaches t 1048576
reach_all t ok cs w = (ok.reachable cs w).high

-- the places of a row are those of a run
pub record IsRow (t : Triple) (place : ℕ) (inc : ℤ) (p count : ℕ) : Type 0 where
  pub places : (j : ℕ) → j < count → IsPlace (pos place +ℤ inc *ℤ pos j)
  pub same : stepped place inc count ≡ placed_from t p count

pub row_run : PositionLaws → (t : Triple) (place : ℕ) (inc : ℤ) (p count : ℕ) → IsTriple t → place ≡ place_at t p → inc ≡ get_or t.incs 0 (pos 0) → p + count ≤ size_of t.dims → p % get_or t.dims 0 1 + count ≤ get_or t.dims 0 1
    → IsRow t place inc p count
row_run laws t place inc p count ok at along fits row =
    let run : (j : ℕ) → j < count → Runs t 1048576 p j = λ j h. run_at laws t 1048576 p j ok (reach_all t ok) (omega arith) (omega arith) in
    let moved : (j : ℕ) → pos place +ℤ inc *ℤ pos j ≡ pos (place_at t p) +ℤ get_or t.incs 0 (pos 0) *ℤ pos j = λ j. ap₂ (λ k z. pos k +ℤ z *ℤ pos j) at along in
    record {
      places = λ j h. subst IsPlace (sym (moved j)) (run_inside t 1048576 p j (run j h)).place;
      same = alike (λ j. Some (unsigned_abs (pos place +ℤ inc *ℤ pos j))) (λ j. Some (place_at t (p + j))) count (λ j h. ap (λ z. Some (unsigned_abs z)) (moved j ∙ (run j h).is));
    }

-- and so are those of a triple in order
pub order_run : PositionLaws → (t : Triple) (place p count : ℕ) → IsTriple t → IsInOrder 1 t.incs t.dims → place ≡ place_at t p → 0 < count → p + count ≤ size_of t.dims → IsRow t place (pos 1) p count
order_run laws t place p count ok order at some fits =
    let here : place_at t p ≡ t.offset + p = in_order_at laws t p order (omega arith) in
    let on : (j : ℕ) → j < count → place + 1 * j ≡ place_at t (p + j) = λ j h.
    (let there : place_at t (p + j) ≡ t.offset + (p + j) = in_order_at laws t (p + j) order (omega arith) in omega arith) in
    record {
      places = λ j h.
          (let s : IsShown t 1048576 (p + j) = shown_at laws t 1048576 (p + j) ok (reach_all t ok) (omega arith) in
          let e = on j h in
          record { low = omega (arith, ints); high = omega (arith, ints, s.small) });
      same = alike (λ j. Some (unsigned_abs (pos place +ℤ pos 1 *ℤ pos j))) (λ j. Some (place_at t (p + j))) count (λ j h. ap Some (on j h));
    }
