-- The coordinates that a view's own come from lie within its parent.
use Rattle.std.proofs.Common.{◌≡◌, inl, inr, ℕ, zero, suc, ◌+◌, ◌*◌, ◌%◌, ◌<◌, ◌≤◌, max, Bool, true, false, not, ◌||◌, ◌&&◌, ◌==◌, nat_eq, nat_lt, if◌then◌else◌, List, [], ◌∷◌, ◌++◌, length, get_or, take, drop, map, replicate, position, refl, ap, sym, ◌∙◌, subst, arith, IfSome, IsSome, is_none, Option, Some, None, Ok, Err, ℤ, pos, negsuc, ◌+ℤ◌, mod-lt, zero-add}
use Rattle.std.specs.Cmp.Lexicographic.{pointwise}
use Rattle.std.specs.List.{list_any, position_or_len, range_with_len}
use Rattle.std.specs.Option.{option_map_or}
use Rattle.std.proofs.lemmas.Bool.{cases_lt, not-true}
use Rattle.std.proofs.lemmas.Bool.Decides.{nat_tests}
use Rattle.std.proofs.lemmas.List.{length-map, length-replicate}
use Rattle.std.proofs.lemmas.List.FromFn.{get_or-map-range_with_len, get_or-range_with_len, length-range_with_len, length-map-range_with_len}
use Rattle.std.proofs.lemmas.List.Sums.{prefix_len_passes}
use Rattle.pdl_lemmas.specs.Numbers.{row_place_below}
use Rattle.pdl_shape.specs.Broadcast.{cut_to, join}
use Rattle.pdl_shape.specs.Counting.{from_end}
use Rattle.pdl_shape.specs.Laws.{CutsWithin, JoinsStretch, PositionLaws}
use Rattle.pdl_shape.specs.Limits.{checked_dims}
use Rattle.pdl_shape.specs.Refusals.{Refusal, bad_dimension, mismatch}
use Rattle.pdl_shape.specs.Shape.{IsWithin, position_of, size_of}
use Rattle.pdl_choice.specs.declared.edges.Edge.{Edge}
use Rattle.pdl_choice.specs.declared.edges.Edge.TheVariants.{Refuse, Zero, Nearest, Periodic}
use Rattle.pdl_choice.specs.Choice.{unless_outside}
use Rattle.pdl_choice.specs.Edges.{CanPlace, edge_coordinate, edge_refuses, from_zero}
use Rattle.pdl_choice.specs.Index.{first_outside, index_dims, index_source}
use Rattle.pdl_choice.specs.Laws.{IndexSourcesLieWithin, RangeSourcesLieWithin, WhereSourcesLieWithin}
use Rattle.pdl_choice.specs.Range.{AllAllowed, corner_at, corner_len, first_refused, inner_dims, is_negative, put_first, range_dims, range_source, window_refusal, window_sizes, window_source, windowed_dims}
use Rattle.pdl_choice.proofs.RangeCorners.{corner_size}
use Rattle.pdl_choice.proofs.IndexInside.{counted_below}
use Rattle.pdl_choice.proofs.ShapeSteps.{remainder}
use Rattle.pdl_choice.proofs.RangeDims.{checked_dims-ok}
use Rattle.pdl_choice.proofs.RangePlaces.{plus_none}
use Rattle.pdl_choice.proofs.WhereRising.{rising_below}
use Rattle.pdl_choice.proofs.RoundsWindows.{can_place}

-- where nothing passes a test, each element fails it
none_passes : {X : Type 0} (test : X → Bool) (xs : List X) → position test xs ≡ None → (k : ℕ) (d : X) → k < length xs → test (get_or xs k d) ≡ false
none_passes test xs e k d h = elim (cases_lt (position_or_len test xs) (length xs)) [
  | inl low ↦
      let here : nat_lt (position_or_len test xs) (length xs) ≡ true = grind (arith, nat_tests) in
      let some : position test xs ≡ Some (position_or_len test xs) = ap (λ b. if b then Some (position_or_len test xs) else None) here in
      cc
  | inr past ↦ not-true (test (get_or xs k d)) (prefix_len_passes (λ x. not (test x)) xs k d (omega (arith, past, h)))
]

-- ---- index

index_parts : (o : Option (List ℕ)) (w : Option ℕ) (ds : List ℕ) → option_map_or (λ met. unless_outside w (checked_dims met)) o (Err mismatch) ≡ Ok ds → (o ≡ Some ds) × (w ≡ None)
index_parts None w ds h = absurd (cc)
index_parts (Some met) (Some at) ds h = absurd (cc)
index_parts (Some met) None ds h = (ap Some (checked_dims-ok met ds h), refl)

stands_for : (o : Option ℕ) → is_none o ≡ false → IsSome o
stands_for None h = absurd (cc)
stands_for (Some p) h = refl

index_sources : PositionLaws → CutsWithin → JoinsStretch → (parent ind_dims ds cs : List ℕ) (ind : List ℤ) → length ind ≡ size_of ind_dims → index_dims parent ind_dims ind ≡ Ok ds → IsWithin ds cs → IsWithin parent (index_source parent ind_dims ind cs)
index_sources positions cuts joins [] ind_dims ds cs ind whole e w = absurd (cc)
index_sources positions cuts joins (n ∷ rest) ind_dims ds cs ind whole e w =
    let p = index_parts (join ind_dims rest) (first_outside n ind) ds e in
    let stretch = joins ind_dims rest ds p.0 in
    let inside : IsWithin ind_dims (cut_to ind_dims cs) = cuts ind_dims ds cs stretch.0 w in
    let at : ℕ = position_of ind_dims (cut_to ind_dims cs) in
    let below : at < length ind = omega (arith, positions.position_below ind_dims (cut_to ind_dims cs) inside, whole) in
    (counted_below n (get_or ind at (pos 0)) (stands_for (from_end (get_or ind at (pos 0)) n) (none_passes (λ v. is_none (from_end v n)) ind p.1 at (pos 0) below)), cuts rest ds cs stretch.1 w)

pub index_sources_lie : PositionLaws → CutsWithin → JoinsStretch → IndexSourcesLieWithin
index_sources_lie positions cuts joins = λ parent ind_dims ds cs ind whole e w. index_sources positions cuts joins parent ind_dims ds cs ind whole e w

-- ---- where

where_parts : (b : Bool) (ps ds : List ℕ) → (if b then Ok (length ps ∷ []) else Err mismatch) ≡ Ok ds → (b ≡ true) × (length ps ∷ [] ≡ ds)
where_parts true ps ds e = (refl, cc)
where_parts false ps ds e = absurd (cc)

same_lists : (xs ys : List ℕ) → pointwise nat_eq xs ys ≡ true → xs ≡ ys
same_lists [] [] e = refl
same_lists [] (y ∷ ys) e = absurd (cc)
same_lists (x ∷ xs) [] e = absurd (cc)
same_lists (x ∷ xs) (y ∷ ys) e =
    let p = both x y (pointwise nat_eq xs ys) e in
    ap (λ z. z ∷ xs) p.0 ∙ ap (λ zs. y ∷ zs) (same_lists xs ys p.1) where
      both : (x y : ℕ) (b : Bool) → (nat_eq x y && b) ≡ true → (x ≡ y) × (b ≡ true)
      both x y b h = grind (arith, nat_tests)

line_within : (n : ℕ) (cs : List ℕ) → IsWithin (n ∷ []) cs → get_or cs 0 0 < n
line_within n [] w = absurd w
line_within n (c ∷ cs) w = w.0

pub where_sources_lie : PositionLaws → WhereSourcesLieWithin
where_sources_lie positions = λ parent mask_dims ds cs places rising e w.
    let p = where_parts (pointwise nat_eq parent mask_dims) places ds e in
    let same : parent ≡ mask_dims = same_lists parent mask_dims p.0 in
    let at : get_or cs 0 0 < length places = line_within (length places) cs (subst (λ (es : List ℕ). IsWithin es cs) (sym p.1) w) in
    positions.coordinates_within parent (get_or places (get_or cs 0 0) 0)
    (subst (λ (es : List ℕ). get_or places (get_or cs 0 0) 0 < size_of es) (sym same) (rising_below 0 (size_of mask_dims) places rising (get_or cs 0 0) at))

-- ---- range

-- what stands for a number that an edge can place is a coordinate
placed_below : (edge : Edge) (n : ℕ) (z : ℤ) → CanPlace edge n z → IfSome (edge_coordinate edge n z) (λ c. c < n)
placed_below Refuse n (pos k) h = grind (arith, nat_tests)
placed_below Refuse n (negsuc k) h = absurd (cc)
placed_below Zero n (pos k) h = within n k (nat_lt k n) refl where
  within : (n k : ℕ) (b : Bool) → nat_lt k n ≡ b → IfSome (if b then Some k else None) (λ c. c < n)
  within n k true e = grind (arith, nat_tests)
  within n k false e = tt
placed_below Zero n (negsuc k) h = tt
placed_below Nearest n z h = omega arith
placed_below Periodic n (pos k) h = mod-lt k h
placed_below Periodic n (negsuc k) h = omega (arith, mod-lt k h)

edge_below : (edge : Edge) (n w : ℕ) (v : ℤ) (c : ℕ) → edge_refuses edge n w v ≡ false → c < max w 1 → IfSome (edge_coordinate edge n (v +ℤ pos c)) (λ k. k < n)
edge_below edge n w v c allowed h = placed_below edge n (v +ℤ pos c) (can_place edge n w v c allowed h)

put_within : (n : ℕ) (parent : List ℕ) (o : Option ℕ) (rest : Option (List ℕ)) → IfSome o (λ c. c < n) → IfSome rest (IsWithin parent) → IfSome (put_first o rest) (IsWithin (n ∷ parent))
put_within n parent None rest h w = tt
put_within n parent (Some c) None h w = tt
put_within n parent (Some c) (Some cs) h w = (h, w)

pub window_within : (edge : Edge) (parent windows : List ℕ) (corner : List ℤ) (at : List ℕ) → length windows ≤ length parent → length corner ≡ length windows
    → ((j : ℕ) → j < length windows → edge_refuses edge (get_or parent j 0) (get_or windows j 0) (get_or corner j (pos 0)) ≡ false)
    → IsWithin (inner_dims parent windows) at → IfSome (window_source edge parent windows corner at) (IsWithin parent)
window_within edge parent [] [] at fit paired allowed w = w
window_within edge parent [] (v ∷ corner) at fit paired allowed w = absurd (omega arith)
window_within edge [] (u ∷ windows) corner at fit paired allowed w = absurd (omega arith)
window_within edge (n ∷ parent) (u ∷ windows) [] at fit paired allowed w = absurd (omega arith)
window_within edge (n ∷ parent) (zero ∷ windows) (v ∷ corner) at fit paired allowed w =
    put_within n parent (edge_coordinate edge n v) (window_source edge parent windows corner at)
    (subst (λ z. IfSome (edge_coordinate edge n z) (λ c. c < n)) (sym (plus_none v 0 refl)) (edge_below edge n 0 v 0 (allowed 0 (omega arith)) (omega arith)))
    (window_within edge parent windows corner at (omega arith) (omega arith) (λ j h. allowed (suc j) (omega arith)) w)
window_within edge (n ∷ parent) (suc u ∷ windows) (v ∷ corner) [] fit paired allowed w = absurd w
window_within edge (n ∷ parent) (suc u ∷ windows) (v ∷ corner) (c ∷ at) fit paired allowed w =
    put_within n parent (edge_coordinate edge n (v +ℤ pos c)) (window_source edge parent windows corner at)
    (edge_below edge n (suc u) v c (allowed 0 (omega arith)) (omega (arith, w.0)))
    (window_within edge parent windows corner at (omega arith) (omega arith) (λ j h. allowed (suc j) (omega arith)) w.1)

-- coordinates of an array and of others after it
within_parts : (xs ys cs : List ℕ) → IsWithin (xs ++ ys) cs → IsWithin xs (take (length xs) cs) × IsWithin ys (drop (length xs) cs)
within_parts [] ys cs w = (tt, w)
within_parts (x ∷ xs) ys [] w = absurd w
within_parts (x ∷ xs) ys (c ∷ cs) w = let rest = within_parts xs ys cs w.1 in ((w.0, rest.0), rest.1)

range_parts : (o : Option Refusal) (w : Option ℕ) (ms ds : List ℕ) → option_map_or (λ refusal. Err refusal) o (unless_outside w (checked_dims ms)) ≡ Ok ds → (o ≡ None) × (w ≡ None) × (ms ≡ ds)
range_parts (Some refusal) w ms ds h = absurd (cc)
range_parts None (Some at) ms ds h = absurd (cc)
range_parts None None ms ds h = (refl, refl, checked_dims-ok ms ds h)

window_fits : (m n l : ℕ) (negative : Bool) → (if nat_lt m n || negative then Some bad_dimension else (if l == 1 || l == n then None else Some mismatch)) ≡ None → (n ≤ m) × ((l == 1) ≡ false → l ≡ n)
window_fits m n l negative e = grind (arith, nat_tests, e)

window_count : (n : ℕ) (sizes : List ℤ) → ((length sizes == 1) ≡ false → length sizes ≡ n) → length (window_sizes n sizes) ≡ n
window_count n sizes h = count (length sizes == 1) refl where
  count : (b : Bool) → (length sizes == 1) ≡ b → length (if b then replicate n (from_zero (get_or sizes 0 (pos 0))) else map from_zero sizes) ≡ n
  count true e = length-replicate n (from_zero (get_or sizes 0 (pos 0)))
  count false e = length-map sizes from_zero ∙ h e

all_allowed : (edge : Edge) (parent windows : List ℕ) (ind : List ℤ) → first_refused edge parent windows ind ≡ None → AllAllowed edge parent windows ind
all_allowed edge parent windows ind e k h =
    let test : ℕ → Bool = λ p. edge_refuses edge (get_or parent (p % length windows) 0) (get_or windows (p % length windows) 0) (get_or ind p (pos 0)) in
    ap test (sym (get_or-range_with_len 0 (length ind) k 0 h ∙ zero-add k))
    ∙ none_passes test (range_with_len 0 (length ind)) e k 0 (omega (arith, h, length-range_with_len 0 (length ind)))

range_sources : PositionLaws → (parent ind_dims ds cs : List ℕ) (ind sizes : List ℤ) (edge : Edge) → length ind ≡ size_of ind_dims → range_dims parent ind_dims ind sizes edge ≡ Ok ds → IsWithin ds cs
    → IfSome (range_source parent ind_dims ind sizes edge cs) (IsWithin parent)
range_sources positions parent ind_dims ds cs ind sizes edge whole e w =
    let len : ℕ = corner_len ind_dims in
    let windows : List ℕ = window_sizes len sizes in
    let outer : List ℕ = drop 1 ind_dims in
    let p = range_parts (window_refusal (length parent) len sizes) (first_refused edge parent windows ind) (windowed_dims parent ind_dims windows) ds e in
    let fits = window_fits (length parent) len (length sizes) (list_any is_negative sizes) p.0 in
    let count : length windows ≡ len = window_count len sizes fits.1 in
    let lie = within_parts outer (inner_dims parent windows) cs (subst (λ (es : List ℕ). IsWithin es cs) (sym p.2) w) in
    let q : ℕ = position_of outer (take (length outer) cs) in
    let row : q < size_of outer = positions.position_below outer (take (length outer) cs) lie.0 in
    let allowed = all_allowed edge parent windows ind p.1 in
    window_within edge parent windows (corner_at ind_dims ind (take (length outer) cs)) (drop (length outer) cs)
    (omega (arith, count, fits.0))
    (length-map-range_with_len (λ j. get_or ind (j + len * q) (pos 0)) 0 len ∙ sym count)
    (λ j h.
    let low : j < len = omega (arith, count, h) in
    let k : ℕ = j + len * q in
    let inside : k < length ind = omega (arith, row_place_below len (size_of outer) j q low row, corner_size ind_dims, whole) in
    let number : get_or (corner_at ind_dims ind (take (length outer) cs)) j (pos 0) ≡ get_or ind k (pos 0) = get_or-map-range_with_len (λ j. get_or ind (j + len * q) (pos 0)) 0 len j j (pos 0) low (zero-add j) in
    let here : k % length windows ≡ j = ap (λ n. k % n) count ∙ remainder j len q k low refl in
    ap (edge_refuses edge (get_or parent j 0) (get_or windows j 0)) number
    ∙ ap (λ i. edge_refuses edge (get_or parent i 0) (get_or windows i 0) (get_or ind k (pos 0))) (sym here) ∙ allowed k inside)
    lie.1

pub range_sources_lie : PositionLaws → RangeSourcesLieWithin
range_sources_lie positions = λ parent ind_dims ds cs ind sizes edge whole e w. range_sources positions parent ind_dims ds cs ind sizes edge whole e w
