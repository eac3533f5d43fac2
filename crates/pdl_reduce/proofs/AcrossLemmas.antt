-- Many lists at once.
use Rattle.std.proofs.Common.{◌≡◌, ℕ, ◌+◌, ◌-◌, ◌*◌, ◌/◌, ◌%◌, ◌<◌, ◌≤◌, ℤ, pos, List, [], ◌∷◌, ◌++◌, length, length-append, map, take, drop, get_or, fold, All, arith, ap, ap₂, sym, subst, ◌∙◌, inl, inr}
use Rattle.std.specs.Int.{int_max, int_min}
use Rattle.std.specs.List.{flat_map, range_with_len}
use Rattle.std.proofs.Math.Nat.{add-mul, mul-le-mul}
use Rattle.std.proofs.lemmas.Bool.{cases_lt}
use Rattle.std.proofs.lemmas.List.{ext_get_or, get_or-take, get_or-drop, get_or_append_left, get_or-append_right, length-take-le, length-drop, take_all}
use Rattle.std.proofs.lemmas.List.FromFn.{length-map-range_with_len, get_or-map-range_with_len}
use Rattle.std.proofs.lemmas.Simd.{map-map}
use Rattle.std.proofs.lemmas.List.Concat.{flat_map_single}
use Rattle.std.proofs.lemmas.List.Elements.{All-drop, All-take}
use Rattle.std.proofs.lemmas.List.Sums.{fold_more}
use Rattle.std.proofs.lemmas.Nat.{div-mul-add}
use Rattle.pdl_elem.specs.declared.Ty.{Ty}
use Rattle.pdl_elem.specs.declared.Ty.TheVariants.{Longlong}
use Rattle.pdl_elem.specs.Laws.{WrappingLaws}
use Rattle.pdl_elem.specs.Numbers.{wrapped}
use Rattle.pdl_elem.specs.Types.{InRange, highest, lowest}
use Rattle.pdl_numbers.specs.Folds.{HasFolded, WrapsLate}
use Rattle.pdl_numbers.specs.Reads.{LieAcross, across}
use Rattle.pdl_reduce.specs.declared.Reduction.TheVariants.{Sumover, Prodover, Maximum, Minimum}
use Rattle.pdl_reduce.specs.Across.{come_to}
use Rattle.pdl_reduce.specs.Folds.{total, product, greatest, least}
use Rattle.pdl_reduce.specs.Reductions.{lists, nth_list, reduced_row, sum_type}
use Rattle.pdl_reduce.proofs.FoldNumbers.{adding, multiplying, wrapped_sum, wrapped_product, greatest_from, least_from}
use Rattle.pdl_reduce.proofs.PairingPlaces.{range_agree}
use Rattle.pdl_reduce.proofs.BlockProducts.{range_more}
use Rattle.pdl_reduce.proofs.ReductionResults.{row_inside}

-- a list of n of them lies before the end
pub list_within : (first j n size total : ℕ) → j < n → (first + n) * size ≤ total → (first + j) * size + size ≤ total
list_within first j n size total h within =
    omega (arith, add-mul (first + j) 1 size, mul-le-mul {n₁ = first + j + 1} {m₁ = size} {n₂ = first + n} {m₂ = size} (omega arith) (omega arith))

-- the same place of each list lies across
pub place_across : (ds : List ℕ) (first i j size : ℕ) → size ≡ get_or ds 0 1 → across ds (first * size + i) j ≡ (first + j) * size + i
place_across ds first i j size e = omega (arith, add-mul first j size, ap (λ (m : ℕ). j * m) e)

pub across_within : (ds : List ℕ) (first i j n size total : ℕ) → size ≡ get_or ds 0 1 → i < size → j < n → (first + n) * size ≤ total → across ds (first * size + i) j < total
across_within ds first i j n size total e h k within = omega (arith, place_across ds first i j size e, list_within first j n size total k within)

pub lie_across : (ds : List ℕ) (first i n size : ℕ) → size ≡ get_or ds 0 1 → i < size → first % get_or ds 1 1 + n ≤ get_or ds 1 1 → LieAcross ds (first * size + i) n
lie_across ds first i n size e h plane =
    subst (λ (m : ℕ). m % get_or ds 1 1 + n ≤ get_or ds 1 1) (sym (ap (λ (m : ℕ). (first * size + i) / m) (sym e) ∙ div-mul-add first size i h)) plane

-- an element of a list
pub list_length : (size : ℕ) (es : List ℤ) (n : ℕ) → n * size + size ≤ length es → length (nth_list size es n) ≡ size
list_length size es n h = length-take-le size (drop (n * size) es) (omega (arith, length-drop (n * size) es))

pub list_element : (size : ℕ) (es : List ℤ) (n i : ℕ) → i < size → get_or (nth_list size es n) i (pos 0) ≡ get_or es (n * size + i) (pos 0)
list_element size es n i h = get_or-take size (drop (n * size) es) i (pos 0) h ∙ get_or-drop (n * size) es i (pos 0)

-- numbers that are what a function gives from a place on
pub part_is : (f : ℕ → ℤ) (ys : List ℤ) (a n : ℕ) → length ys ≡ n → ((j : ℕ) → j < n → get_or ys j (pos 0) ≡ f (a + j)) → ys ≡ map f (range_with_len a n)
part_is f ys a n l h =
    let m : length (map f (range_with_len a n)) ≡ n = length-map-range_with_len f a n in
    ext_get_or (pos 0) ys (map f (range_with_len a n)) (l ∙ sym m)
    (λ j below. let small : j < n = omega (arith, l, below) in h j small ∙ sym (get_or-map-range_with_len f a n j (a + j) (pos 0) small (omega arith)))

-- what a function gives below a, and then for n more
pub parts_join : (f : ℕ → ℤ) (a n : ℕ) → map f (range_with_len 0 (a + n)) ≡ map f (range_with_len 0 a) ++ map f (range_with_len a n)
parts_join f a n =
    range_more f a n (map f (range_with_len a n)) (length-map-range_with_len f a n)
    (λ j h. get_or-map-range_with_len f a n j (a + j) (pos 0) h (omega arith))

-- ---- lists whose numbers are kept in the width of a type

-- behind so many numbers, which stay, stands for each list what its first numbers come to, wrapped
pub record HaveCome (t : Ty) (f : ℤ → ℤ → ℤ) (start : ℤ) (size : ℕ) (es : List ℤ) (first before count rows : ℕ) (old new : List ℤ) : Type 0 where
  pub as_many : length new ≡ before + count
  pub kept : (m : ℕ) → m < before → get_or new m (pos 0) ≡ get_or old m (pos 0)
  pub come : (j : ℕ) → j < count → get_or new (before + j) (pos 0) ≡ wrapped t (fold f start (take rows (nth_list size es (first + j))))

-- the start alone
pub come_first : (t : Ty) (f : ℤ → ℤ → ℤ) (start : ℤ) (size : ℕ) (es : List ℤ) (first before count : ℕ) (old starts new : List ℤ) → length old ≡ before → length starts ≡ count
    → ((j : ℕ) → j < count → get_or starts j (pos 0) ≡ wrapped t start) → new ≡ old ++ starts → HaveCome t f start size es first before count 0 old new
come_first t f start size es first before count old starts new l n s e = record {
  as_many = ap (λ (zs : List ℤ). length zs) e ∙ length-append old starts ∙ ap₂ (λ (a b : ℕ). a + b) l n;
  kept = λ m h. ap (λ (zs : List ℤ). get_or zs m (pos 0)) e ∙ get_or_append_left old starts (pos 0) m (omega (arith, h, l));
  come = λ j h.
      let back : before + j - before ≡ j = omega arith in
      ap (λ (zs : List ℤ). get_or zs (before + j) (pos 0)) e ∙ get_or-append_right old starts before (before + j) (pos 0) l (omega arith)
      ∙ ap (λ (m : ℕ). get_or starts m (pos 0)) back ∙ s j h;
}

-- one number of each list more: that it is wrapped before changes nothing
pub come_more : (t : Ty) (f : ℤ → ℤ → ℤ) (start : ℤ) (size : ℕ) (es : List ℤ) (ds : List ℕ) (first before count rows : ℕ) (old now new : List ℤ) → WrapsLate f → size ≡ get_or ds 0 1 → rows < size → (first + count) * size ≤ length es
    → HaveCome t f start size es first before count rows old now → HasFolded t f (λ k. get_or es (across ds (first * size + rows) k) (pos 0)) before count now new
    → HaveCome t f start size es first before count (rows + 1) old new
come_more t f start size es ds first before count rows old now new late e h within so_far folded = record {
  as_many = folded.as_many ∙ so_far.as_many;
  kept = λ m low. folded.before m low ∙ so_far.kept m low;
  come = λ j few.
      let xs : List ℤ = nth_list size es (first + j) in
      let inside : length xs ≡ size = list_length size es (first + j) (list_within first j count size (length es) few within) in
      let number : get_or es (across ds (first * size + rows) j) (pos 0) ≡ get_or xs rows (pos 0) =
      ap (λ (m : ℕ). get_or es m (pos 0)) (place_across ds first rows j size e) ∙ sym (list_element size es (first + j) rows h) in
      folded.taken j few ∙ ap₂ (λ (s x : ℤ). wrapped t (f s x)) (so_far.come j few) number
      ∙ late t (fold f start (take rows xs)) (get_or xs rows (pos 0))
      ∙ ap (wrapped t) (sym (fold_more f start xs rows (pos 0) (omega (arith, inside, h))));
}

-- all of them
pub come_all : (t : Ty) (f : ℤ → ℤ → ℤ) (start : ℤ) (size : ℕ) (es : List ℤ) (first before count rows : ℕ) (old new : List ℤ) → length old ≡ before → size ≤ rows → (first + count) * size ≤ length es
    → HaveCome t f start size es first before count rows old new → new ≡ old ++ map (come_to t f start size es) (range_with_len first count)
come_all t f start size es first before count rows old new l full within h =
    let at : ℕ → ℤ = come_to t f start size es in
    let ys : List ℤ = map at (range_with_len first count) in
    let many : length ys ≡ count = length-map-range_with_len at first count in
    ext_get_or (pos 0) new (old ++ ys) (h.as_many ∙ sym (length-append old ys ∙ ap₂ (λ (a b : ℕ). a + b) l many))
    (λ k below. elim (cases_lt k before) [
      | inl low ↦ h.kept k low ∙ sym (get_or_append_left old ys (pos 0) k (omega (arith, low, l)))
      | inr high ↦
          let j : ℕ = k - before in
          let few : j < count = omega (arith, high, below, h.as_many) in
          let back : before + j ≡ k = omega (arith, high) in
          let inside : length (nth_list size es (first + j)) ≡ size = list_length size es (first + j) (list_within first j count size (length es) few within) in
          ap (λ (m : ℕ). get_or new m (pos 0)) (sym back) ∙ h.come j few
          ∙ ap (λ (zs : List ℤ). wrapped t (fold f start zs)) (take_all rows (nth_list size es (first + j)) (omega (arith, inside, full)))
          ∙ sym (get_or-append_right old ys before k (pos 0) l high ∙ get_or-map-range_with_len at first count j (first + j) (pos 0) few (omega arith))
    ])

-- ---- sums and products

wrapped_lists : (T : Ty) (f : ℤ → ℤ → ℤ) (start : ℤ) (g : List ℤ → ℤ) (count size : ℕ) (es : List ℤ) → ((n : ℕ) → n < count → wrapped T (fold f start (nth_list size es n)) ≡ g (nth_list size es n))
    → map (come_to T f start size es) (range_with_len 0 count) ≡ flat_map (λ xs. g xs ∷ []) (lists count size es)
wrapped_lists T f start g count size es h =
    range_agree (come_to T f start size es) (λ n. g (nth_list size es n)) count h
    ∙ sym (flat_map_single g (lists count size es) ∙ map-map g (nth_list size es) (range_with_len 0 count))

pub sums_across : WrappingLaws → (ty T : Ty) (count size : ℕ) (es : List ℤ) → T ≡ sum_type ty
    → map (come_to T adding (pos 0) size es) (range_with_len 0 count) ≡ flat_map (reduced_row Sumover ty) (lists count size es)
sums_across laws ty T count size es e =
    wrapped_lists T adding (pos 0) (λ xs. wrapped (sum_type ty) (total xs)) count size es
    (λ n below. wrapped_sum laws T (nth_list size es n) ∙ ap (λ (t : Ty). wrapped t (total (nth_list size es n))) e)

pub products_across : WrappingLaws → (ty T : Ty) (count size : ℕ) (es : List ℤ) → T ≡ sum_type ty
    → map (come_to T multiplying (pos 1) size es) (range_with_len 0 count) ≡ flat_map (reduced_row Prodover ty) (lists count size es)
products_across laws ty T count size es e =
    wrapped_lists T multiplying (pos 1) (λ xs. wrapped (sum_type ty) (product xs)) count size es
    (λ n below. wrapped_product laws T (nth_list size es n) ∙ ap (λ (t : Ty). wrapped t (product (nth_list size es n))) e)

-- ---- extremes

-- a list below the count has numbers, all in range
pub record HasSome (ty : Ty) (xs : List ℤ) : Type 0 where
  pub some : 0 < length xs
  pub in_range : All (InRange ty) xs

has_some : (ty : Ty) (count size n : ℕ) (es : List ℤ) → n < count → 0 < size → count * size ≡ length es → All (InRange ty) es → HasSome ty (nth_list size es n)
has_some ty count size n es h some whole all = record {
  some = omega (arith, some, list_length size es n (omega (arith, whole, row_inside n count size h)));
  in_range = All-take (InRange ty) size (drop (n * size) es) (All-drop (InRange ty) (n * size) es all);
}

pub greatest_across : WrappingLaws → (ty T : Ty) (start : ℤ) (count size : ℕ) (es : List ℤ) → T ≡ ty → start ≡ lowest Longlong → 0 < size → count * size ≡ length es → All (InRange ty) es
    → map (come_to T int_max start size es) (range_with_len 0 count) ≡ flat_map (reduced_row Maximum ty) (lists count size es)
greatest_across laws ty T start count size es e s some whole all =
    wrapped_lists T int_max start greatest count size es
    (λ n below.
    let xs : List ℤ = nth_list size es n in
    let h : HasSome ty xs = has_some ty count size n es below some whole all in
    ap₂ (λ (t : Ty) (z : ℤ). wrapped t (fold int_max z xs)) e s ∙ greatest_from laws ty xs h.some h.in_range)

pub least_across : WrappingLaws → (ty T : Ty) (start : ℤ) (count size : ℕ) (es : List ℤ) → T ≡ ty → start ≡ highest Longlong → 0 < size → count * size ≡ length es → All (InRange ty) es
    → map (come_to T int_min start size es) (range_with_len 0 count) ≡ flat_map (reduced_row Minimum ty) (lists count size es)
least_across laws ty T start count size es e s some whole all =
    wrapped_lists T int_min start least count size es
    (λ n below.
    let xs : List ℤ = nth_list size es n in
    let h : HasSome ty xs = has_some ty count size n es below some whole all in
    ap₂ (λ (t : Ty) (z : ℤ). wrapped t (fold int_min z xs)) e s ∙ least_from laws ty xs h.some h.in_range)
