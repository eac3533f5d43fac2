-- Runs along dimension 0, and blocks made of them.
use Rattle.std.proofs.Common.{◌≡◌, ℕ, ◌+◌, ◌-◌, ◌*◌, ◌/◌, ◌%◌, ◌<◌, ◌≤◌, ℤ, pos, negsuc, ◌+ℤ◌, ◌*ℤ◌, ◌≤ℤ◌, ◌<ℤ◌, List, [], ◌∷◌, ◌++◌, length, take, get_or, refl, ap, ap₂, sym, ◌∙◌, subst, arith, to_z, of_z, Fits, FitsSigned, div-add-mod', mod-lt, inl, inr, All}
use Rattle.std.proofs.lemmas.Int.{ints, to_z-of_z, to_z_pos}
use Rattle.std.proofs.Math.IntN.{negsuc-*ℤ-pos, +ℤ_assoc}
use Rattle.std.proofs.lemmas.Bool.{cases_lt}
use Rattle.std.proofs.lemmas.List.{get_or-take, length-take-le, get_or_append_left, get_or-append_right}
use Rattle.std.proofs.lemmas.Nat.{div-mul-add, mod-mul-add}
use Rattle.std.proofs.lemmas.Slice.{take-put_mid}
use Rattle.std.proofs.lemmas.List.Elements.{All-get_or, All-from_get_or}
use Rattle.std.proofs.Math.Nat.{add-mul, mul-le-mul}
use Rattle.std.specs.Int.{w32, w64}
use Rattle.std.specs.Int.Signed.{non_neg}
use Rattle.std.specs.Prelude.{T}
use Rattle.std.specs.Int.RustNames.{unsigned_abs}
use Rattle.pdl_elem.specs.declared.Ty.{Ty}
use Rattle.pdl_elem.specs.Types.{InRange}
use Rattle.pdl_shape.specs.Laws.{PositionLaws}
use Rattle.pdl_shape.specs.Shape.{size_of, coordinates_of}
use Rattle.pdl_shape.specs.Triple.{Triple, IsPlace, IsTriple, Reaches, moved}
use Rattle.pdl_numbers.specs.Reads.{IsInside, LiesInside, HasRead, HasStepped, LieAcross, across}
use Rattle.pdl_numbers.specs.Shown.{IsInOrder, place_at}
use Rattle.pdl_numbers.proofs.ShownInOrder.{in_order_at}
use Rattle.pdl_numbers.proofs.ShownWalks.{step_bound, step_fits, IsShown, shown_at}
use borrow.Rule.Slice.PartMut.{put_mid}

-- ---- what the words of one step hold

small_fits : (z : ℤ) → pos 0 ≤ℤ z → z <ℤ pos 1048576 → FitsSigned w64 z
small_fits (pos n) h k = record { sfits = omega (arith, ints) }
small_fits (negsuc n) h k = absurd h.le

pub product_word : (z from : ℤ) (j : ℕ) → FitsSigned w32 z → FitsSigned w64 from → from ≡ z → j < 1048576
    → to_z w64 (of_z w64 from) *ℤ to_z w64 j ≡ z *ℤ pos j
product_word z from j f g e h = ap₂ (λ x y. x *ℤ y) (to_z-of_z w64 from g ∙ e) (to_z_pos w64 j (omega arith))

pub step_word : (z from : ℤ) (j : ℕ) → FitsSigned w32 z → FitsSigned w64 from → from ≡ z → j < 1048576
    → to_z w64 (of_z w64 (to_z w64 (of_z w64 from) *ℤ to_z w64 j)) ≡ z *ℤ pos j
step_word z from j f g e h =
    ap (λ s. to_z w64 (of_z w64 s)) (product_word z from j f g e h) ∙ to_z-of_z w64 (z *ℤ pos j) (step_fits (z *ℤ pos j) (step_bound z j f h))

-- the place so many steps after another
pub place_word : (f g z : ℤ) (place j : ℕ) → FitsSigned w32 z → FitsSigned w64 f → FitsSigned w64 g → f ≡ z → g ≡ pos place → j < 1048576
    → IsPlace (pos place +ℤ z *ℤ pos j)
    → to_z w64 (of_z w64 (to_z w64 (of_z w64 g) +ℤ to_z w64 (of_z w64 (to_z w64 (of_z w64 f) *ℤ to_z w64 j)))) ≡ pos place +ℤ z *ℤ pos j
place_word f g z place j fz ff fg e h small at =
    ap₂ (λ x y. to_z w64 (of_z w64 (x +ℤ y))) (to_z-of_z w64 g fg ∙ h) (step_word z f j fz ff e small)
    ∙ to_z-of_z w64 (pos place +ℤ z *ℤ pos j) (small_fits _ at.low at.high)

-- a place is a natural number, and fits the words
pub place_fits : (z : ℤ) → IsPlace z → T (non_neg z) × Fits w64 (unsigned_abs z)
place_fits (pos n) i = (tt, record { fits = omega (arith, ints, i.high) })
place_fits (negsuc n) i = absurd i.low.le

pub place_narrow : (z : ℤ) → IsPlace z → unsigned_abs z < 1048576
place_narrow (pos n) i = omega (arith, ints, i.high)
place_narrow (negsuc n) i = absurd i.low.le

pub natural_place : (k : ℕ) (z : ℤ) → z ≡ pos k → unsigned_abs z ≡ k
natural_place k z e = ap unsigned_abs e

pub inside_below : (n : ℕ) (z : ℤ) → IsInside n z → unsigned_abs z < n
inside_below n (pos m) i = omega (arith, ints, i.high)
inside_below n (negsuc m) i = absurd i.place.low.le

-- ---- one row

-- so many places on in the same row
row_kept : (p d j : ℕ) → p % d + j < d → ((p + j) / d ≡ p / d) × ((p + j) % d ≡ p % d + j)
row_kept p d j h =
    let e : p + j ≡ p / d * d + (p % d + j) = omega (arith, div-add-mod' p d) in
    (ap (λ x. x / d) e ∙ div-mul-add (p / d) d (p % d + j) h, ap (λ x. x % d) e ∙ mod-mul-add (p / d) d (p % d + j) h)

parts_of : (z : ℤ) (c j : ℕ) → z *ℤ pos (c + j) ≡ (z *ℤ pos c) +ℤ (z *ℤ pos j)
parts_of (pos n) c j = omega (arith, ints)
parts_of (negsuc n) c j = omega (arith, ints, negsuc-*ℤ-pos n (c + j), negsuc-*ℤ-pos n c, negsuc-*ℤ-pos n j)

spread_out : (z m : ℤ) (c j : ℕ) → (z *ℤ pos (c + j)) +ℤ m ≡ ((z *ℤ pos c) +ℤ m) +ℤ z *ℤ pos j
spread_out z m c j = omega (arith, ints, parts_of z c j)

pub row_moved : (is : List ℤ) (ds : List ℕ) (p j : ℕ) → length is ≡ length ds → p % get_or ds 0 1 + j < get_or ds 0 1
    → moved is (coordinates_of ds (p + j)) ≡ moved is (coordinates_of ds p) +ℤ get_or is 0 (pos 0) *ℤ pos j
row_moved [] [] p j e h = grind (arith, ints)
row_moved [] (d ∷ ds) p j e h = absurd (omega arith)
row_moved (i ∷ is) [] p j e h = absurd (omega arith)
row_moved (i ∷ is) (d ∷ ds) p j e h =
    let k = row_kept p d j h in
    ap₂ (λ q c. (i *ℤ pos c) +ℤ moved is (coordinates_of ds q)) k.0 k.1
    ∙ spread_out i (moved is (coordinates_of ds (p / d))) (p % d) j

-- the place so many on in the row of a position is that of the position so many on
pub record Runs (t : Triple) (n p j : ℕ) : Type 0 where
  pub is : pos (place_at t p) +ℤ get_or t.incs 0 (pos 0) *ℤ pos j ≡ pos (place_at t (p + j))
  pub below : place_at t (p + j) < n
  pub small : place_at t (p + j) < 1048576

pub run_at : PositionLaws → (t : Triple) (n p j : ℕ) → IsTriple t → Reaches t n → p + j < size_of t.dims → p % get_or t.dims 0 1 + j < get_or t.dims 0 1 → Runs t n p j
run_at laws t n p j ok reach h row =
    let s : IsShown t n (p + j) = shown_at laws t n (p + j) ok reach h in
    let b : IsShown t n p = shown_at laws t n p ok reach (omega arith) in
    let e : moved t.incs (coordinates_of t.dims (p + j)) ≡ moved t.incs (coordinates_of t.dims p) +ℤ get_or t.incs 0 (pos 0) *ℤ pos j = row_moved t.incs t.dims p j ok.paired row in
    record {
      is = omega (arith, ints, e, s.is, b.is);
      below = s.below;
      small = s.small;
    }

pub run_inside : (t : Triple) (n p j : ℕ) → Runs t n p j → IsInside n (pos (place_at t p) +ℤ get_or t.incs 0 (pos 0) *ℤ pos j)
run_inside t n p j r = subst (λ z. IsInside n z) (sym r.is) (record { place = record { low = omega (arith, ints); high = omega (arith, ints, r.small) }; high = omega (arith, ints, r.below) })

-- where a step along a row goes to the next place, so many on in the row are so many places on
pub beside_in_row : PositionLaws → (t : Triple) (p j width : ℕ) → IsTriple t → p + j < size_of t.dims → width ≡ get_or t.dims 0 1 → p % width + j < width → get_or t.incs 0 (pos 0) ≡ pos 1
    → place_at t (p + j) ≡ place_at t p + j
beside_in_row laws t p j width ok h wide row one =
    let r : Runs t 1048576 p j = run_at laws t 1048576 p j ok (λ cs w. (ok.reachable cs w).high) h (subst (λ (w : ℕ). p % w + j < w) wide row) in
    let next : pos (place_at t p) +ℤ pos 1 *ℤ pos j ≡ pos (place_at t (p + j)) = subst (λ (z : ℤ). pos (place_at t p) +ℤ z *ℤ pos j ≡ pos (place_at t (p + j))) one r.is in
    omega (arith, ints, next)

-- ---- whole rows

-- so many rows on in the same plane
rows_on : (p d r : ℕ) → 0 < d → ((p + r * d) / d ≡ p / d + r) × ((p + r * d) % d ≡ p % d)
rows_on p d r h =
    let e : p + r * d ≡ (p / d + r) * d + p % d = omega (arith, div-add-mod' p d, add-mul (p / d) r d) in
    (ap (λ x. x / d) e ∙ div-mul-add (p / d + r) d (p % d) (mod-lt p h), ap (λ x. x % d) e ∙ mod-mul-add (p / d + r) d (p % d) (mod-lt p h))

pub rows_moved : (is : List ℤ) (ds : List ℕ) (p r : ℕ) → length is ≡ length ds → 0 < get_or ds 0 1 → (p / get_or ds 0 1) % get_or ds 1 1 + r < get_or ds 1 1
    → moved is (coordinates_of ds (p + r * get_or ds 0 1)) ≡ moved is (coordinates_of ds p) +ℤ get_or is 1 (pos 0) *ℤ pos r
rows_moved [] [] p r e some h = grind (arith, ints)
rows_moved [] (d ∷ ds) p r e some h = absurd (omega arith)
rows_moved (i ∷ is) [] p r e some h = absurd (omega arith)
rows_moved (i ∷ is) (d ∷ ds) p r e some h =
    let k = rows_on p d r some in
    ap₂ (λ q c. (i *ℤ pos c) +ℤ moved is (coordinates_of ds q)) k.0 k.1
    ∙ ap (λ m. (i *ℤ pos (p % d)) +ℤ m) (row_moved is ds (p / d) r (omega arith) h)
    ∙ sym (+ℤ_assoc (i *ℤ pos (p % d)) (moved is (coordinates_of ds (p / d))) (get_or is 0 (pos 0) *ℤ pos r))

-- the place so many rows on in the same plane
pub rows_at : PositionLaws → (t : Triple) (n p r : ℕ) → IsTriple t → Reaches t n → p < size_of t.dims → p + r * get_or t.dims 0 1 < size_of t.dims → 0 < get_or t.dims 0 1
    → (p / get_or t.dims 0 1) % get_or t.dims 1 1 + r < get_or t.dims 1 1
    → pos (place_at t p) +ℤ get_or t.incs 1 (pos 0) *ℤ pos r ≡ pos (place_at t (p + r * get_or t.dims 0 1))
rows_at laws t n p r ok reach here there some plane =
    let s : IsShown t n (p + r * get_or t.dims 0 1) = shown_at laws t n (p + r * get_or t.dims 0 1) ok reach there in
    let b : IsShown t n p = shown_at laws t n p ok reach here in
    let e = rows_moved t.incs t.dims p r ok.paired some plane in
    omega (arith, ints, e, s.is, b.is)

-- the first two dimensions of an array that has elements have some
pub first_some : PositionLaws → (ds : List ℕ) (p : ℕ) → p < size_of ds → 0 < get_or ds 0 1
first_some laws [] p h = omega arith
first_some laws (d ∷ ds) p h = (laws.quotient_below d ds p h).0

-- the place so many steps along dimension 1 after that of a position
pub record Across (t : Triple) (n p j : ℕ) : Type 0 where
  pub is : pos (place_at t p) +ℤ get_or t.incs 1 (pos 0) *ℤ pos j ≡ pos (place_at t (across t.dims p j))
  pub below : place_at t (across t.dims p j) < n
  pub inside : IsInside n (pos (place_at t p) +ℤ get_or t.incs 1 (pos 0) *ℤ pos j)

pub across_at : PositionLaws → (t : Triple) (n p j count : ℕ) → IsTriple t → Reaches t n → p < size_of t.dims → across t.dims p j < size_of t.dims → LieAcross t.dims p count → j < count → Across t n p j
across_at laws t n p j count ok reach here there along h =
    let s : IsShown t n (across t.dims p j) = shown_at laws t n (across t.dims p j) ok reach there in
    let e : pos (place_at t p) +ℤ get_or t.incs 1 (pos 0) *ℤ pos j ≡ pos (place_at t (across t.dims p j)) =
    rows_at laws t n p j ok reach here there (first_some laws t.dims p here) (omega arith) in
    record {
      is = e;
      below = s.below;
      inside = subst (λ z. IsInside n z) (sym e) (record { place = record { low = omega (arith, ints); high = omega (arith, ints, s.small) }; high = omega (arith, ints, s.below) });
    }

-- row r of the rows from a position on, where one starts
pub record IsRow (t : Triple) (p r count width : ℕ) (z : ℤ) : Type 0 where
  pub fits : r * width + width ≤ count
  pub is : z ≡ pos (place_at t (p + r * width))
  pub place : IsPlace z
  pub starts : (p + r * width) % width ≡ 0
  pub small : r < 1048576

pub row_is : PositionLaws → (t : Triple) (n p r rows count : ℕ) (place : ℕ) (step : ℤ) → IsTriple t → Reaches t n → size_of t.dims ≤ 1048576
    → place ≡ place_at t p → step ≡ get_or t.incs 1 (pos 0) → r < rows → count ≡ rows * get_or t.dims 0 1 → p + count ≤ size_of t.dims → p < size_of t.dims → p % get_or t.dims 0 1 ≡ 0
    → (p / get_or t.dims 0 1) % get_or t.dims 1 1 + rows ≤ get_or t.dims 1 1 → IsRow t p r count (get_or t.dims 0 1) (pos place +ℤ step *ℤ pos r)
row_is laws t n p r rows count place step ok reach few at along h long within some start plane =
    let w : ℕ = get_or t.dims 0 1 in
    let wide : 0 < w = first_some laws t.dims p some in
    let next : r * w + w ≤ rows * w = omega (arith, mul-le-mul {n₁ = r + 1} {m₁ = w} {n₂ = rows} {m₂ = w} (omega arith) (omega arith), add-mul r 1 w) in
    let many : r * 1 ≤ r * w = mul-le-mul {n₁ = r} {m₁ = 1} {n₂ = r} {m₂ = w} (omega arith) (omega arith) in
    let there : p + r * w < size_of t.dims = omega arith in
    let e : pos (place_at t p) +ℤ get_or t.incs 1 (pos 0) *ℤ pos r ≡ pos (place_at t (p + r * w)) = rows_at laws t n p r ok reach some there wide (omega arith) in
    let is : pos place +ℤ step *ℤ pos r ≡ pos (place_at t (p + r * w)) = ap₂ (λ k z. pos k +ℤ z *ℤ pos r) at along ∙ e in
    let s : IsShown t n (p + r * w) = shown_at laws t n (p + r * w) ok reach there in
    record {
      fits = omega arith;
      is = is;
      place = subst IsPlace (sym is) (record { low = omega (arith, ints); high = omega (arith, ints, s.small) });
      starts = (rows_on p w r wide).1 ∙ start;
      small = omega arith;
    }

-- ---- blocks of runs

-- a part put behind what was read, of which the first numbers were read
pub read_more : (t : Triple) (es into part : List ℤ) (first done run n : ℕ) → run ≤ n → done + n ≤ length into → length part ≡ n
    → HasRead t es first done into
    → ((j : ℕ) → j < run → get_or part j (pos 0) ≡ get_or es (place_at t (first + done + j)) (pos 0))
    → HasRead t es first (done + run) (put_mid done n into part)
read_more t es into part first done run n few fits long before here k h =
    let all : take (done + n) (put_mid done n into part) ≡ take done into ++ part = take-put_mid done n into part (done + n) (omega arith) (omega arith) in
    let l : length (take done into) ≡ done = length-take-le done into (omega arith) in
    sym (get_or-take (done + n) (put_mid done n into part) k (pos 0) (omega arith))
    ∙ ap (λ xs. get_or xs k (pos 0)) all
    ∙ elim (cases_lt k done) [
      | inl low ↦ get_or_append_left (take done into) part (pos 0) k (omega arith) ∙ get_or-take done into k (pos 0) low ∙ before k low
      | inr high ↦
          let back : first + done + (k - done) ≡ first + k = omega arith in
          get_or-append_right (take done into) part done k (pos 0) l high ∙ here (k - done) (omega arith) ∙ ap (λ p. get_or es (place_at t p) (pos 0)) back
    ]

pub block_in_range : PositionLaws → (ty : Ty) (t : Triple) (es rs : List ℤ) (first count : ℕ) → IsTriple t → Reaches t (length es) → first + count ≤ size_of t.dims → length rs ≡ count
    → All (InRange ty) es → HasRead t es first count rs → All (InRange ty) rs
block_in_range laws ty t es rs first count ok reach fits long all read =
    All-from_get_or (InRange ty) rs (pos 0)
    (λ k h. subst (λ z. InRange ty z) (sym (read k (omega arith)))
    (All-get_or (InRange ty) es (place_at t (first + k)) (pos 0) (shown_at laws t (length es) (first + k) ok reach (omega arith)).below all))

-- a block of neighbours
pub record Neighbours (t : Triple) (es : List ℤ) (first start n : ℕ) : Type 0 where
  pub inside : start + n ≤ length es
  pub here : (k : ℕ) → k < n → start + k ≡ place_at t (first + k)

pub neighbours : PositionLaws → (t : Triple) (es : List ℤ) (first start n : ℕ) → IsTriple t → Reaches t (length es) → IsInOrder 1 t.incs t.dims → first + n ≤ size_of t.dims → 0 < n → start ≡ place_at t first → Neighbours t es first start n
neighbours laws t es first start n ok reach o fits some e =
    let first_is : place_at t first ≡ t.offset + first = in_order_at laws t first o (omega arith) in
    let last_is : place_at t (first + (n - 1)) ≡ t.offset + (first + (n - 1)) = in_order_at laws t (first + (n - 1)) o (omega arith) in
    let last : IsShown t (length es) (first + (n - 1)) = shown_at laws t (length es) (first + (n - 1)) ok reach (omega arith) in
    record {
      inside = omega (arith, last.below);
      here = λ k h.
          let is : place_at t (first + k) ≡ t.offset + (first + k) = in_order_at laws t (first + k) o (omega arith) in
          omega arith;
    }

-- a place of a run, and the number there
pub run_fits : PositionLaws → (t : Triple) (es numbers : List ℤ) (place : ℕ) (inc : ℤ) (p j width : ℕ) → IsTriple t → Reaches t (length es) → numbers ≡ es → place ≡ place_at t p → inc ≡ get_or t.incs 0 (pos 0) → width ≡ get_or t.dims 0 1
    → p + j < size_of t.dims → p % width + j < width → IsInside (length numbers) (pos place +ℤ inc *ℤ pos j)
run_fits laws t es numbers place inc p j width ok reach same at along across h row =
    let r : Runs t (length es) p j = run_at laws t (length es) p j ok reach h (subst (λ w. p % w + j < w) across row) in
    subst (λ (xs : List ℤ). IsInside (length xs) (pos place +ℤ inc *ℤ pos j)) (sym same)
    (subst (λ n. IsInside (length es) (pos n +ℤ inc *ℤ pos j)) (sym at) (subst (λ z. IsInside (length es) (pos (place_at t p) +ℤ z *ℤ pos j)) (sym along) (run_inside t (length es) p j r)))

pub run_element : PositionLaws → (t : Triple) (es numbers : List ℤ) (place : ℕ) (inc : ℤ) (p j width : ℕ) → IsTriple t → Reaches t (length es) → numbers ≡ es → place ≡ place_at t p → inc ≡ get_or t.incs 0 (pos 0) → width ≡ get_or t.dims 0 1
    → p + j < size_of t.dims → p % width + j < width → get_or numbers (unsigned_abs (pos place +ℤ inc *ℤ pos j)) (pos 0) ≡ get_or es (place_at t (p + j)) (pos 0)
run_element laws t es numbers place inc p j width ok reach same at along across h row =
    let r : Runs t (length es) p j = run_at laws t (length es) p j ok reach h (subst (λ w. p % w + j < w) across row) in
    ap (λ (xs : List ℤ). get_or xs (unsigned_abs (pos place +ℤ inc *ℤ pos j)) (pos 0)) same
    ∙ ap (λ (z : ℤ). get_or es (unsigned_abs z) (pos 0)) (ap₂ (λ n z. pos n +ℤ z *ℤ pos j) at along ∙ r.is)

-- ---- rows side by side

-- all places of a whole row are there
pub row_fits : PositionLaws → (t : Triple) (es : List ℤ) (place : ℕ) (inc : ℤ) (p width : ℕ) → IsTriple t → Reaches t (length es) → place ≡ place_at t p → inc ≡ get_or t.incs 0 (pos 0) → width ≡ get_or t.dims 0 1
    → p % width ≡ 0 → p + width ≤ size_of t.dims → LiesInside (length es) place inc width
row_fits laws t es place inc p width ok reach at along wide start within j h = run_fits laws t es es place inc p j width ok reach refl at along wide (omega arith) (omega (arith, start))

-- what stands in a run of places is a whole row
pub row_read : PositionLaws → (t : Triple) (es xs : List ℤ) (place : ℕ) (inc : ℤ) (p width : ℕ) → IsTriple t → Reaches t (length es) → place ≡ place_at t p → inc ≡ get_or t.incs 0 (pos 0) → width ≡ get_or t.dims 0 1
    → p % width ≡ 0 → p + width ≤ size_of t.dims → HasStepped es place inc width xs → HasRead t es p width xs
row_read laws t es xs place inc p width ok reach at along wide start within stepped j h =
    stepped j h ∙ run_element laws t es es place inc p j width ok reach refl at along wide (omega arith) (omega (arith, start))

-- what was read, and what was read behind it
pub read_both : (t : Triple) (es xs ys : List ℤ) (first n m : ℕ) → length xs ≡ n → HasRead t es first n xs → HasRead t es (first + n) m ys → HasRead t es first (n + m) (xs ++ ys)
read_both t es xs ys first n m long before behind k h =
    elim (cases_lt k n) [
      | inl low ↦ get_or_append_left xs ys (pos 0) k (omega arith) ∙ before k low
      | inr high ↦
          let back : first + n + (k - n) ≡ first + k = omega arith in
          get_or-append_right xs ys n k (pos 0) long high ∙ behind (k - n) (omega arith) ∙ ap (λ p. get_or es (place_at t p) (pos 0)) back
    ]

-- four whole rows from a position on, where one starts, lie in one plane; the first starts at a place
pub record FourRows (t : Triple) (es : List ℤ) (p count place : ℕ) (step inc : ℤ) : Type 0 where
  pub laws : PositionLaws
  pub sound : IsTriple t
  pub reaches : Reaches t (length es)
  pub small : size_of t.dims ≤ 1048576
  pub first : place ≡ place_at t p
  pub along : step ≡ get_or t.incs 1 (pos 0)
  pub across : inc ≡ get_or t.incs 0 (pos 0)
  pub counted : count ≡ 4 * get_or t.dims 0 1
  pub within : p + count ≤ size_of t.dims
  pub some : p < size_of t.dims
  pub starts : p % get_or t.dims 0 1 ≡ 0
  pub plane : (p / get_or t.dims 0 1) % get_or t.dims 1 1 + 4 ≤ get_or t.dims 1 1

pub row_of : (t : Triple) (es : List ℤ) (p count place : ℕ) (step inc : ℤ) → FourRows t es p count place step inc → (r : ℕ) → r < 4 → IsRow t p r count (get_or t.dims 0 1) (pos place +ℤ step *ℤ pos r)
row_of t es p count place step inc f r h = row_is f.laws t (length es) p r 4 count place step f.sound f.reaches f.small f.first f.along h f.counted f.within f.some f.starts f.plane

-- the places of row r, which starts so many steps after the first
pub row_inside : (t : Triple) (es : List ℤ) (p count place : ℕ) (step inc : ℤ) → FourRows t es p count place step inc → (r start n : ℕ) → r < 4
    → start ≡ unsigned_abs (pos place +ℤ step *ℤ pos r) → n ≡ get_or t.dims 0 1 → LiesInside (length es) start inc n
row_inside t es p count place step inc f r start n h at wide =
    let w : ℕ = get_or t.dims 0 1 in
    let row : IsRow t p r count w (pos place +ℤ step *ℤ pos r) = row_of t es p count place step inc f r h in
    subst (λ (m : ℕ). LiesInside (length es) start inc m) (sym wide)
    (row_fits f.laws t es start inc (p + r * w) w f.sound f.reaches (at ∙ natural_place _ _ row.is) f.across refl row.starts (omega (arith, row.fits, f.within)))

-- and what stands there
pub row_there : (t : Triple) (es xs : List ℤ) (p count place : ℕ) (step inc : ℤ) → FourRows t es p count place step inc → (r start n : ℕ) → r < 4
    → start ≡ unsigned_abs (pos place +ℤ step *ℤ pos r) → n ≡ get_or t.dims 0 1 → HasStepped es start inc n xs → HasRead t es (p + r * get_or t.dims 0 1) (get_or t.dims 0 1) xs
row_there t es xs p count place step inc f r start n h at wide stepped =
    let w : ℕ = get_or t.dims 0 1 in
    let row : IsRow t p r count w (pos place +ℤ step *ℤ pos r) = row_of t es p count place step inc f r h in
    row_read f.laws t es xs start inc (p + r * w) w f.sound f.reaches (at ∙ natural_place _ _ row.is) f.across refl row.starts (omega (arith, row.fits, f.within)) (subst (λ (m : ℕ). HasStepped es start inc m xs) wide stepped)

-- the place no step after another
pub no_step : (place : ℕ) (step : ℤ) → place ≡ unsigned_abs (pos place +ℤ step *ℤ pos 0)
no_step place (pos n) = grind (arith, ints)
no_step place (negsuc n) = grind (arith, ints)

-- four rows, one behind another
pub four_rows : (t : Triple) (es ws xs ys zs : List ℤ) (p w : ℕ) → length ws ≡ w → length xs ≡ w → length ys ≡ w
    → HasRead t es (p + 0 * w) w ws → HasRead t es (p + 1 * w) w xs → HasRead t es (p + 2 * w) w ys → HasRead t es (p + 3 * w) w zs
    → HasRead t es p (4 * w) (ws ++ (xs ++ (ys ++ zs)))
four_rows t es ws xs ys zs p w k m n first second third fourth =
    let fourth_at : p + 3 * w ≡ p + 2 * w + w = omega arith in
    let third_at : p + 2 * w ≡ p + 1 * w + w = omega arith in
    let second_at : p + 1 * w ≡ p + w = omega arith in
    let first_at : p + 0 * w ≡ p = omega arith in
    let all : w + (w + (w + w)) ≡ 4 * w = omega arith in
    subst (λ (count : ℕ). HasRead t es p count (ws ++ (xs ++ (ys ++ zs)))) all
    (read_both t es ws (xs ++ (ys ++ zs)) p w (w + (w + w)) k (subst (λ (q : ℕ). HasRead t es q w ws) first_at first)
    (subst (λ (q : ℕ). HasRead t es q (w + (w + w)) (xs ++ (ys ++ zs))) second_at
    (read_both t es xs (ys ++ zs) (p + 1 * w) w (w + w) m second
    (subst (λ (q : ℕ). HasRead t es q (w + w) (ys ++ zs)) third_at
    (read_both t es ys zs (p + 2 * w) w w n third
    (subst (λ (q : ℕ). HasRead t es q w zs) fourth_at fourth))))))
