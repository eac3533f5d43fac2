-- Numbers that are copied from one run to another.
use Rattle.std.proofs.Common.{◌≡◌, ℕ, ◌+◌, ◌-◌, ◌*◌, ◌<◌, ◌≤◌, ℤ, pos, ◌+ℤ◌, ◌*ℤ◌, List, [], length, map, take, drop, get_or, arith, ap, ap₂, sym, ◌∙◌}
use Rattle.std.specs.Prelude.{Option, None, Some, slice_set, unsigned_abs}
use Rattle.std.specs.List.{range_with_len}
use Rattle.std.proofs.lemmas.List.{ext_get_or, get_or-drop, get_or-map, get_or-take, get_or_default, length-drop, length-map, length-take-le, map-set}
use Rattle.std.proofs.lemmas.List.FromFn.{length-map-range_with_len, get_or-map-range_with_len}
use Rattle.std.proofs.lemmas.Simd.{map-map}
use Rattle.pdl_elem.specs.declared.Ty.{Ty}
use Rattle.pdl_lemmas.specs.Lists.{map-range_same}
use Rattle.pdl_shape.specs.Places.{element_at, read, write}
use Rattle.pdl_shape.specs.Shape.{size_of}
use Rattle.pdl_shape.specs.Triple.{Triple}
use Rattle.pdl_numbers.specs.Bytes.{ArePacked, bytes_of, number_of}
use Rattle.pdl_numbers.specs.Reads.{LiesInside}
use Rattle.pdl_numbers.specs.Shown.{place_at, shown_through}
use Rattle.pdl_numbers.specs.Writes.{placed_from, stepped}
use Rattle.pdl_numbers.proofs.PlaceLists.{block_map, put_more}
use Rattle.pdl_numbers.proofs.PlacedCells.{cell_here}
use Rattle.pdl_numbers.proofs.ReadRuns.{inside_below}
use Rattle.pdl_numbers.proofs.WriteRuns.{placed_part, run_more}

-- ---- a run of places

pub length_stepped : (place : ℕ) (inc : ℤ) (n : ℕ) → length (stepped place inc n) ≡ n
length_stepped place inc n = length-map-range_with_len (λ j. Some (unsigned_abs (pos place +ℤ inc *ℤ pos j))) 0 n

pub place_stepped : (place : ℕ) (inc : ℤ) (n j : ℕ) → j < n → get_or (stepped place inc n) j None ≡ Some (unsigned_abs (pos place +ℤ inc *ℤ pos j))
place_stepped place inc n j h = get_or-map-range_with_len (λ j. Some (unsigned_abs (pos place +ℤ inc *ℤ pos j))) 0 n j j None h (omega arith)

pub length_read : (place : ℕ) (inc : ℤ) (n : ℕ) (es : List ℤ) → length (read (stepped place inc n) es) ≡ n
length_read place inc n es = length-map (stepped place inc n) (element_at es) ∙ length_stepped place inc n

pub read_stepped : (place : ℕ) (inc : ℤ) (n j : ℕ) (es : List ℤ) → j < n → get_or (read (stepped place inc n) es) j (pos 0) ≡ get_or es (unsigned_abs (pos place +ℤ inc *ℤ pos j)) (pos 0)
read_stepped place inc n j es h =
    get_or-map (element_at es) (stepped place inc n) j None (pos 0) (omega (arith, length_stepped place inc n)) ∙ ap (element_at es) (place_stepped place inc n j h)

-- ---- cells

-- cells that are those of a run are the bytes of the numbers there
pub cells_copied : (t : Ty) (from new : List (List ℕ)) (place : ℕ) (inc : ℤ) (n : ℕ) → ArePacked t from → length new ≡ n → LiesInside (length from) place inc n
    → ((j : ℕ) → j < n → get_or new j [] ≡ get_or from (unsigned_abs (pos place +ℤ inc *ℤ pos j)) [])
    → new ≡ map (bytes_of t) (read (stepped place inc n) (map (number_of t) from))
cells_copied t from new place inc n packed long inside each =
    let es : List ℤ = map (number_of t) from in
    let vs : List ℤ = read (stepped place inc n) es in
    let many : length vs ≡ n = length_read place inc n es in
    ext_get_or [] new (map (bytes_of t) vs) (long ∙ sym (length-map vs (bytes_of t) ∙ many)) (λ j l.
    let low : j < n = omega (arith, long) in
    let p : ℕ = unsigned_abs (pos place +ℤ inc *ℤ pos j) in
    let below : p < length from = inside_below (length from) (pos place +ℤ inc *ℤ pos j) (inside j low) in
    each j low
    ∙ cell_here t from p (get_or from p []) below (get_or_default from p [] (get_or from p []) below) packed
    ∙ ap (bytes_of t) (sym (read_stepped place inc n j es low))
    ∙ sym (get_or-map (bytes_of t) vs j (pos 0) [] (omega (arith, many))))

-- neighbours
pub neighbours_copied : (t : Ty) (from new : List (List ℕ)) (place : ℕ) (inc : ℤ) (n width : ℕ) → inc ≡ pos 1 → width ≡ n → ArePacked t from → length new ≡ n → LiesInside (length from) place inc n
    → new ≡ take width (drop place from) → new ≡ map (bytes_of t) (read (stepped place inc n) (map (number_of t) from))
neighbours_copied t from new place inc n width one wide packed long inside is =
    cells_copied t from new place inc n packed long inside (λ j h.
    let on : place + j ≡ place + 1 * j = omega arith in
    ap (λ (cells : List (List ℕ)). get_or cells j []) (is ∙ ap (λ k. take k (drop place from)) wide)
    ∙ get_or-take n (drop place from) j [] h ∙ get_or-drop place from j []
    ∙ ap (λ k. get_or from k []) on
    ∙ sym (ap (λ z. get_or from (unsigned_abs (pos place +ℤ z *ℤ pos j)) []) one))

-- a part of the cells
pub part_long : (cells : List (List ℕ)) (start count n : ℕ) → length cells ≡ n → start + count ≤ n → length (take (start + count - start) (drop start cells)) ≡ count
part_long cells start count n many fits =
    let wide : start + count - start ≡ count = omega arith in
    ap (λ k. length (take k (drop start cells))) wide ∙ length-take-le count (drop start cells) (omega (arith, length-drop start cells, many))

-- the run of cells that stand for these numbers
pub run_copied : (t : Ty) (now cells new : List (List ℕ)) (ns : List ℤ) (place : ℕ) (z inc : ℤ) (n count : ℕ) → z ≡ inc → n ≡ count → now ≡ cells → map (number_of t) cells ≡ ns
    → new ≡ map (bytes_of t) (read (stepped place z n) (map (number_of t) now)) → new ≡ map (bytes_of t) (read (stepped place inc count) ns)
run_copied t now cells new ns place z inc n count e many same are made =
    made ∙ ap₂ (λ y k. map (bytes_of t) (read (stepped place y k) (map (number_of t) now))) e many
    ∙ ap (λ (es : List ℤ). map (bytes_of t) (read (stepped place inc count) es)) (ap (map (number_of t)) same ∙ are)

-- one cell more of a run
pub cell_copied : (t : Ty) (from cells : List (List ℕ)) (first place : ℕ) (step inc : ℤ) (n j q p : ℕ) (cell : List ℕ) (all : List ℤ) → j < n → q < length from
    → q ≡ unsigned_abs (pos first +ℤ step *ℤ pos j) → p ≡ unsigned_abs (pos place +ℤ inc *ℤ pos j) → cell ≡ get_or from q cell
    → write (drop j (stepped place inc n)) (drop j (read (stepped first step n) (map (number_of t) from))) (map (number_of t) cells) ≡ all
    → write (drop (j + 1) (stepped place inc n)) (drop (j + 1) (read (stepped first step n) (map (number_of t) from))) (map (number_of t) (slice_set cells p cell)) ≡ all
cell_copied t from cells first place step inc n j q p cell all h below from_at at is before =
    let es : List ℤ = map (number_of t) from in
    let vs : List ℤ = read (stepped first step n) es in
    let here : number_of t cell ≡ get_or vs j (pos 0) =
    ap (number_of t) is ∙ sym (get_or-map (number_of t) from q cell (pos 0) below) ∙ ap (λ k. get_or es k (pos 0)) from_at ∙ sym (read_stepped first step n j es h) in
    put_more (stepped place inc n) vs (map (number_of t) cells) (map (number_of t) (slice_set cells p cell)) j (Some p) (number_of t cell) all (omega (arith, length_stepped place inc n)) (omega (arith, length_read first step n es))
    (ap Some at ∙ sym (place_stepped place inc n j h)) here (map-set (number_of t) cells p cell) before

-- ---- what a triple shows

-- a part of what is read at the places that a triple shows
pub read_part : (t : Triple) (es : List ℤ) (first d r n : ℕ) → d + r ≤ n → read (placed_from t (first + d) r) es ≡ take r (drop d (read (placed_from t first n) es))
read_part t es first d r n fits =
    ap (λ (ps : List (Option ℕ)). read ps es) (sym (placed_part t first d r n fits)) ∙ block_map (element_at es) (placed_from t first n) d r

pub length_placed : (t : Triple) (es : List ℤ) (first n : ℕ) → length (read (placed_from t first n) es) ≡ n
length_placed t es first n = length-map (placed_from t first n) (element_at es) ∙ length-map-range_with_len (λ p. Some (place_at t (first + p))) 0 n

-- all that is read there is what the triple shows
pub read_shown : (t : Triple) (es : List ℤ) → read (placed_from t 0 (size_of t.dims)) es ≡ shown_through t es
read_shown t es =
    let n : ℕ = size_of t.dims in
    let same : placed_from t 0 n ≡ map (λ p. Some (place_at t p)) (range_with_len 0 n) = map-range_same (λ p. Some (place_at t (0 + p))) (λ p. Some (place_at t p)) n None (λ k h. (let e : 0 + k ≡ k = omega arith in ap (λ p. Some (place_at t p)) e)) in
    ap (λ (ps : List (Option ℕ)). read ps es) same ∙ map-map (element_at es) (λ p. Some (place_at t p)) (range_with_len 0 n)

-- one row more
pub row_copied : (to shown : Triple) (d r n p : ℕ) (from es new all : List ℤ) → d + r ≤ n → p ≡ d → new ≡ write (placed_from to p r) (read (placed_from shown p r) from) es
    → write (drop d (placed_from to 0 n)) (drop d (read (placed_from shown 0 n) from)) es ≡ all
    → write (drop (d + r) (placed_from to 0 n)) (drop (d + r) (read (placed_from shown 0 n) from)) new ≡ all
row_copied to shown d r n p from es new all fits at made before =
    let row : List ℤ = read (placed_from shown (0 + d) r) from in
    let long : length row ≡ r = length_placed shown from (0 + d) r in
    let start : p ≡ 0 + d = omega (arith, at) in
    run_more to 0 d r n (read (placed_from shown 0 n) from) es new row all (length_placed shown from 0 n) fits long (read_part shown from 0 d r n fits)
    (made ∙ ap (λ q. write (placed_from to q r) (read (placed_from shown q r) from) es) start ∙ ap (λ k. write (placed_from to (0 + d) k) row es) (sym long)) before

-- all that another triple shows
pub all_copied : (to shown t u : Triple) (from es new : List ℤ) → t ≡ to → u ≡ shown → to.dims ≡ shown.dims
    → new ≡ write (placed_from t 0 (size_of t.dims)) (read (placed_from u 0 (size_of t.dims)) from) es
    → new ≡ write (placed_from to 0 (size_of to.dims)) (shown_through shown from) es
all_copied to shown t u from es new here there same made =
    made ∙ ap₂ (λ (x y : Triple). write (placed_from x 0 (size_of x.dims)) (read (placed_from y 0 (size_of x.dims)) from) es) here there
    ∙ ap (λ (ds : List ℕ). write (placed_from to 0 (size_of to.dims)) (read (placed_from shown 0 (size_of ds)) from) es) same
    ∙ ap (λ (vs : List ℤ). write (placed_from to 0 (size_of to.dims)) vs es) (read_shown shown from)
