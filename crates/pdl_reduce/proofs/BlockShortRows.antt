-- The rows through which a broadcast goes in order.
use Rattle.std.proofs.Common.{◌≡◌, ℕ, zero, suc, ◌+◌, ◌-◌, ◌*◌, ◌/◌, ◌%◌, ◌<◌, ◌≤◌, ◌≢◌, ℤ, pos, List, [], ◌∷◌, ◌++◌, length, map, take, drop, get_or, arith, inl, inr, ap, ap₂, sym, ◌∙◌, div-add-mod'}
use Rattle.std.specs.Prelude.{if◌then◌else◌, ◌==◌, slice_index_or}
use Rattle.std.proofs.lemmas.Bool.{cases_eq, cases_lt}
use Rattle.std.proofs.lemmas.Bool.Decides.{nat_tests}
use Rattle.std.proofs.lemmas.List.{drop-append-le, drop-drop, drop-map, drop-take, get_or_append_left, get_or-append_right, get_or-take, length-append, length-drop, length-map, length-take-le, take-append-le, take-map, take-take, take_at}
use Rattle.std.proofs.lemmas.Nat.{div-mul-add, mod-mul-add}
use Rattle.std.proofs.lemmas.Slice.{take-put_mid}
use Rattle.std.proofs.Math.Arith.{mod-mul}
use Rattle.std.proofs.Math.Nat.{div-one, mod-one, mul_comm, mul-le-mul}
use Rattle.pdl_elem.specs.declared.Ty.{Ty}
use Rattle.pdl_elem.specs.Numbers.{wrapped}
use Rattle.pdl_reduce.specs.declared.matrices.Sizes.{Sizes}
use Rattle.pdl_reduce.specs.Blocks.{GoesInTurn, block_at, nth_block, products_at, sum_at}
use Rattle.pdl_shape.specs.Shape.{size_of}
use Rattle.pdl_shape.specs.Stretched.{stretched_position}
use borrow.Rule.Slice.PartMut.{post_of, put_mid}

-- ---- positions

-- these sizes are the first ones of a broadcast
abbrev pub AreFirst : (sizes joined : List ℕ) → Type 0
AreFirst sizes joined = joined ≡ sizes ++ drop (length sizes) joined

size_both : (ds es : List ℕ) → size_of (ds ++ es) ≡ size_of ds * size_of es
size_both [] es = omega arith
size_both (d ∷ ds) es = ap (λ n. d * n) (size_both ds es) ∙ grind arith

product_some : (a b : ℕ) → 0 < a * b → 0 < a
product_some zero b h = absurd (omega (arith, h))
product_some (suc a) b h = omega arith

-- the first sizes of a broadcast that has places have positions
first_some : (ds joined : List ℕ) → AreFirst ds joined → 0 < size_of joined → 0 < size_of ds
first_some ds joined first some =
    product_some (size_of ds) (size_of (drop (length ds) joined)) (omega (arith, some, ap size_of first, size_both ds (drop (length ds) joined)))

cut_left : (d p : ℕ) → (if d == 1 then 0 else p % d) ≡ p % d
cut_left d p = grind (arith, nat_tests, mod-one p)

second_some : (a b : ℕ) → 0 < a * b → 0 < b
second_some a zero h = absurd (omega (arith, h))
second_some a (suc b) h = omega arith

position_left : (ds es : List ℕ) (p : ℕ) → 0 < size_of ds → stretched_position ds (ds ++ es) p ≡ p % size_of ds
position_left [] es p some = sym (mod-one p)
position_left (d ∷ ds) es p some =
    let first : 0 < d = product_some d (size_of ds) some in
    let rest : 0 < size_of ds = second_some d (size_of ds) some in
    ap₂ (λ (c n : ℕ). c + d * n) (cut_left d p) (position_left ds es (p / d) rest)
    ∙ omega (arith, mod-mul p {m = size_of ds} {c = d} rest first, ap (λ (n : ℕ). p % n) (mul_comm d (size_of ds)), mul_comm d (p / d % size_of ds))

-- the position that the first sizes of a broadcast use at a place
first_position : (ds joined : List ℕ) (p : ℕ) → AreFirst ds joined → 0 < size_of ds → stretched_position ds joined p ≡ p % size_of ds
first_position ds joined p first some = ap (λ (js : List ℕ). stretched_position ds js p) first ∙ position_left ds (drop (length ds) joined) p some

-- ---- turns

-- the first sizes of a broadcast
pub first_turn : (ds joined : List ℕ) (rows : ℕ) → rows ≡ size_of ds → AreFirst ds joined → GoesInTurn ds joined (record { rows = rows; times = 1 })
first_turn ds joined rows e first = record {
  rows = e;
  some_rows = λ some. omega (arith, e, first_some ds joined first some);
  some_times = λ some. omega arith;
  row = λ some p. first_position ds joined p first (first_some ds joined first some) ∙ ap₂ (λ (q n : ℕ). q % n) (sym (div-one p)) (sym e);
}

none_turn : (p times rows : ℕ) → rows ≡ 1 → 0 ≡ p / times % rows
none_turn p times rows e = sym (ap (λ (n : ℕ). p / times % n) e ∙ mod-one (p / times))

first_size_some : (joined : List ℕ) → 0 < size_of joined → 0 < slice_index_or joined 0 1
first_size_some [] some = omega arith
first_size_some (j ∷ js) some = product_some j (size_of js) some

-- after a first size that is stretched
later_position : (d j : ℕ) (ds js : List ℕ) (p : ℕ) → d ≡ 1 → AreFirst ds js → 0 < size_of js → stretched_position (d ∷ ds) (j ∷ js) p ≡ p / j % size_of (d ∷ ds)
later_position d j ds js p one first some =
    let rest : stretched_position ds js (p / j) ≡ p / j % size_of ds = first_position ds js (p / j) first (first_some ds js first some) in
    let F : ℕ → ℕ = λ e. (if e == 1 then 0 else p % j) + e * stretched_position ds js (p / j) in
    let scaled : d * size_of ds ≡ size_of ds = ap (λ (e : ℕ). e * size_of ds) one ∙ omega arith in
    ap F one ∙ omega (arith, rest) ∙ ap (λ (n : ℕ). p / j % n) (sym scaled)

later_row : (ds joined : List ℕ) (p : ℕ) → slice_index_or ds 0 1 ≡ 1 → AreFirst (drop 1 ds) (drop 1 joined) → 0 < size_of joined
    → stretched_position ds joined p ≡ p / slice_index_or joined 0 1 % size_of ds
later_row [] joined p one first some = none_turn p (slice_index_or joined 0 1) 1 (omega arith)
later_row (d ∷ []) [] p one first some = none_turn p 1 (d * 1) (omega (arith, one))
later_row (d ∷ e ∷ ds) [] p one first some = absurd (omega (arith, ap (λ (ns : List ℕ). length ns) first))
later_row (d ∷ ds) (j ∷ js) p one first some = later_position d j ds js p one first (second_some j (size_of js) some)

later_some : (ds joined : List ℕ) → slice_index_or ds 0 1 ≡ 1 → AreFirst (drop 1 ds) (drop 1 joined) → 0 < size_of joined → 0 < size_of ds
later_some [] joined one first some = omega arith
later_some (d ∷ []) [] one first some = omega (arith, one)
later_some (d ∷ e ∷ ds) [] one first some = absurd (omega (arith, ap (λ (ns : List ℕ). length ns) first))
later_some (d ∷ ds) (j ∷ js) one first some =
    omega (arith, first_some ds js first (second_some j (size_of js) some), ap (λ (e : ℕ). e * size_of ds) one)

pub later_turn : (ds joined : List ℕ) (rows times : ℕ) → rows ≡ size_of ds → times ≡ slice_index_or joined 0 1 → slice_index_or ds 0 1 ≡ 1 → AreFirst (drop 1 ds) (drop 1 joined)
    → GoesInTurn ds joined (record { rows = rows; times = times })
later_turn ds joined rows times e t one first = record {
  rows = e;
  some_rows = λ some. omega (arith, e, later_some ds joined one first some);
  some_times = λ some. omega (arith, t, first_size_some joined some);
  row = λ some p. later_row ds joined p one first some ∙ ap₂ (λ (m n : ℕ). p / m % n) (sym t) (sym e);
}

-- the row is the same until its turn is over
pub same_turn : (place j times rows : ℕ) → (rows ≢ 1 → place % times + j < times) → place / times % rows ≡ (place + j) / times % rows
same_turn place j times rows h =
    elim (cases_eq rows 1) [
      | inl one ↦ sym (none_turn place times rows one) ∙ none_turn (place + j) times rows one
      | inr more ↦
          let e : place + j ≡ place / times * times + (place % times + j) = omega (arith, div-add-mod' place times) in
          sym (ap (λ (n : ℕ). n / times % rows) e ∙ ap (λ (n : ℕ). n % rows) (div-mul-add (place / times) times (place % times + j) (h more)))
    ]

-- ---- rows of a block

later_place : (p j n : ℕ) → p % n + j < n → (p + j) % n ≡ p % n + j
later_place p j n h =
    let e : p + j ≡ p / n * n + (p % n + j) = omega (arith, div-add-mod' p n) in
    ap (λ x. x % n) e ∙ mod-mul-add (p / n) n (p % n + j) h

-- a part of a list's first numbers
drop_left : (k size : ℕ) (part rest : List ℤ) → k + size ≤ length part → take size (drop k (part ++ rest)) ≡ take size (drop k part)
drop_left k size part rest h =
    ap (take size) (drop-append-le k part rest (omega (arith, h)))
    ∙ take-append-le size (drop k part) rest (omega (arith, h, length-drop k part))

part_of : (xs : List ℤ) (k size n : ℕ) → k + size ≤ n → take size (drop k (take n xs)) ≡ take size (drop k xs)
part_of xs k size n h =
    let back : n ≡ k + (n - k) = omega (arith, h) in
    ap (λ (m : ℕ). take size (drop k (take m xs))) back ∙ ap (take size) (drop-take k (n - k) xs) ∙ take-take size (n - k) (drop k xs) (omega (arith, h))

-- one row that is used at each place
pub same_row : (ty : Ty) (es part rest : List ℤ) (size row j : ℕ) → row * size + size ≤ length es → part ≡ map (wrapped ty) (take size (drop (row * size) es))
    → take size (drop (j * 0) (part ++ rest)) ≡ nth_block ty size es row
same_row ty es part rest size row j fits is =
    let none : j * 0 ≡ 0 = omega arith in
    let long : length part ≡ size =
    ap (λ (zs : List ℤ). length zs) is ∙ length-map (take size (drop (row * size) es)) (wrapped ty) ∙ length-take-le size (drop (row * size) es) (omega (arith, fits, length-drop (row * size) es)) in
    ap (λ (n : ℕ). take size (drop n (part ++ rest))) none ∙ take_at part rest size long ∙ is

-- one of the rows that follow one another
pub next_row : (ty : Ty) (es part rest : List ℤ) (size places first rows place j n : ℕ) → n ≡ places * size → first ≡ place % rows * size → place % rows + places ≤ rows → j < places → 0 < rows
    → first + n ≤ length es → part ≡ map (wrapped ty) (take n (drop first es)) → take size (drop (j * size) (part ++ rest)) ≡ nth_block ty size es ((place + j) % rows)
next_row ty es part rest size places first rows place j n all start within low some fits is =
    let long : length part ≡ n =
    ap (λ (zs : List ℤ). length zs) is ∙ length-map (take n (drop first es)) (wrapped ty) ∙ length-take-le n (drop first es) (omega (arith, length-drop first es)) in
    let room : j * size + size ≤ n = omega (arith, all, mul-le-mul {n₁ = j + 1} {m₁ = size} {n₂ = places} {m₂ = size} (omega (arith, low)) (omega arith)) in
    let position : (place + j) % rows ≡ place % rows + j = later_place place j rows (omega (arith, within, low)) in
    let at : first + j * size ≡ (place + j) % rows * size = omega (arith, start, ap (λ (k : ℕ). k * size) position) in
    drop_left (j * size) size part rest (omega (arith, long, room))
    ∙ ap (λ (zs : List ℤ). take size (drop (j * size) zs)) is
    ∙ ap (take size) (drop-map (wrapped ty) (j * size) (take n (drop first es)))
    ∙ take-map (wrapped ty) size (drop (j * size) (take n (drop first es)))
    ∙ ap (map (wrapped ty)) (part_of (drop first es) (j * size) size n room ∙ ap (take size) (drop-drop (j * size) first es) ∙ ap (λ (k : ℕ). take size (drop k es)) at)

-- ---- sums

-- the sum of the products of two rows is what the pairing has at the place
pub sum_is : (ty : Ty) (s : Sizes) (les res : List ℤ) (ls rs joined : List ℕ) (p lrow rrow : ℕ) (lb rb : List ℤ) → s.height ≡ 1 → s.width ≡ 1
    → stretched_position ls joined p ≡ lrow → stretched_position rs joined p ≡ rrow
    → lb ≡ nth_block ty s.left_depth les lrow → rb ≡ nth_block ty s.right_depth res rrow
    → wrapped ty (sum_at s lb rb s.depth 0 0) ≡ products_at ty s les res ls rs joined p
sum_is ty s les res ls rs joined p lrow rrow lb rb high wide lat rat l r =
    let F : ℕ → ℕ → ℕ → ℕ → ℤ = λ count w lc rc. wrapped ty (sum_at s (block_at ty lc les ls joined (p / count)) (block_at ty rc res rs joined (p / count)) s.depth (p % count / w) (p % count % w)) in
    let one : s.height * s.width ≡ 1 = ap₂ (λ (a b : ℕ). a * b) high wide in
    let left : s.left_depth * s.height ≡ s.left_depth = omega (arith, ap (λ (n : ℕ). s.left_depth * n) high) in
    let right : s.width * s.right_depth ≡ s.right_depth = omega (arith, ap (λ (n : ℕ). n * s.right_depth) wide) in
    let G : ℕ → ℕ → ℕ → ℤ = λ q i j. wrapped ty (sum_at s (block_at ty s.left_depth les ls joined q) (block_at ty s.right_depth res rs joined q) s.depth i j) in
    let lq : lb ≡ block_at ty s.left_depth les ls joined p = l ∙ ap (nth_block ty s.left_depth les) (sym lat) in
    let rq : rb ≡ block_at ty s.right_depth res rs joined p = r ∙ ap (nth_block ty s.right_depth res) (sym rat) in
    ap₂ (λ (us vs : List ℤ). wrapped ty (sum_at s us vs s.depth 0 0)) lq rq
    ∙ sym (ap₂ (λ (count w : ℕ). F count w (s.left_depth * s.height) (s.width * s.right_depth)) one wide
    ∙ ap₂ (λ (lc rc : ℕ). F 1 1 lc rc) left right
    ∙ ap (λ (q : ℕ). G q (p % 1 / 1) (p % 1 % 1)) (div-one p)
    ∙ ap (λ (m : ℕ). G p (m / 1) (m % 1)) (mod-one p))

-- a part that is put in place of one as long
pub put_length : (a k : ℕ) (xs ys : List ℤ) → a + k ≤ length xs → length ys ≡ k → length (put_mid a k xs ys) ≡ length xs
put_length a k xs ys fits long =
    omega (
      arith,
      long,
      length-append (take a xs) (ys ++ post_of a k xs),
      length-append ys (post_of a k xs),
      length-take-le a xs (omega (arith, fits)),
      length-drop k (drop a xs),
      length-drop a xs,
    )

-- one sum more
pub sums_more : (P : ℕ → ℤ) (sums row : List ℤ) (j n : ℕ) → n ≡ 1 → j + n ≤ length sums → length row ≡ n → ((k : ℕ) → k < j → get_or sums k (pos 0) ≡ P k) → get_or row 0 (pos 0) ≡ P j
    → (k : ℕ) → k < j + 1 → get_or (put_mid j n sums row) k (pos 0) ≡ P k
sums_more P sums row j n one fits long before here k h =
    let all : take (j + n) (put_mid j n sums row) ≡ take j sums ++ row = take-put_mid j n sums row (j + n) (omega arith) (omega arith) in
    let l : length (take j sums) ≡ j = length-take-le j sums (omega arith) in
    sym (get_or-take (j + n) (put_mid j n sums row) k (pos 0) (omega arith))
    ∙ ap (λ xs. get_or xs k (pos 0)) all
    ∙ elim (cases_lt k j) [
      | inl low ↦ get_or_append_left (take j sums) row (pos 0) k (omega arith) ∙ get_or-take j sums k (pos 0) low ∙ before k low
      | inr high ↦
          let last : k ≡ j = omega arith in
          get_or-append_right (take j sums) row j k (pos 0) l high ∙ ap (λ i. get_or row i (pos 0)) (omega (arith, last)) ∙ here ∙ ap P (sym last)
    ]
