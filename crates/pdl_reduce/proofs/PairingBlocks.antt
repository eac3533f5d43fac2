-- Each pairing by the blocks of its arrays.
use Rattle.std.proofs.Common.{◌≡◌, ℕ, ◌+◌, ◌*◌, ◌/◌, ◌%◌, ◌<◌, ℤ, pos, ◌*ℤ◌, List, ◌∷◌, length, drop, get_or, arith, refl, ap, ap₂, sym, ◌∙◌}
use Rattle.std.proofs.Math.IntN.{*ℤ_comm, +ℤ_idl}
use Rattle.std.proofs.Math.Nat.{div-one, mod-one}
use Rattle.pdl_lemmas.specs.Numbers.{row_place_below}
use Rattle.pdl_elem.specs.declared.Ty.{Ty}
use Rattle.pdl_elem.specs.Numbers.{wrapped}
use Rattle.pdl_shape.specs.Broadcast.{BroadcastsTo}
use Rattle.pdl_shape.specs.Laws.{CutsWithin, PositionLaws}
use Rattle.pdl_shape.specs.Shape.{coordinates_of, size_of}
use Rattle.pdl_shape.specs.Stretched.{stretched_position}
use Rattle.pdl_buf.specs.declared.made.Made.{Made}
use Rattle.pdl_reduce.specs.declared.matrices.Sizes.{Sizes}
use Rattle.pdl_reduce.specs.Blocks.{block_at, cut, products_at, sizes_of, sum_at}
use Rattle.pdl_reduce.specs.Pairings.{paired_at, sum_below}
use Rattle.pdl_buf.specs.Made.{broadcast_element}
use Rattle.pdl_reduce.specs.declared.Pairing.TheVariants.{Inner, Outer, Matmult}
use Rattle.pdl_reduce.proofs.BlockProducts.{cut_below}
use Rattle.pdl_reduce.proofs.PairingPlaces.{one_core, two_cores, in_block, sum_agree, split, Split, place, Place}

-- the laws of positions
pub record Positions : Type 0 where
  pub laws : PositionLaws
  pub cuts : CutsWithin

-- an array that stretches to a broadcast after its first core dimensions, in blocks of so many elements
pub record Meets (a : Made) (od bs : List ℕ) (n : ℕ) : Type 0 where
  pub stretched : BroadcastsTo od bs
  pub count : length a.elems ≡ size_of od * n

-- an element of an array with one core dimension
pub one_element : Positions → (ty : Ty) (a : Made) (bs : List ℕ) (q k n c : ℕ) → q < size_of bs → Meets a (drop 1 a.dims) bs n → get_or a.dims 0 1 ≡ n → c ≡ cut (get_or a.dims 0 1) k → c < n
    → broadcast_element ty a (k ∷ coordinates_of bs q) ≡ get_or (block_at ty n a.elems (drop 1 a.dims) bs q) c (pos 0)
one_element p ty a bs q k n c inside m size e below =
    in_block p.laws p.cuts ty a.elems (drop 1 a.dims) bs q n c _ inside m.stretched m.count below
    (one_core a.dims (coordinates_of bs q) k ∙ ap₂ (λ (x y : ℕ). x + y * stretched_position (drop 1 a.dims) bs q) (sym e) size)

-- an element of an array with two
pub two_element : Positions → (ty : Ty) (a : Made) (bs : List ℕ) (q k i n c : ℕ) → q < size_of bs → Meets a (drop 2 a.dims) bs n → get_or a.dims 0 1 * get_or a.dims 1 1 ≡ n
    → c ≡ cut (get_or a.dims 0 1) k + get_or a.dims 0 1 * cut (get_or a.dims 1 1) i → c < n
    → broadcast_element ty a (k ∷ i ∷ coordinates_of bs q) ≡ get_or (block_at ty n a.elems (drop 2 a.dims) bs q) c (pos 0)
two_element p ty a bs q k i n c inside m size e below =
    let sp : ℕ = stretched_position (drop 2 a.dims) bs q in
    let regroup : cut (get_or a.dims 0 1) k + get_or a.dims 0 1 * (cut (get_or a.dims 1 1) i + get_or a.dims 1 1 * sp)
    ≡ cut (get_or a.dims 0 1) k + get_or a.dims 0 1 * cut (get_or a.dims 1 1) i + get_or a.dims 0 1 * get_or a.dims 1 1 * sp = omega arith in
    in_block p.laws p.cuts ty a.elems (drop 2 a.dims) bs q n c _ inside m.stretched m.count below
    (two_cores a.dims (coordinates_of bs q) k i ∙ regroup ∙ ap₂ (λ (x y : ℕ). x + y * sp) (sym e) size)

-- ---- inner

inner_at : Positions → (ty : Ty) (a b : Made) (bs : List ℕ) (n q : ℕ) → q < size_of bs → Meets a (drop 1 a.dims) bs (get_or a.dims 0 1 * 1) → Meets b (drop 1 b.dims) bs (1 * get_or b.dims 0 1)
    → ((k : ℕ) → k < n → cut (get_or a.dims 0 1) k < get_or a.dims 0 1) → ((k : ℕ) → k < n → cut (get_or b.dims 0 1) k < get_or b.dims 0 1)
    → paired_at Inner n (broadcast_element ty a) (broadcast_element ty b) (coordinates_of bs q)
    ≡ sum_at (sizes_of Inner n a.dims b.dims) (block_at ty (get_or a.dims 0 1 * 1) a.elems (drop 1 a.dims) bs q) (block_at ty (1 * get_or b.dims 0 1) b.elems (drop 1 b.dims) bs q) n 0 0
inner_at p ty a b bs n q inside ma mb da db =
    let x : ℕ = get_or a.dims 0 1 in
    let y : ℕ = get_or b.dims 0 1 in
    sum_agree _ _ n (λ k below.
    ap₂ (λ (u v : ℤ). u *ℤ v)
    (one_element p ty a bs q k (x * 1) (cut x k + x * 0) inside ma (omega arith) (omega arith) (omega (arith, da k below)))
    (one_element p ty b bs q k (1 * y) (0 + 1 * cut y k) inside mb (omega arith) (omega arith) (omega (arith, db k below))))

pub inner_is : Positions → (ty : Ty) (a b : Made) (bs : List ℕ) (n : ℕ) → Meets a (drop 1 a.dims) bs (get_or a.dims 0 1 * 1) → Meets b (drop 1 b.dims) bs (1 * get_or b.dims 0 1)
    → ((k : ℕ) → k < n → cut (get_or a.dims 0 1) k < get_or a.dims 0 1) → ((k : ℕ) → k < n → cut (get_or b.dims 0 1) k < get_or b.dims 0 1)
    → (p : ℕ) → p < size_of bs → wrapped ty (paired_at Inner n (broadcast_element ty a) (broadcast_element ty b) (coordinates_of bs p))
    ≡ products_at ty (sizes_of Inner n a.dims b.dims) a.elems b.elems (drop 1 a.dims) (drop 1 b.dims) bs p
inner_is laws ty a b bs n ma mb da db p inside =
    let s : Sizes = sizes_of Inner n a.dims b.dims in
    let at : ℕ → ℕ → ℕ → ℤ = λ q i j. wrapped ty (sum_at s (block_at ty (get_or a.dims 0 1 * 1) a.elems (drop 1 a.dims) bs q) (block_at ty (1 * get_or b.dims 0 1) b.elems (drop 1 b.dims) bs q) n i j) in
    let row : p % 1 / 1 ≡ 0 = div-one (p % 1) ∙ mod-one p in
    let column : p % 1 % 1 ≡ 0 = mod-one (p % 1) in
    ap (wrapped ty) (inner_at laws ty a b bs n p inside ma mb da db)
    ∙ sym (ap (λ (q : ℕ). at q (p % 1 / 1) (p % 1 % 1)) (div-one p) ∙ ap₂ (λ (i j : ℕ). at p i j) row column)

-- ---- outer

pub outer_is : Positions → (ty : Ty) (a b : Made) (bs : List ℕ) (n : ℕ) → Meets a (drop 1 a.dims) bs (get_or a.dims 0 1 * 1) → Meets b (drop 1 b.dims) bs (1 * get_or b.dims 0 1)
    → (p : ℕ) → p < size_of bs * (get_or b.dims 0 1 * get_or a.dims 0 1)
    → wrapped ty (paired_at Outer n (broadcast_element ty a) (broadcast_element ty b) (coordinates_of (get_or a.dims 0 1 ∷ get_or b.dims 0 1 ∷ bs) p))
    ≡ products_at ty (sizes_of Outer n a.dims b.dims) b.elems a.elems (drop 1 b.dims) (drop 1 a.dims) bs p
outer_is laws ty a b bs n ma mb p inside =
    let x : ℕ = get_or a.dims 0 1 in
    let y : ℕ = get_or b.dims 0 1 in
    let at : Place p (size_of bs) x y = place p (size_of bs) x y inside in
    let q : ℕ = p / (y * x) in
    let i : ℕ = p % (y * x) / x in
    let j : ℕ = p % (y * x) % x in
    let here : Split p x y q i j = split p x y q i j at.column at.row at.whole in
    let left : broadcast_element ty b (i ∷ coordinates_of bs q) ≡ get_or (block_at ty (1 * y) b.elems (drop 1 b.dims) bs q) (0 + 1 * i) (pos 0) =
    one_element laws ty b bs q i (1 * y) (0 + 1 * i) at.plane mb (omega arith) (omega (arith, cut_below y i at.row)) (omega (arith, at.row)) in
    let right : broadcast_element ty a (j ∷ coordinates_of bs q) ≡ get_or (block_at ty (x * 1) a.elems (drop 1 a.dims) bs q) (j + x * 0) (pos 0) =
    one_element laws ty a bs q j (x * 1) (j + x * 0) at.plane ma (omega arith) (omega (arith, cut_below x j at.column)) (omega (arith, at.column)) in
    let product : ℕ → ℕ → ℕ → ℤ = λ r u v. wrapped ty (broadcast_element ty a (v ∷ coordinates_of bs r) *ℤ broadcast_element ty b (u ∷ coordinates_of bs r)) in
    let u : ℤ = get_or (block_at ty (x * 1) a.elems (drop 1 a.dims) bs q) (j + x * 0) (pos 0) in
    let v : ℤ = get_or (block_at ty (1 * y) b.elems (drop 1 b.dims) bs q) (0 + 1 * i) (pos 0) in
    ap (λ (r : ℕ). product r (p / x % y) (p % x)) here.plane ∙ ap₂ (λ (u v : ℕ). product q u v) here.row here.column
    ∙ ap (wrapped ty) (ap₂ (λ (m n : ℤ). m *ℤ n) right left ∙ *ℤ_comm u v ∙ sym (+ℤ_idl (v *ℤ u)))

-- ---- matmult

pub matmult_is : Positions → (ty : Ty) (a b : Made) (bs : List ℕ) (n : ℕ) → Meets a (drop 2 a.dims) bs (get_or a.dims 0 1 * get_or a.dims 1 1) → Meets b (drop 2 b.dims) bs (get_or b.dims 0 1 * get_or b.dims 1 1)
    → ((k : ℕ) → k < n → cut (get_or a.dims 0 1) k < get_or a.dims 0 1) → ((k : ℕ) → k < n → cut (get_or b.dims 1 1) k < get_or b.dims 1 1)
    → (p : ℕ) → p < size_of bs * (get_or a.dims 1 1 * get_or b.dims 0 1)
    → wrapped ty (paired_at Matmult n (broadcast_element ty a) (broadcast_element ty b) (coordinates_of (get_or b.dims 0 1 ∷ get_or a.dims 1 1 ∷ bs) p))
    ≡ products_at ty (sizes_of Matmult n a.dims b.dims) a.elems b.elems (drop 2 a.dims) (drop 2 b.dims) bs p
matmult_is laws ty a b bs n ma mb da db p inside =
    let x : ℕ = get_or a.dims 0 1 in
    let h : ℕ = get_or a.dims 1 1 in
    let w : ℕ = get_or b.dims 0 1 in
    let y : ℕ = get_or b.dims 1 1 in
    let at : Place p (size_of bs) w h = place p (size_of bs) w h inside in
    let q : ℕ = p / (h * w) in
    let i : ℕ = p % (h * w) / w in
    let j : ℕ = p % (h * w) % w in
    let here : Split p w h q i j = split p w h q i j at.column at.row at.whole in
    let sum : ℕ → ℕ → ℕ → ℤ = λ r u v. wrapped ty (sum_below n (λ k. broadcast_element ty a (k ∷ u ∷ coordinates_of bs r) *ℤ broadcast_element ty b (v ∷ k ∷ coordinates_of bs r))) in
    let terms : sum_below n (λ k. broadcast_element ty a (k ∷ i ∷ coordinates_of bs q) *ℤ broadcast_element ty b (j ∷ k ∷ coordinates_of bs q))
    ≡ sum_at (sizes_of Matmult n a.dims b.dims) (block_at ty (x * h) a.elems (drop 2 a.dims) bs q) (block_at ty (w * y) b.elems (drop 2 b.dims) bs q) n i j =
    sum_agree _ _ n (λ k below.
    ap₂ (λ (u v : ℤ). u *ℤ v)
    (two_element laws ty a bs q k i (x * h) (cut x k + x * i) at.plane ma refl (ap (λ (m : ℕ). cut x k + x * m) (sym (cut_below h i at.row))) (row_place_below x h (cut x k) i (da k below) at.row))
    (two_element laws ty b bs q j k (w * y) (j + w * cut y k) at.plane mb refl (ap (λ (m : ℕ). m + w * cut y k) (sym (cut_below w j at.column))) (row_place_below w y j (cut y k) at.column (db k below)))) in
    ap (λ (r : ℕ). sum r (p / w % h) (p % w)) here.plane ∙ ap₂ (λ (u v : ℕ). sum q u v) here.row here.column ∙ ap (wrapped ty) terms
