-- What a pairing gives at a place is what the blocks of both arrays give there.
use Rattle.std.proofs.Common.{◌≡◌, ℕ, zero, suc, ◌+◌, ◌*◌, ◌/◌, ◌%◌, ◌<◌, ◌≤◌, ℤ, pos, List, [], ◌∷◌, length, map, take, drop, get_or, arith, refl, ap, sym, ◌∙◌}
use Rattle.std.specs.List.{range_with_len}
use Rattle.std.proofs.lemmas.List.{ext_get_or, get_or-map, get_or-take, get_or-drop, length-take-le, length-drop}
use Rattle.std.proofs.lemmas.List.FromFn.{length-map-range_with_len, get_or-map-range_with_len}
use Rattle.std.proofs.lemmas.Nat.{div-mul-add, mod-mul-add, div-add-mod', div_below, mod_below}
use Rattle.std.proofs.Math.Nat.{mul_comm}
use Rattle.pdl_elem.specs.declared.Ty.{Ty}
use Rattle.pdl_elem.specs.Numbers.{wrapped}
use Rattle.pdl_shape.specs.Broadcast.{BroadcastsTo, cut_to}
use Rattle.pdl_shape.specs.Laws.{CutsWithin, PositionLaws}
use Rattle.pdl_shape.specs.Shape.{coordinates_of, position_of, size_of}
use Rattle.pdl_shape.specs.Stretched.{stretched_position}
use Rattle.pdl_reduce.specs.Blocks.{block_at, cut}
use Rattle.pdl_reduce.specs.Folds.{total}
use Rattle.pdl_reduce.specs.Pairings.{sum_below}
use Rattle.pdl_reduce.proofs.ReductionResults.{row_inside}

-- ---- one function for another

pub range_agree : (f g : ℕ → ℤ) (n : ℕ) → ((p : ℕ) → p < n → f p ≡ g p) → map f (range_with_len 0 n) ≡ map g (range_with_len 0 n)
range_agree f g n e =
    let l : length (map f (range_with_len 0 n)) ≡ n = length-map-range_with_len f 0 n in
    let m : length (map g (range_with_len 0 n)) ≡ n = length-map-range_with_len g 0 n in
    ext_get_or (pos 0) (map f (range_with_len 0 n)) (map g (range_with_len 0 n)) (l ∙ sym m)
    (λ p within.
    let small : p < n = omega (arith, l, within) in
    get_or-map-range_with_len f 0 n p p (pos 0) small (omega arith) ∙ e p small ∙ sym (get_or-map-range_with_len g 0 n p p (pos 0) small (omega arith)))

pub sum_agree : (f g : ℕ → ℤ) (n : ℕ) → ((k : ℕ) → k < n → f k ≡ g k) → sum_below n f ≡ sum_below n g
sum_agree f g n e = ap total (range_agree f g n e)

-- ---- where an element stands

pub one_core : (ds cs : List ℕ) (k : ℕ) → position_of ds (cut_to ds (k ∷ cs)) ≡ cut (get_or ds 0 1) k + get_or ds 0 1 * position_of (drop 1 ds) (cut_to (drop 1 ds) cs)
one_core [] cs k = refl
one_core (d ∷ ds) cs k = refl

pub two_cores : (ds cs : List ℕ) (k i : ℕ) → position_of ds (cut_to ds (k ∷ i ∷ cs))
    ≡ cut (get_or ds 0 1) k + get_or ds 0 1 * (cut (get_or ds 1 1) i + get_or ds 1 1 * position_of (drop 2 ds) (cut_to (drop 2 ds) cs))
two_cores [] cs k i = refl
two_cores (d ∷ []) cs k i = refl
two_cores (d ∷ e ∷ ds) cs k i = refl

-- an element of a block
pub in_block : PositionLaws → CutsWithin → (ty : Ty) (es : List ℤ) (od bs : List ℕ) (q n c at : ℕ) → q < size_of bs → BroadcastsTo od bs → length es ≡ size_of od * n → c < n
    → at ≡ c + n * stretched_position od bs q → wrapped ty (get_or es at (pos 0)) ≡ get_or (block_at ty n es od bs q) c (pos 0)
in_block laws cuts ty es od bs q n c at inside to count below e =
    let sp : ℕ = stretched_position od bs q in
    let small : sp < size_of od = laws.position_below od (cut_to od (coordinates_of bs q)) (cuts od bs (coordinates_of bs q) to (laws.coordinates_within bs q inside)) in
    let room : sp * n + n ≤ length es = omega (arith, row_inside sp (size_of od) n small, count) in
    let full : length (take n (drop (sp * n) es)) ≡ n = length-take-le n (drop (sp * n) es) (omega (arith, length-drop (sp * n) es, room)) in
    let place : at ≡ sp * n + c = omega (arith, e, mul_comm n sp) in
    sym (get_or-map (wrapped ty) (take n (drop (sp * n) es)) c (pos 0) (pos 0) (omega (arith, full, below))
    ∙ ap (wrapped ty) (get_or-take n (drop (sp * n) es) c (pos 0) below ∙ get_or-drop (sp * n) es c (pos 0) ∙ ap (λ (m : ℕ). get_or es m (pos 0)) (sym place)))

-- ---- a place of a plane of planes

pub record Split (p w h q i j : ℕ) : Type 0 where
  pub column : p % w ≡ j
  pub row : p / w % h ≡ i
  pub plane : p / w / h ≡ q

pub split : (p w h q i j : ℕ) → j < w → i < h → p ≡ (q * h + i) * w + j → Split p w h q i j
split p w h q i j jw ih e =
    let rows : p / w ≡ q * h + i = ap (λ (x : ℕ). x / w) e ∙ div-mul-add (q * h + i) w j jw in
    record {
      column = ap (λ (x : ℕ). x % w) e ∙ mod-mul-add (q * h + i) w j jw;
      row = ap (λ (x : ℕ). x % h) rows ∙ mod-mul-add q h i ih;
      plane = ap (λ (x : ℕ). x / h) rows ∙ div-mul-add q h i ih;
    }

some_factor : (a b p : ℕ) → p < a * b → 0 < b
some_factor a zero p h = absurd (omega (arith, h))
some_factor a (suc b) p h = omega arith

-- a place below all, by its plane, row and column
pub record Place (p n w h : ℕ) : Type 0 where
  pub plane : p / (h * w) < n
  pub row : p % (h * w) / w < h
  pub column : p % (h * w) % w < w
  pub whole : p ≡ (p / (h * w) * h + p % (h * w) / w) * w + p % (h * w) % w

pub place : (p n w h : ℕ) → p < n * (h * w) → Place p n w h
place p n w h below =
    let some : 0 < h * w = some_factor n (h * w) p below in
    let inner : p % (h * w) < h * w = mod_below p (h * w) some in
    let wide : 0 < w = some_factor h w (p % (h * w)) inner in
    record {
      plane = div_below p (h * w) n some below;
      row = div_below (p % (h * w)) w h wide inner;
      column = mod_below (p % (h * w)) w wide;
      whole = omega (arith, div-add-mod' p (h * w), div-add-mod' (p % (h * w)) w);
    }
