-- Where the blocks of two arrays meet in a broadcast.
use Rattle.std.proofs.Common.{◌≡◌, ℕ, ◌+◌, ◌*◌, ◌<◌, ℤ, pos, List, ◌++◌, map, take, drop, get_or, arith, Option, Some, ap, ap₂, sym, subst, ◌∙◌}
use Rattle.std.specs.Prelude.{IfSome}
use Rattle.std.specs.List.{range_with_len}
use Rattle.std.proofs.lemmas.Int.{ints}
use Rattle.std.proofs.lemmas.List.FromFn.{length-map-range_with_len, get_or-map-range_with_len}
use Rattle.std.proofs.lemmas.Nat.{div-mul-add, mod-mul-add}
use Rattle.pdl_elem.specs.declared.Ty.{Ty}
use Rattle.pdl_elem.specs.Numbers.{wrapped}
use Rattle.pdl_reduce.specs.declared.matrices.Sizes.{Sizes}
use Rattle.pdl_reduce.specs.Blocks.{block_at, product_at, products_at}
use Rattle.pdl_reduce.proofs.BlockProducts.{range_more}
use Rattle.pdl_shape.specs.Broadcast.{cut_to}
use Rattle.pdl_shape.specs.Laws.{PositionLaws, WholesAreInOrder}
use Rattle.pdl_shape.specs.Shape.{IsWithin, coordinates_of, size_of}
use Rattle.pdl_shape.specs.Stretched.{stretched_position}
use Rattle.pdl_shape.specs.Triple.{Triple, place_of, whole_triple}

-- what is said of a triple that is there
pub said : (P : Triple → Type 0) (o : Option Triple) (t : Triple) → o ≡ Some t → IfSome o P → P t
said P o t e h = subst (λ (x : Option Triple). IfSome x P) e h

-- the place of a whole array is its position
pub place_is : WholesAreInOrder → (ds joined : List ℕ) (q r : ℕ) → IsWithin ds (cut_to ds (coordinates_of joined q)) → pos r ≡ place_of (whole_triple ds) (cut_to ds (coordinates_of joined q))
    → r ≡ stretched_position ds joined q
place_is wholes ds joined q r within e =
    let same : pos r ≡ pos (stretched_position ds joined q) = e ∙ wholes ds (cut_to ds (coordinates_of joined q)) within in
    omega (arith, ints, same)

pub place_below : PositionLaws → (ds joined : List ℕ) (q r : ℕ) → IsWithin ds (cut_to ds (coordinates_of joined q)) → r ≡ stretched_position ds joined q → r < size_of ds
place_below laws ds joined q r within e = omega (arith, e, laws.position_below ds (cut_to ds (coordinates_of joined q)) within)

-- the blocks at one place more
pub products_more : (ty : Ty) (s : Sizes) (les res : List ℤ) (ls rs joined : List ℕ) (q : ℕ) (lb rb : List ℤ) → lb ≡ block_at ty (s.left_depth * s.height) les ls joined q
    → rb ≡ block_at ty (s.width * s.right_depth) res rs joined q
    → map (products_at ty s les res ls rs joined) (range_with_len 0 ((q + 1) * (s.height * s.width)))
    ≡ map (products_at ty s les res ls rs joined) (range_with_len 0 (q * (s.height * s.width))) ++ map (product_at ty s lb rb) (range_with_len 0 (s.height * s.width))
products_more ty s les res ls rs joined q lb rb e f =
    let n : ℕ = s.height * s.width in
    let P : ℕ → ℤ = products_at ty s les res ls rs joined in
    let new : List ℤ = map (product_at ty s lb rb) (range_with_len 0 n) in
    let at : ℕ → ℕ → ℤ = λ p r. product_at ty s (block_at ty (s.left_depth * s.height) les ls joined p) (block_at ty (s.width * s.right_depth) res rs joined p) r in
    let more : (q + 1) * n ≡ q * n + n = omega arith in
    let element : (j : ℕ) → j < n → get_or new j (pos 0) ≡ P (q * n + j) = λ j h.
    get_or-map-range_with_len (product_at ty s lb rb) 0 n j j (pos 0) h (omega arith)
    ∙ ap₂ (λ (us vs : List ℤ). product_at ty s us vs j) e f
    ∙ sym (ap₂ at (div-mul-add q n j h) (mod-mul-add q n j h)) in
    ap (λ (m : ℕ). map P (range_with_len 0 m)) more ∙ range_more P (q * n) n new (length-map-range_with_len (product_at ty s lb rb) 0 n) element

-- a block as it was read
pub block_read : (ty : Ty) (es : List ℤ) (ds joined : List ℕ) (q n m p : ℕ) (block : List ℤ) → m ≡ n → p ≡ stretched_position ds joined q → block ≡ map (wrapped ty) (take m (drop (p * m) es))
    → block ≡ block_at ty n es ds joined q
block_read ty es ds joined q n m p block e f g = g ∙ ap₂ (λ (k r : ℕ). map (wrapped ty) (take k (drop (r * k) es))) e f
