-- The values of an assignment by an operator whose right side is one number, and of one that copies.
use Rattle.std.proofs.Common.{◌≡◌, ℕ, zero, suc, ◌<◌, ℤ, pos, true, false, List, [], ◌∷◌, length, map, get_or, Option, Some, None, Result, Ok, is_ok, refl, sym, ◌∙◌, ap, ap₂, subst, All, arith}
use Rattle.std.proofs.lemmas.List.{get_or-map, length-map}
use Rattle.std.proofs.lemmas.List.Elements.{All-head, All-tail}
use Rattle.std.proofs.lemmas.List.FromFn.{get_or-map-range_with_len, length-map-range_with_len}
use Rattle.pdl_elem.specs.Blocks.{pairwise, zero_at}
use Rattle.pdl_elem.specs.Laws.{WrappingLaws}
use Rattle.pdl_elem.specs.Numbers.{wrapped}
use Rattle.pdl_elem.specs.Operators.{binary_whole, value_of}
use Rattle.pdl_elem.specs.Types.{InRange, promoted}
use Rattle.pdl_elem.specs.declared.BinaryOp.{BinaryOp}
use Rattle.pdl_elem.specs.declared.Ty.{Ty}
use Rattle.pdl_shape.specs.Broadcast.{BroadcastsTo, cut_to}
use Rattle.pdl_shape.specs.Laws.{CutsWithin, PositionLaws}
use Rattle.pdl_shape.specs.Shape.{coordinates_of, size_of}
use Rattle.pdl_shape.specs.Stretched.{stretched, stretched_position}
use Rattle.pdl_numbers.specs.Updates.{updated}
use Rattle.pdl_lexemes.specs.declared.AssignOp.TheVariants.{Set, With}
use Rattle.pdl_ops.specs.Elementwise.{OpRefusal, values_at, values_of}
use Rattle.pdl_ops.specs.Parts.{StretchedToItself}
use Rattle.pdl_ops.specs.Values.{new_values, wrapped_to}

-- what an array of one element is stretched to has that element everywhere
one_everywhere : PositionLaws → CutsWithin → (sizes joined : List ℕ) (es : List ℤ) (i : ℕ) → BroadcastsTo sizes joined → size_of sizes ≡ 1 → i < size_of joined → get_or (stretched sizes joined es) i (pos 0) ≡ get_or es 0 (pos 0)
one_everywhere laws cuts sizes joined es i b one h =
    let low = laws.position_below sizes (cut_to sizes (coordinates_of joined i)) (cuts sizes joined (coordinates_of joined i) b (laws.coordinates_within joined i h)) in
    let first : stretched_position sizes joined i ≡ 0 = omega (arith, low, one) in
    get_or-map-range_with_len (λ p. get_or es (stretched_position sizes joined p) (pos 0)) 0 (size_of joined) i i (pos 0) h (omega arith)
    ∙ ap (λ q. get_or es q (pos 0)) first

-- a function of each number and one other
pairwise_one : (f : ℤ → ℤ → ℤ) (xs ys : List ℤ) (m : ℤ) → length xs ≡ length ys → ((i : ℕ) → i < length ys → get_or ys i (pos 0) ≡ m) → pairwise f xs ys ≡ map (λ x. f x m) xs
pairwise_one f [] ys m e same = refl
pairwise_one f (x ∷ xs) [] m e same = absurd (omega arith)
pairwise_one f (x ∷ xs) (y ∷ ys) m e same =
    ap₂ ◌∷◌ (ap (f x) (same zero (omega arith))) (pairwise_one f xs ys m (omega arith) (λ i h. same (suc i) (omega (arith, h))))

wrapped_same : WrappingLaws → (t : Ty) (es : List ℤ) → All (InRange t) es → map (wrapped t) es ≡ es
wrapped_same laws t [] all = refl
wrapped_same laws t (e ∷ es) all = ap₂ ◌∷◌ (laws.same t e (All-head (InRange t) e es all)) (wrapped_same laws t es (All-tail (InRange t) e es all))

-- values are wrapped already
wrapped_again : WrappingLaws → (op : BinaryOp) (t : Ty) (m : ℤ) (es : List ℤ) → map (wrapped t) (map (λ x. value_of op t x m) es) ≡ map (λ x. value_of op t x m) es
wrapped_again laws op t m [] = refl
wrapped_again laws op t m (e ∷ es) = ap₂ ◌∷◌ (laws.same t (value_of op t e m) (laws.in_range t (binary_whole op t e m))) (wrapped_again laws op t m es)

-- where no divisor is 0
not_refused : WrappingLaws → (op : BinaryOp) (t : Ty) (xs ys : List ℤ) (m : ℤ) (o : Option ℕ) → length xs ≡ length ys → ((i : ℕ) → i < length ys → get_or ys i (pos 0) ≡ m) → is_ok (wrapped_to t (values_at op t xs ys o)) ≡ true
    → wrapped_to t (values_at op t xs ys o) ≡ Ok (map (λ x. value_of op t x m) xs)
not_refused laws op t xs ys m None e same ok = ap Ok (ap (map (wrapped t)) (pairwise_one (value_of op t) xs ys m e same) ∙ wrapped_again laws op t m xs)
not_refused laws op t xs ys m (Some place) e same ok = (let c : false ≡ true = ok in absurd (cc))

-- the values are what the update makes of the elements
one_written : WrappingLaws → (op : BinaryOp) (t s : Ty) (old new : List ℤ) (n : ℤ) → promoted t s ≡ t → All (InRange t) old → length old ≡ length new → ((i : ℕ) → i < length new → get_or new i (pos 0) ≡ n)
    → is_ok (new_values (With op) t s old new) ≡ true → new_values (With op) t s old new ≡ Ok (map (updated t (record { op = op; number = wrapped t n })) old)
one_written laws op t s old new n same_type all long same ok =
    let at : Ty → Result (List ℤ) OpRefusal = λ y. wrapped_to t (values_of op y (map (wrapped y) old) (map (wrapped y) new)) in
    let here : new_values (With op) t s old new ≡ wrapped_to t (values_of op t old (map (wrapped t) new)) =
    ap at same_type ∙ ap (λ xs. wrapped_to t (values_of op t xs (map (wrapped t) new))) (wrapped_same laws t old all) in
    let many : length (map (wrapped t) new) ≡ length new = length-map new (wrapped t) in
    let each : (i : ℕ) → i < length (map (wrapped t) new) → get_or (map (wrapped t) new) i (pos 0) ≡ wrapped t n = λ i h.
    let low : i < length new = omega (arith, h, many) in
    get_or-map (wrapped t) new i (pos 0) (pos 0) low ∙ ap (wrapped t) (same i low) in
    here ∙ not_refused laws op t old (map (wrapped t) new) (wrapped t n) (zero_at op (map (wrapped t) new)) (long ∙ sym many) each (ap is_ok (sym here) ∙ ok)

-- so they are where the right side has one element, which is stretched over the target's dimensions
pub number_written : WrappingLaws → PositionLaws → CutsWithin → (op : BinaryOp) (t s : Ty) (sizes joined : List ℕ) (old right : List ℤ) (n : ℤ) → promoted t s ≡ t → All (InRange t) old → length old ≡ size_of joined
    → BroadcastsTo sizes joined → size_of sizes ≡ 1 → n ≡ get_or right 0 (pos 0) → is_ok (new_values (With op) t s old (stretched sizes joined right)) ≡ true
    → new_values (With op) t s old (stretched sizes joined right) ≡ Ok (map (updated t (record { op = op; number = wrapped t n })) old)
number_written wraps positions cuts op t s sizes joined old right n same_type all long b one is ok =
    let many : length (stretched sizes joined right) ≡ size_of joined = length-map-range_with_len _ 0 (size_of joined) in
    one_written wraps op t s old (stretched sizes joined right) n same_type all (long ∙ sym many)
    (λ i h. one_everywhere positions cuts sizes joined right i b one (omega (arith, h, many)) ∙ sym is) ok

-- elements of the target's type and dimensions are what is written
pub copy_written : WrappingLaws → StretchedToItself → (t s : Ty) (sizes target : List ℕ) (old right : List ℤ) → s ≡ t → sizes ≡ target → length right ≡ size_of sizes → All (InRange s) right
    → new_values Set t s old (stretched sizes target right) ≡ Ok right
copy_written wraps itself t s sizes target old right same_type same_dims long all =
    ap (λ (ds : List ℕ). Ok (map (wrapped t) (stretched sizes ds right))) (sym same_dims)
    ∙ ap (λ (es : List ℤ). Ok (map (wrapped t) es)) (itself sizes right long)
    ∙ ap Ok (wrapped_same wraps t right (subst (λ (y : Ty). All (InRange y) right) same_type all))
