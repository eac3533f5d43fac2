-- Lists made from numbers at each place, and the loops that write them.
use Rattle.std.proofs.Common.{◌≡◌, ℕ, zero, suc, ◌+◌, ◌-◌, ◌<◌, ◌≤◌, ℤ, pos, List, [], ◌∷◌, ◌++◌, length, get_or, set, take, drop, map, All, arith, refl, ap, sym, subst, ◌∙◌, append-nil}
use Rattle.std.proofs.lemmas.List.{take_more, take_more_set, take_all, drop_all, length-map, length-take-le, get_or-append_right, get_or-drop, get_or_default}
use Rattle.std.proofs.lemmas.List.Edits.{map_over_more}
use Rattle.std.proofs.lemmas.List.Elements.{All-map, All-nil, All-cons}
use Rattle.std.proofs.Math.Path.{ap₂}
use Rattle.pdl_elem.specs.Blocks.{pairwise}
use Rattle.pdl_elem.specs.declared.BinaryOp.{BinaryOp}
use Rattle.pdl_elem.specs.declared.Ty.{Ty}
use Rattle.pdl_elem.specs.Operators.{value_of}
use Rattle.pdl_elem.specs.Types.{InRange, binary_result}
use Rattle.pdl_elem.proofs.OperatorRanges.{binary_in_range}

pub pairwise_length : (f : ℤ → ℤ → ℤ) (ns bs : List ℤ) → length bs ≡ length ns → length (pairwise f ns bs) ≡ length ns
pairwise_length f [] bs e = refl
pairwise_length f (x ∷ xs) [] e = absurd (omega arith)
pairwise_length f (x ∷ xs) (y ∷ ys) e = ap suc (pairwise_length f xs ys (omega arith))

pub pairwise_at : (f : ℤ → ℤ → ℤ) (ns bs : List ℤ) (i : ℕ) (d e g : ℤ) → i < length ns → i < length bs → get_or (pairwise f ns bs) i d ≡ f (get_or ns i e) (get_or bs i g)
pairwise_at f [] bs i d e g h k = absurd (omega arith)
pairwise_at f (x ∷ xs) [] i d e g h k = absurd (omega arith)
pairwise_at f (x ∷ xs) (y ∷ ys) zero d e g h k = refl
pairwise_at f (x ∷ xs) (y ∷ ys) (suc i) d e g h k = pairwise_at f xs ys i d e g (omega arith) (omega arith)

-- one more element written
pub pairs_more : (f : ℤ → ℤ → ℤ) (ns bs es : List ℤ) (i : ℕ) (y : ℤ) → length ns ≡ length es → length bs ≡ length es → i < length es → take i es ≡ take i (pairwise f ns bs) → y ≡ f (get_or ns i (pos 0)) (get_or bs i (pos 0)) → take (i + 1) (set es i y) ≡ take (i + 1) (pairwise f ns bs)
pairs_more f ns bs es i y p q h t e =
    let l : length (pairwise f ns bs) ≡ length ns = pairwise_length f ns bs (omega arith) in
    take_more_set es i y h
    ∙ ap₂ (λ u v. u ++ v ∷ []) t (e ∙ sym (pairwise_at f ns bs i (pos 0) (pos 0) (pos 0) (omega arith) (omega arith)))
    ∙ sym (take_more (pairwise f ns bs) i (pos 0) (omega arith))

-- all written
pub pairs_all : (f : ℤ → ℤ → ℤ) (ns bs es : List ℤ) (n : ℕ) → length ns ≡ length es → length bs ≡ length es → length es ≤ n → take n es ≡ take n (pairwise f ns bs) → es ≡ pairwise f ns bs
pairs_all f ns bs es n p q h t =
    let l : length (pairwise f ns bs) ≡ length ns = pairwise_length f ns bs (omega arith) in
    sym (take_all n es h) ∙ t ∙ take_all n (pairwise f ns bs) (omega arith)

-- what holds of whatever the function gives
pub all_pairs : (P : ℤ → Type 0) (f : ℤ → ℤ → ℤ) → ((x y : ℤ) → P (f x y)) → (xs ys : List ℤ) → All P (pairwise f xs ys)
all_pairs P f h [] ys = All-nil P
all_pairs P f h (x ∷ xs) [] = All-nil P
all_pairs P f h (x ∷ xs) (y ∷ ys) = All-cons P (f x y) (pairwise f xs ys) (h x y) (all_pairs P f h xs ys)

-- each value is a number of the operator's result type
pub pairwise_in_range : (op : BinaryOp) (t : Ty) (xs ys : List ℤ) → All (InRange (binary_result op t t)) (pairwise (value_of op t) xs ys)
pairwise_in_range op t = all_pairs (InRange (binary_result op t t)) (value_of op t) (binary_in_range op t)

-- ---- a list that is written over, number by number

-- the next number still stands
pub ahead : (f : ℤ → ℤ) (xs ys : List ℤ) (i : ℕ) → i < length xs → ys ≡ map f (take i xs) ++ drop i xs → get_or ys i (pos 0) ≡ get_or xs i (pos 0)
ahead f xs ys i h e =
    let l : length (map f (take i xs)) ≡ i = rw length-map (length-take-le i xs (omega arith)) in
    let same : i + (i - i) ≡ i = omega arith in
    ap (λ zs. get_or zs i (pos 0)) e
    ∙ get_or-append_right (map f (take i xs)) (drop i xs) i i (pos 0) l (omega arith)
    ∙ get_or-drop i xs (i - i) (pos 0)
    ∙ ap (λ k. get_or xs k (pos 0)) same

-- one more is written
pub mapped_more : (f : ℤ → ℤ) (xs ys : List ℤ) (i : ℕ) (y : ℤ) → i < length ys → ys ≡ map f (take i xs) ++ drop i xs → length ys ≡ length xs → y ≡ f (get_or ys i (pos 0)) → set ys i y ≡ map f (take (i + 1) xs) ++ drop (i + 1) xs
mapped_more f xs ys i y h e l v = ap (set ys i) v ∙ map_over_more f xs ys i (get_or ys i (pos 0)) (omega arith) e (get_or_default ys i (pos 0) (get_or ys i (pos 0)) h)

-- all are written
pub mapped_all : (f : ℤ → ℤ) (xs ys : List ℤ) (n : ℕ) → length ys ≤ n → length ys ≡ length xs → ys ≡ map f (take n xs) ++ drop n xs → ys ≡ map f xs
mapped_all f xs ys n h l e =
    e ∙ ap₂ (λ us vs. map f us ++ vs) (take_all n xs (omega arith)) (drop_all n xs (omega arith)) ∙ append-nil (map f xs)

pub mapped_in_range : (t : Ty) (f : ℤ → ℤ) → ((x : ℤ) → InRange t (f x)) → (xs : List ℤ) → All (InRange t) (map f xs)
mapped_in_range t f each xs = All-map (InRange t) f xs (λ k d h. each (get_or xs k d))
