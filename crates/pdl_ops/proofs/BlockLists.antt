-- Lists that are made from others number by number.
use Rattle.std.proofs.Common.{◌≡◌, ℕ, suc, ◌+◌, ◌<◌, ◌≤◌, ℤ, pos, List, [], ◌∷◌, ◌++◌, length, set, take, drop, map, All, arith, refl, ap, ap₂, sym, ◌∙◌}
use Rattle.std.proofs.lemmas.List.{ext_get_or, get_or-drop, get_or-take, length-drop, length-take-le, take_more, take_more_set, take_all, take-map}
use Rattle.std.proofs.lemmas.List.FromFn.{length-map-range_with_len, get_or-map-range_with_len}
use Rattle.std.specs.List.{range_with_len}
use Rattle.pdl_elem.specs.declared.Ty.{Ty}
use Rattle.pdl_elem.specs.Blocks.{pairwise}
use Rattle.pdl_elem.specs.Laws.{WrappingLaws}
use Rattle.pdl_elem.specs.Numbers.{wrapped}
use Rattle.pdl_elem.specs.Types.{InRange}

-- numbers of a type are wrapped to themselves
pub wrapped_stay : WrappingLaws → (t : Ty) (xs : List ℤ) → All (InRange t) xs → map (wrapped t) xs ≡ xs
wrapped_stay laws t [] h = refl
wrapped_stay laws t (x ∷ xs) h = ap₂ (λ (y : ℤ) (ys : List ℤ). y ∷ ys) (laws.same t x (h 0 x (omega arith))) (wrapped_stay laws t xs (λ k d below. h (suc k) d (omega arith)))

-- and so are the first of them
pub wrapped_first : WrappingLaws → (t : Ty) (xs : List ℤ) (k : ℕ) → All (InRange t) xs → map (wrapped t) (take k xs) ≡ take k xs
wrapped_first laws t xs k h =
    let cut : map (wrapped t) (take k xs) ≡ take k (map (wrapped t) xs) = simp take-map in
    cut ∙ ap (take k) (wrapped_stay laws t xs h)

-- what is made of two lists, one after the other
pub pairwise_append : (f : ℤ → ℤ → ℤ) (xs ys us vs : List ℤ) → length xs ≡ length ys → pairwise f (xs ++ us) (ys ++ vs) ≡ pairwise f xs ys ++ pairwise f us vs
pairwise_append f [] [] us vs e = refl
pairwise_append f [] (y ∷ ys) us vs e = absurd (omega arith)
pairwise_append f (x ∷ xs) [] us vs e = absurd (omega arith)
pairwise_append f (x ∷ xs) (y ∷ ys) us vs e = ap (λ (zs : List ℤ). f x y ∷ zs) (pairwise_append f xs ys us vs (omega arith))

-- one function after another
pub map_twice : {A : Type 0} (f : ℤ → ℤ) (g : A → ℤ) (xs : List A) → map f (map g xs) ≡ map (λ x. f (g x)) xs
map_twice f g [] = refl
map_twice f g (x ∷ xs) = ap (λ (ys : List ℤ). f (g x) ∷ ys) (map_twice f g xs)

-- ---- a list that is set from the front

-- one number more
pub set_more : (f : ℕ → ℤ) (n : ℕ) (es : List ℤ) (i : ℕ) (y : ℤ) → length es ≡ n → i < n → take i es ≡ take i (map f (range_with_len 0 n)) → y ≡ f i
    → take (i + 1) (set es i y) ≡ take (i + 1) (map f (range_with_len 0 n))
set_more f n es i y l h t e =
    let m : length (map f (range_with_len 0 n)) ≡ n = length-map-range_with_len f 0 n in
    take_more_set es i y (omega arith)
    ∙ ap₂ (λ (us : List ℤ) (v : ℤ). us ++ v ∷ []) t (e ∙ sym (get_or-map-range_with_len f 0 n i i (pos 0) h (omega arith)))
    ∙ sym (take_more (map f (range_with_len 0 n)) i (pos 0) (omega arith))

-- all of them
pub set_all : (f : ℕ → ℤ) (n : ℕ) (es : List ℤ) (k : ℕ) → length es ≡ n → n ≤ k → take k es ≡ take k (map f (range_with_len 0 n)) → es ≡ map f (range_with_len 0 n)
set_all f n es k l h t =
    let m : length (map f (range_with_len 0 n)) ≡ n = length-map-range_with_len f 0 n in
    sym (take_all k es (omega arith)) ∙ t ∙ take_all k (map f (range_with_len 0 n)) (omega arith)

-- a part of a list that is made number by number
pub part_of_range : (f : ℕ → ℤ) (n k m : ℕ) → k + m ≤ n → map (λ (i : ℕ). f (k + i)) (range_with_len 0 m) ≡ take m (drop k (map f (range_with_len 0 n)))
part_of_range f n k m h =
    let all : List ℤ = map f (range_with_len 0 n) in
    let l : length all ≡ n = length-map-range_with_len f 0 n in
    let part : length (take m (drop k all)) ≡ m = length-take-le m (drop k all) (omega (arith, l, length-drop k all)) in
    let made : length (map (λ (i : ℕ). f (k + i)) (range_with_len 0 m)) ≡ m = length-map-range_with_len (λ (i : ℕ). f (k + i)) 0 m in
    ext_get_or (pos 0) _ _ (made ∙ sym part)
    (λ i inside. get_or-map-range_with_len (λ (i : ℕ). f (k + i)) 0 m i i (pos 0) (omega (arith, made, inside)) (omega arith)
    ∙ sym (get_or-take m (drop k all) i (pos 0) (omega (arith, made, inside)) ∙ get_or-drop k all i (pos 0)
    ∙ get_or-map-range_with_len f 0 n (k + i) (k + i) (pos 0) (omega (arith, made, inside)) (omega arith)))
