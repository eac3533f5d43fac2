-- What folds in machine words come to.
use Rattle.std.proofs.Common.{◌≡◌, ℕ, ◌<◌, ◌≤◌, ℤ, pos, ◌+ℤ◌, ◌*ℤ◌, ◌≤ℤ◌, List, [], ◌∷◌, length, take, drop, map, get_or, fold, All, arith, refl, ap, ap₂, sym, ◌∙◌, Result, Ok, Err}
use Rattle.std.specs.Prelude.{OnOk, Bool, true, false, if◌then◌else◌, int_lt}
use Rattle.std.specs.Int.{int_max, int_min, int_wrap, w64}
use Rattle.std.specs.declared.alloc.AllocError.{AllocError}
use Rattle.std.proofs.lemmas.Int.{int_max_is, int_min_is, int_wrap-add_left, int_wrap-mul_left, int_wrap_fits, ints, SFits-int_wrap}
use Rattle.std.proofs.lemmas.List.{get_or-drop, get_or-take}
use Rattle.std.proofs.lemmas.List.Elements.{All-head, All-tail}
use Rattle.pdl_elem.specs.declared.Ty.{Ty}
use Rattle.pdl_elem.specs.declared.Ty.TheVariants.{Long, Longlong}
use Rattle.pdl_elem.specs.Laws.{WrappingLaws}
use Rattle.pdl_elem.specs.Numbers.{wrapped}
use Rattle.pdl_elem.specs.Types.{InRange, highest, lowest}
use Rattle.pdl_reduce.specs.Folds.{total, product, greatest, least}

-- ---- a sum or a product wraps on the way or in the end

abbrev pub adding : ℤ → ℤ → ℤ
adding s x = int_wrap w64 (s +ℤ x)

abbrev pub multiplying : ℤ → ℤ → ℤ
multiplying s x = int_wrap w64 (s *ℤ x)

wrap_again : (z : ℤ) → int_wrap w64 (int_wrap w64 z) ≡ int_wrap w64 z
wrap_again z = int_wrap_fits w64 (int_wrap w64 z) (SFits-int_wrap w64 z)

sum_late : (a b : ℤ) (xs : List ℤ) → int_wrap w64 a ≡ int_wrap w64 b → int_wrap w64 (fold adding a xs) ≡ int_wrap w64 (fold (λ s x. s +ℤ x) b xs)
sum_late a b [] e = e
sum_late a b (x ∷ xs) e =
    sum_late (int_wrap w64 (a +ℤ x)) (b +ℤ x) xs
    (wrap_again (a +ℤ x) ∙ sym (int_wrap-add_left w64 a x) ∙ ap (λ (z : ℤ). int_wrap w64 (z +ℤ x)) e ∙ int_wrap-add_left w64 b x)

product_late : (a b : ℤ) (xs : List ℤ) → int_wrap w64 a ≡ int_wrap w64 b → int_wrap w64 (fold multiplying a xs) ≡ int_wrap w64 (fold (λ s x. s *ℤ x) b xs)
product_late a b [] e = e
product_late a b (x ∷ xs) e =
    product_late (int_wrap w64 (a *ℤ x)) (b *ℤ x) xs
    (wrap_again (a *ℤ x) ∙ sym (int_wrap-mul_left w64 a x) ∙ ap (λ (z : ℤ). int_wrap w64 (z *ℤ x)) e ∙ int_wrap-mul_left w64 b x)

pub wrapped_sum : WrappingLaws → (t : Ty) (xs : List ℤ) → wrapped t (fold adding (pos 0) xs) ≡ wrapped t (total xs)
wrapped_sum laws t xs = sym (laws.late t (fold adding (pos 0) xs)) ∙ ap (wrapped t) (sum_late (pos 0) (pos 0) xs refl) ∙ laws.late t (total xs)

pub wrapped_product : WrappingLaws → (t : Ty) (xs : List ℤ) → wrapped t (fold multiplying (pos 1) xs) ≡ wrapped t (product xs)
wrapped_product laws t xs = sym (laws.late t (fold multiplying (pos 1) xs)) ∙ ap (wrapped t) (product_late (pos 1) (pos 1) xs refl) ∙ laws.late t (product xs)

-- ---- extremes

same_both : (b : Bool) (x : ℤ) → (if b then x else x) ≡ x
same_both true x = refl
same_both false x = refl

either : (P : ℤ → Type 0) (b : Bool) (x y : ℤ) → P x → P y → P (if b then x else y)
either P true x y p q = p
either P false x y p q = q

pub greatest_is : (zs : List ℤ) (s : ℤ) → 0 < length zs → s ≡ get_or zs 0 (pos 0) → fold int_max s zs ≡ greatest zs
greatest_is [] s h e = absurd (omega (arith, h))
greatest_is (x ∷ xs) s h e = ap (λ (z : ℤ). fold int_max (int_max z x) xs) e ∙ ap (λ (z : ℤ). fold int_max z xs) (same_both (int_lt x x) x)

pub least_is : (zs : List ℤ) (s : ℤ) → 0 < length zs → s ≡ get_or zs 0 (pos 0) → fold int_min s zs ≡ least zs
least_is [] s h e = absurd (omega (arith, h))
least_is (x ∷ xs) s h e = ap (λ (z : ℤ). fold int_min (int_min z x) xs) e ∙ ap (λ (z : ℤ). fold int_min z xs) (same_both (int_lt x x) x)

pub greatest_in : (P : ℤ → Type 0) (s : ℤ) (xs : List ℤ) → P s → All P xs → P (fold int_max s xs)
greatest_in P s [] p h = p
greatest_in P s (x ∷ xs) p h = greatest_in P (int_max s x) xs (either P (int_lt x s) s x p (All-head P x xs h)) (All-tail P x xs h)

pub least_in : (P : ℤ → Type 0) (s : ℤ) (xs : List ℤ) → P s → All P xs → P (fold int_min s xs)
least_in P s [] p h = p
least_in P s (x ∷ xs) p h = least_in P (int_min s x) xs (either P (int_lt x s) x s (All-head P x xs h) p) (All-tail P x xs h)

-- numbers of the type stay as they are
pub wrapped_same : WrappingLaws → (ty : Ty) (xs : List ℤ) → All (InRange ty) xs → xs ≡ map (wrapped ty) xs
wrapped_same laws ty [] all = refl
wrapped_same laws ty (x ∷ xs) all =
    ap₂ (λ (z : ℤ) (zs : List ℤ). z ∷ zs) (sym (laws.same ty x (All-head (InRange ty) x xs all))) (wrapped_same laws ty xs (All-tail (InRange ty) x xs all))

-- the greatest may be looked for from the least machine number on, and the least from the greatest one on
pub greatest_from : WrappingLaws → (ty : Ty) (xs : List ℤ) → 0 < length xs → All (InRange ty) xs → wrapped ty (fold int_max (lowest Longlong) xs) ≡ greatest xs
greatest_from laws ty [] some all = absurd (omega (arith, some))
greatest_from laws ty (x ∷ xs) some all =
    let first : InRange ty x = All-head (InRange ty) x xs all in
    let above : lowest Longlong ≤ℤ x = (laws.widest ty x first).0 in
    let from_first : int_max (lowest Longlong) x ≡ x = omega (arith, ints, int_max_is (lowest Longlong) x, above) in
    ap (λ (z : ℤ). wrapped ty (fold int_max z xs)) from_first
    ∙ laws.same ty (fold int_max x xs) (greatest_in (InRange ty) x xs first (All-tail (InRange ty) x xs all))

pub least_from : WrappingLaws → (ty : Ty) (xs : List ℤ) → 0 < length xs → All (InRange ty) xs → wrapped ty (fold int_min (highest Longlong) xs) ≡ least xs
least_from laws ty [] some all = absurd (omega (arith, some))
least_from laws ty (x ∷ xs) some all =
    let first : InRange ty x = All-head (InRange ty) x xs all in
    let below : x ≤ℤ highest Longlong = (laws.widest ty x first).1 in
    let from_first : int_min (highest Longlong) x ≡ x = omega (arith, ints, int_min_is (highest Longlong) x, below) in
    ap (λ (z : ℤ). wrapped ty (fold int_min z xs)) from_first
    ∙ laws.same ty (fold int_min x xs) (least_in (InRange ty) x xs first (All-tail (InRange ty) x xs all))

-- the first of so many elements from a place on
pub first_of : (xs : List ℤ) (first count : ℕ) → 0 < count → get_or (take count (drop first xs)) 0 (pos 0) ≡ get_or xs first (pos 0)
first_of xs first count h =
    get_or-take count (drop first xs) 0 (pos 0) h ∙ get_or-drop first xs 0 (pos 0) ∙ ap (λ (n : ℕ). get_or xs n (pos 0)) (omega arith)

-- ---- results

pub added_as : (r : Result (Unit {0}) AllocError) (new us vs : List ℤ) → OnOk r (new ≡ us) → us ≡ vs → OnOk r (new ≡ vs)
added_as (Ok u) new us vs e f = e ∙ f
added_as (Err e) new us vs g f = tt

-- a place in an array is a number of type long
pub place_in : (n : ℕ) → n ≤ 1048576 → InRange Long (pos n)
place_in n h = grind (arith, h)
