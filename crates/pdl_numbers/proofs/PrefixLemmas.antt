-- What numbers come to up to each of them.
use Rattle.std.proofs.Common.{◌≡◌, ℕ, zero, suc, ◌+◌, ◌<◌, ℤ, pos, List, [], ◌∷◌, ◌++◌, length, take, get_or, fold, All, arith, refl, ap, sym, subst, ◌∙◌}
use Rattle.std.proofs.lemmas.List.Elements.{All-from_get_or}
use Rattle.pdl_elem.specs.declared.Ty.{Ty}
use Rattle.pdl_elem.specs.Laws.{WrappingLaws}
use Rattle.pdl_elem.specs.Numbers.{wrapped}
use Rattle.pdl_elem.specs.Types.{InRange}
use Rattle.pdl_numbers.specs.Laws.{PrefixLaws}
use Rattle.pdl_numbers.specs.Prefixes.{wrapped_prefixes}

pub prefix_count : (t : Ty) (f : ℤ → ℤ → ℤ) (a : ℤ) (xs : List ℤ) → length (wrapped_prefixes t f a xs) ≡ length xs
prefix_count t f a [] = refl
prefix_count t f a (x ∷ xs) = ap suc (prefix_count t f (f a x) xs)

pub prefix_at : (t : Ty) (f : ℤ → ℤ → ℤ) (a : ℤ) (xs : List ℤ) (i : ℕ) → i < length xs
    → get_or (wrapped_prefixes t f a xs) i (pos 0) ≡ wrapped t (fold f a (take (i + 1) xs))
prefix_at t f a [] i h = absurd (omega (arith, h))
prefix_at t f a (x ∷ xs) zero h = refl
prefix_at t f a (x ∷ xs) (suc i) h =
    let same : suc (i + 1) ≡ suc i + 1 = omega arith in
    prefix_at t f (f a x) xs i (omega (arith, h)) ∙ ap (λ (n : ℕ). wrapped t (fold f a (take n (x ∷ xs)))) same

pub prefixes_behind : (t : Ty) (f : ℤ → ℤ → ℤ) (a : ℤ) (xs ys : List ℤ)
    → wrapped_prefixes t f a (xs ++ ys) ≡ wrapped_prefixes t f a xs ++ wrapped_prefixes t f (fold f a xs) ys
prefixes_behind t f a [] ys = refl
prefixes_behind t f a (x ∷ xs) ys = ap (λ zs. wrapped t (f a x) ∷ zs) (prefixes_behind t f (f a x) xs ys)

pub prefixes : PrefixLaws
prefixes = record { as_many = prefix_count; at = prefix_at; behind = prefixes_behind }

-- they are numbers of the type
pub prefixes_in : WrappingLaws → (t : Ty) (f : ℤ → ℤ → ℤ) (a : ℤ) (xs : List ℤ) → All (InRange t) (wrapped_prefixes t f a xs)
prefixes_in laws t f a xs =
    All-from_get_or (InRange t) (wrapped_prefixes t f a xs) (pos 0)
    (λ i h. subst (InRange t) (sym (prefix_at t f a xs i (omega (arith, prefix_count t f a xs, h)))) (laws.in_range t (fold f a (take (i + 1) xs))))
