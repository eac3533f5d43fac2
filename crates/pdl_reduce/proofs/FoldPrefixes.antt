-- What the numbers up to each place come to.
use Rattle.std.proofs.Common.{◌≡◌, ℕ, ◌+◌, ◌<◌, ℤ, pos, List, length, take, get_or, fold, arith, sym, ◌∙◌}
use Rattle.std.proofs.lemmas.List.{ext_get_or}
use Rattle.std.proofs.lemmas.List.FromFn.{length-map-range_with_len, get_or-map-range_with_len}
use Rattle.pdl_elem.specs.declared.Ty.{Ty}
use Rattle.pdl_elem.specs.Numbers.{wrapped}
use Rattle.pdl_numbers.specs.Laws.{PrefixLaws}
use Rattle.pdl_numbers.specs.Prefixes.{wrapped_prefixes}
use Rattle.pdl_reduce.specs.Folds.{at_prefixes}

prefix_at : (g : List ℤ → ℤ) (xs : List ℤ) (i : ℕ) → i < length xs → get_or (at_prefixes g xs) i (pos 0) ≡ g (take (i + 1) xs)
prefix_at g xs i h = get_or-map-range_with_len (λ i. g (take (i + 1) xs)) 0 (length xs) i i (pos 0) h (omega arith)

pub prefixes_length : (g : List ℤ → ℤ) (xs : List ℤ) → length (at_prefixes g xs) ≡ length xs
prefixes_length g xs = length-map-range_with_len _ 0 (length xs)

pub prefixes_are : PrefixLaws → (t : Ty) (f : ℤ → ℤ → ℤ) (a : ℤ) (g : List ℤ → ℤ) (xs : List ℤ) → ((ys : List ℤ) → wrapped t (fold f a ys) ≡ g ys)
    → wrapped_prefixes t f a xs ≡ at_prefixes g xs
prefixes_are laws t f a g xs same =
    let long : length (wrapped_prefixes t f a xs) ≡ length xs = laws.as_many t f a xs in
    ext_get_or (pos 0) (wrapped_prefixes t f a xs) (at_prefixes g xs) (long ∙ sym (prefixes_length g xs))
    (λ i h. let small : i < length xs = omega (arith, long, h) in laws.at t f a xs i small ∙ same (take (i + 1) xs) ∙ sym (prefix_at g xs i small))
