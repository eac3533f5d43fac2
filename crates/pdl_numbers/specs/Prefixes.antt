-- What numbers come to up to each of them (PDL::Ufunc, the cumulating reductions).
use Rattle.std.specs.Prelude.{ℤ, List}
use Rattle.std.specs.List.{scan}
use Rattle.pdl_elem.specs.declared.Ty.{Ty}
use Rattle.pdl_elem.specs.Numbers.{wrapped}

-- what numbers that are taken in one after another, from a start on, come to with each of them,
-- wrapped to a type
abbrev pub wrapped_prefixes : Ty → (taken : ℤ → ℤ → ℤ) → (start : ℤ) → List ℤ → List ℤ
wrapped_prefixes ty taken = scan taken (λ so_far number. wrapped ty (taken so_far number))
