-- A list that is kept part by part.
use Rattle.std.proofs.Common.{◌≡◌, ℕ, ◌+◌, ℤ, List, ◌++◌, take, drop, ap, ap₂, sym, ◌∙◌}
use Rattle.std.proofs.Math.Seq.{take-add}
use Rattle.pdl_elem.specs.declared.Ty.{Ty}
use Rattle.pdl_numbers.specs.Typed.{TypedElements}

-- what is kept, with more numbers after the others
abbrev pub and_more : TypedElements → List ℤ → TypedElements
and_more k es = record { ty = k.ty; elems = k.elems ++ es }

abbrev of_type : Ty → List ℤ → TypedElements
of_type ty es = record { ty = ty; elems = es }

-- one part of a list more is kept
pub kept_more : (ty : Ty) (kept next : TypedElements) (es part : List ℤ) (k n : ℕ) → kept ≡ record { ty = ty; elems = take k es } → part ≡ take n (drop k es) → next ≡ and_more kept part
    → next ≡ record { ty = ty; elems = take (k + n) es }
kept_more ty kept next es part k n h p e =
    e ∙ ap₂ and_more h p ∙ ap (of_type ty) (sym (take-add k n es))
