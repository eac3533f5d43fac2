-- Cells that are read and set at places.
use Rattle.std.proofs.Common.{◌≡◌, ℕ, ◌<◌, ℤ, pos, List, length, map, get_or, ap, sym, subst, ◌∙◌, inl, inr, All}
use Rattle.std.specs.Prelude.{Option, None, Some}
use Rattle.std.proofs.lemmas.Bool.{cases_lt}
use Rattle.std.proofs.lemmas.List.{get_or-map, get_or_past}
use Rattle.std.proofs.lemmas.List.Elements.{All-get_or, All-map}
use Rattle.pdl_elem.specs.Laws.{WrappingLaws}
use Rattle.pdl_elem.specs.declared.Ty.{Ty}
use Rattle.pdl_elem.specs.Types.{InRange}
use Rattle.pdl_shape.specs.Places.{element_at, read}
use Rattle.pdl_numbers.specs.Bytes.{ArePacked, IsPacked, bytes_of, number_of}
use Rattle.pdl_numbers.proofs.UpdateLemmas.{number_in_range}

-- a cell is the bytes of the number that stands there
pub cell_here : (t : Ty) (cells : List (List ℕ)) (p : ℕ) (cell : List ℕ) → p < length cells → cell ≡ get_or cells p cell → ArePacked t cells
    → cell ≡ bytes_of t (get_or (map (number_of t) cells) p (pos 0))
cell_here t cells p cell h is all =
    let packed : IsPacked t cell = subst (IsPacked t) (sym is) (All-get_or (IsPacked t) cells p cell h all) in
    let here : get_or (map (number_of t) cells) p (pos 0) ≡ number_of t cell = get_or-map (number_of t) cells p cell (pos 0) h ∙ ap (number_of t) (sym is) in
    sym packed ∙ ap (bytes_of t) (sym here)

-- what is read of numbers of a type is of the type
element_in_range : WrappingLaws → (t : Ty) (es : List ℤ) (place : Option ℕ) → All (InRange t) es → InRange t (element_at es place)
element_in_range laws t es None all = laws.zero t
element_in_range laws t es (Some p) all =
    elim (cases_lt p (length es)) [
      | inl low ↦ All-get_or (InRange t) es p (pos 0) low all
      | inr high ↦ subst (InRange t) (sym (get_or_past es p (pos 0) high)) (laws.zero t)
    ]

pub read_in_range : WrappingLaws → (t : Ty) (ps : List (Option ℕ)) (cells : List (List ℕ)) → All (InRange t) (read ps (map (number_of t) cells))
read_in_range laws t ps cells =
    let es : List ℤ = map (number_of t) cells in
    let all : All (InRange t) es = All-map (InRange t) (number_of t) cells (λ k d h. number_in_range laws t (get_or cells k d)) in
    All-map (InRange t) (element_at es) ps (λ k d h. element_in_range laws t es (get_or ps k d) all)
