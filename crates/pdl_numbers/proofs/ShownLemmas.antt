-- What a triple shows, number by number.
use Rattle.std.proofs.Common.{◌≡◌, ℕ, ◌+◌, ◌<◌, ◌≤◌, ℤ, pos, List, length, take, drop, get_or, All, arith, refl, sym, ◌∙◌, subst}
use Rattle.std.proofs.lemmas.List.{ext_get_or, get_or-take, get_or-drop, length-take-le, length-drop}
use Rattle.std.proofs.lemmas.List.Elements.{All-get_or, All-from_get_or}
use Rattle.std.proofs.lemmas.List.FromFn.{length-map-range_with_len}
use Rattle.pdl_elem.specs.declared.Ty.{Ty}
use Rattle.pdl_elem.specs.Types.{InRange}
use Rattle.pdl_shape.specs.Laws.{PositionLaws}
use Rattle.pdl_shape.specs.Shape.{size_of}
use Rattle.pdl_shape.specs.Triple.{Triple, IsTriple, Reaches}
use Rattle.pdl_numbers.specs.Laws.{ShownLaws}
use Rattle.pdl_numbers.specs.Reads.{HasRead}
use Rattle.pdl_numbers.specs.Shown.{place_at, shown_through}
use Rattle.pdl_numbers.proofs.ShownWalks.{shown_at, shown_element}

counted : (t : Triple) (es : List ℤ) → length (shown_through t es) ≡ size_of t.dims
counted t es = length-map-range_with_len (λ k. get_or es (place_at t k) (pos 0)) 0 (size_of t.dims)

element : (t : Triple) (es : List ℤ) (p : ℕ) → p < size_of t.dims → get_or (shown_through t es) p (pos 0) ≡ get_or es (place_at t p) (pos 0)
element t es p h = sym (shown_element t es (shown_through t es) p refl h)

pub block : (t : Triple) (es rs : List ℤ) (first count : ℕ) → length rs ≡ count → first + count ≤ size_of t.dims → HasRead t es first count rs → rs ≡ take count (drop first (shown_through t es))
block t es rs first count long inside read =
    let shown = shown_through t es in
    let l : length (take count (drop first shown)) ≡ count = length-take-le count (drop first shown) (omega (arith, length-drop first shown, counted t es)) in
    ext_get_or (pos 0) rs (take count (drop first shown)) (omega arith)
    (λ k h. read k (omega arith)
    ∙ sym (element t es (first + k) (omega arith))
    ∙ sym (get_or-take count (drop first shown) k (pos 0) (omega arith) ∙ get_or-drop first shown k (pos 0)))

in_range : PositionLaws → (ty : Ty) (t : Triple) (es : List ℤ) → IsTriple t → Reaches t (length es) → All (InRange ty) es → All (InRange ty) (shown_through t es)
in_range laws ty t es ok reach all =
    All-from_get_or (InRange ty) (shown_through t es) (pos 0)
    (λ k h.
    let inside : k < size_of t.dims = omega (arith, h, counted t es) in
    subst (λ z. InRange ty z) (sym (element t es k inside))
    (All-get_or (InRange ty) es (place_at t k) (pos 0) (shown_at laws t (length es) k ok reach inside).below all))

pub shown : PositionLaws → ShownLaws
shown laws = record {
  count = counted;
  element = element;
  below = λ t n p ok reach h. (shown_at laws t n p ok reach h).below;
  block = block;
  in_range = in_range laws;
}
