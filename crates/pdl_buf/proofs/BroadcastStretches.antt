-- What a stretched window shows.
use Rattle.std.proofs.Common.{◌≡◌, ℕ, ◌<◌, ℤ, pos, List, length, map, get_or, arith, ap, sym, ◌∙◌}
use Rattle.std.specs.Prelude.{unsigned_abs}
use Rattle.std.specs.List.{range_with_len}
use Rattle.std.proofs.lemmas.List.{ext_get_or}
use Rattle.std.proofs.lemmas.List.FromFn.{length-map-range_with_len, get_or-map-range_with_len}
use Rattle.pdl_shape.specs.Broadcast.{BroadcastsTo, cut_to}
use Rattle.pdl_shape.specs.Laws.{PositionLaws, CutsWithin}
use Rattle.pdl_shape.specs.Shape.{IsWithin, size_of, coordinates_of, position_of}
use Rattle.pdl_shape.specs.Stretched.{stretched, stretched_position}
use Rattle.pdl_shape.specs.Triple.{Triple, place_of}
use Rattle.pdl_numbers.specs.Shown.{place_at, shown_through}

-- a triple that shows the places of the cut coordinates shows the stretched elements
pub shown_stretched : PositionLaws → CutsWithin → (t r : Triple) (js : List ℕ) (es : List ℤ) → r.dims ≡ js → BroadcastsTo t.dims js
    → ((cs : List ℕ) → IsWithin js cs → place_of r cs ≡ place_of t (cut_to t.dims cs)) → shown_through r es ≡ stretched t.dims js (shown_through t es)
shown_stretched laws cuts t r js es same stretches shows =
    let f : ℕ → ℤ = λ p. get_or es (unsigned_abs (place_of r (coordinates_of js p))) (pos 0) in
    let g : ℕ → ℤ = λ p. get_or (shown_through t es) (stretched_position t.dims js p) (pos 0) in
    let h : ℕ → ℤ = λ p. get_or es (place_at t p) (pos 0) in
    let l : length (map f (range_with_len 0 (size_of js))) ≡ size_of js = length-map-range_with_len f 0 (size_of js) in
    let m : length (stretched t.dims js (shown_through t es)) ≡ size_of js = length-map-range_with_len g 0 (size_of js) in
    ap (λ (ds : List ℕ). map (λ p. get_or es (unsigned_abs (place_of r (coordinates_of ds p))) (pos 0)) (range_with_len 0 (size_of ds))) same
    ∙ ext_get_or (pos 0) (map f (range_with_len 0 (size_of js))) (stretched t.dims js (shown_through t es)) (l ∙ sym m)
    (λ p within.
    let small : p < size_of js = omega (arith, l, within) in
    let cs : List ℕ = coordinates_of js p in
    let w : IsWithin js cs = laws.coordinates_within js p small in
    let v : IsWithin t.dims (cut_to t.dims cs) = cuts t.dims js cs stretches w in
    let q : ℕ = position_of t.dims (cut_to t.dims cs) in
    let below : q < size_of t.dims = laws.position_below t.dims (cut_to t.dims cs) v in
    let again : coordinates_of t.dims q ≡ cut_to t.dims cs = laws.coordinates_again t.dims (cut_to t.dims cs) v in
    get_or-map-range_with_len f 0 (size_of js) p p (pos 0) small (omega arith)
    ∙ ap (λ (z : ℤ). get_or es (unsigned_abs z) (pos 0)) (shows cs w ∙ ap (λ (xs : List ℕ). place_of t xs) (sym again))
    ∙ sym (get_or-map-range_with_len h 0 (size_of t.dims) q q (pos 0) below (omega arith))
    ∙ sym (get_or-map-range_with_len g 0 (size_of js) p p (pos 0) small (omega arith)))
