-- Values that go through places, from a position on.
use Rattle.std.proofs.Common.{◌≡◌, ◌+◌, ◌-◌, ◌<◌, ◌≤◌, ℕ, ℤ, List, [], ◌∷◌, length, take, drop, get_or, map, Option, Some, None, refl, sym, ◌∙◌, ap, arith}
use Rattle.std.specs.List.{list_all, range_with_len}
use Rattle.std.specs.Prelude.{is_some, true}
use Rattle.std.proofs.lemmas.Bool.{true_from_ne_false, true≢false}
use Rattle.std.proofs.lemmas.List.{ext_get_or, get_or-take, get_or-drop, length-take-le, length-drop}
use Rattle.std.proofs.lemmas.List.Folds.{list_all_at}
use Rattle.std.proofs.lemmas.List.FromFn.{length-map-range_with_len, get_or-map-range_with_len}
use Rattle.std.proofs.lemmas.Simd.{map-map}
use Rattle.pdl_lemmas.specs.Lists.{map-range_same}
use Rattle.pdl_shape.specs.Shape.{size_of}
use Rattle.pdl_shape.specs.Places.{put, write}
use Rattle.pdl_shape.specs.Triple.{Triple}
use Rattle.pdl_numbers.specs.Shown.{place_at}
use Rattle.pdl_numbers.specs.Writes.{placed_from}
use Rattle.pdl_nodes.specs.Assigned.{entry, seen, seen_at}
use Rattle.pdl_nodes.specs.Spots.{spots}

-- as many places as values are written
pub write_few : (ps : List (Option ℕ)) (vs es : List ℤ) → write (take (length vs) ps) vs es ≡ write ps vs es
write_few [] [] es = refl
write_few [] (x ∷ vs) es = refl
write_few (p ∷ ps) [] es = refl
write_few (p ∷ ps) (x ∷ vs) es = write_few ps vs (put p x es)

-- the places of so many positions from one on are those of a route that begins there
places_from : (f : ℕ → Option ℕ) (size first n : ℕ) → first + n ≤ size → map (λ p. f (first + p)) (range_with_len 0 n) ≡ take n (drop first (map f (range_with_len 0 size)))
places_from f size first n h =
    let all : List (Option ℕ) = map f (range_with_len 0 size) in
    let long : length all ≡ size = length-map-range_with_len f 0 size in
    let rest : length (drop first all) ≡ size - first = length-drop first all ∙ ap (λ k. k - first) long in
    let some : length (take n (drop first all)) ≡ n = length-take-le n (drop first all) (omega (arith, rest)) in
    let g : ℕ → Option ℕ = λ p. f (first + p) in
    let many : length (map g (range_with_len 0 n)) ≡ n = length-map-range_with_len g 0 n in
    ext_get_or None (map g (range_with_len 0 n)) (take n (drop first all)) (many ∙ sym some) (λ i l.
    let low : i < n = omega (arith, many) in
    get_or-map-range_with_len g 0 n i i None low (omega arith)
    ∙ sym (get_or-map-range_with_len f 0 size (first + i) (first + i) None (omega arith) (omega arith))
    ∙ sym (get_or-drop first all i None)
    ∙ sym (get_or-take n (drop first all) i None low))

-- what a route from a position on writes
pub from_is : (f : ℕ → Option ℕ) (size first : ℕ) (vs es : List ℤ) → first + length vs ≤ size → write (map (λ p. f (first + p)) (range_with_len 0 (length vs))) vs es ≡ write (drop first (map f (range_with_len 0 size))) vs es
from_is f size first vs es h =
    ap (λ ps. write ps vs es) (places_from f size first (length vs) h) ∙ write_few (drop first (map f (range_with_len 0 size))) vs es

-- what a route writes that goes by a triple
pub route_is : (f : ℕ → Option ℕ) (t u : Triple) (first : ℕ) (vs es : List ℤ) → u ≡ t → first + length vs ≤ size_of t.dims
    → write (map (λ p. f (place_at u (first + p))) (range_with_len 0 (length vs))) vs es ≡ write (drop first (map f (spots t))) vs es
route_is f t u first vs es s l =
    ap (λ (w : Triple). write (map (λ p. f (place_at w (first + p))) (range_with_len 0 (length vs))) vs es) s
    ∙ from_is (λ p. f (place_at t p)) (size_of t.dims) first vs es l
    ∙ ap (λ (ps : List (Option ℕ)). write (drop first ps) vs es) (sym (map-map f (place_at t) (range_with_len 0 (size_of t.dims))))

-- and where each place of the triple goes to itself
pub each_is : (f : ℕ → Option ℕ) (t u : Triple) (first : ℕ) (vs es : List ℤ) → u ≡ t → first + length vs ≤ size_of t.dims
    → ((p : ℕ) → p < length vs → f (place_at u (first + p)) ≡ Some (place_at u (first + p))) → write (placed_from u first (length vs)) vs es ≡ write (drop first (map f (spots t))) vs es
each_is f t u first vs es s l own =
    ap (λ ps. write ps vs es) (map-range_same (λ p. Some (place_at u (first + p))) (λ p. f (place_at u (first + p))) (length vs) None (λ p low. sym (own p low)))
    ∙ route_is f t u first vs es s l

-- ---- places of a base that all have one in the root

seen_some : (o : Option ℕ) (q : ℕ) → is_some o ≡ true → seen_at o q ≡ Some q
seen_some None q e = absurd (true≢false (sym e))
seen_some (Some r) q e = refl

pub all_seen : (ps : List (Option ℕ)) (from count p : ℕ) → from + count ≤ length ps → list_all is_some (take count (drop from ps)) ≡ true → p < count → seen ps (from + p) ≡ Some (from + p)
all_seen ps from count p h all low =
    let part : List (Option ℕ) = take count (drop from ps) in
    let long : length part ≡ count = length-take-le count (drop from ps) (omega (arith, length-drop from ps)) in
    let here : is_some (get_or part p None) ≡ true =
    true_from_ne_false (is_some (get_or part p None)) (λ e. true≢false (sym all ∙ list_all_at is_some part p None (omega (arith, long)) e)) in
    let same : get_or part p None ≡ get_or ps (from + p) None = get_or-take count (drop from ps) p None low ∙ get_or-drop from ps p None in
    seen_some (entry ps (from + p)) (from + p) (ap is_some (sym same) ∙ here)
