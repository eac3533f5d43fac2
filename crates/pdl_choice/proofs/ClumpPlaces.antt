-- The places of whole views.
use Rattle.std.proofs.Common.{◌≡◌, ℕ, ◌+◌, ◌*◌, ◌/◌, ◌%◌, ◌<◌, List, [], ◌∷◌, ◌++◌, length, take, drop, get_or, map, ap, sym, ◌∙◌, arith, Option, Some, None, ℤ}
use Rattle.std.specs.Option.{unwrap_or}
use Rattle.std.specs.List.{range_with_len}
use Rattle.std.proofs.Math.Nat.{mod-eq_of_lt}
use Rattle.std.proofs.lemmas.List.{take-append-drop, length-map, get_or-map}
use Rattle.std.proofs.lemmas.List.FromFn.{fill_by_all}
use Rattle.std.proofs.lemmas.Nat.{div_below, mod_below, div-add-mod'}
use Rattle.pdl_lemmas.specs.Lists.{map-range_same}
use Rattle.pdl_shape.specs.Laws.{PositionLaws}
use Rattle.pdl_shape.specs.Shape.{size_of, position_of, coordinates_of}
use Rattle.pdl_shape.specs.Places.{places_of}
use Rattle.pdl_shape.specs.Clump.{clump_count}
use Rattle.pdl_choice.specs.Clump.{clumped_source}
use Rattle.pdl_choice.specs.Where.{where_source}
use Rattle.pdl_choice.proofs.ShapePositions.{position_of-append, size_of-append, length-coordinates_of, positive_left}

-- a position within the joined dimensions and one within the others
clump_place : PositionLaws → (front back : List ℕ) (p : ℕ) → p < size_of front * size_of back
    → position_of (front ++ back) (coordinates_of front (p % size_of front) ++ coordinates_of back (p / size_of front)) ≡ p
clump_place positions front back p within =
    let some : 0 < size_of front = positive_left (size_of front) (size_of back) p within in
    position_of-append front back (coordinates_of front (p % size_of front)) (coordinates_of back (p / size_of front)) (length-coordinates_of front (p % size_of front))
    ∙ ap (λ n. n + size_of front * position_of back (coordinates_of back (p / size_of front))) (positions.position_again front (p % size_of front) (mod_below p (size_of front) some))
    ∙ ap (λ n. p % size_of front + size_of front * n) (positions.position_again back (p / size_of front) (div_below p (size_of front) (size_of back) some (omega arith)))
    ∙ omega (arith, div-add-mod' p (size_of front))

-- a clump has each place of its parent once, in order
pub clump_places : PositionLaws → (parent : List ℕ) (count : ℤ) (n total : ℕ) → Some n ≡ clump_count count (length parent) → total ≡ size_of parent
    → map (λ (p : ℕ). Some p) (range_with_len 0 total) ≡ places_of (size_of (take n parent) ∷ drop n parent) parent (λ at. Some (clumped_source parent count at))
clump_places positions parent count n total is whole =
    let split : size_of (take n parent) * size_of (drop n parent) ≡ size_of parent = sym (size_of-append (take n parent) (drop n parent)) ∙ ap size_of (take-append-drop n parent) in
    let joined : unwrap_or (clump_count count (length parent)) 0 ≡ n = sym (ap (λ (o : Option ℕ). unwrap_or o 0) is) in
    let place : ℕ → ℕ → Option ℕ = λ m p. Some (position_of parent (coordinates_of (take m parent) (p % size_of (take n parent)) ++ coordinates_of (drop n parent) (p / size_of (take n parent)))) in
    ap (λ m. map (λ (p : ℕ). Some p) (range_with_len 0 m)) (whole ∙ sym split)
    ∙ map-range_same (λ (p : ℕ). Some p) (place n) (size_of (take n parent) * size_of (drop n parent)) None
    (λ p below. ap Some (sym (clump_place positions (take n parent) (drop n parent) p below) ∙ ap (λ (ds : List ℕ). position_of ds (coordinates_of (take n parent) (p % size_of (take n parent)) ++ coordinates_of (drop n parent) (p / size_of (take n parent)))) (take-append-drop n parent)))
    ∙ ap (λ m. map (place m) (range_with_len 0 (size_of (take n parent) * size_of (drop n parent)))) (sym joined)

-- a view of places has each of them, in order
pub listed_places : PositionLaws → (parent places : List ℕ) → ((k : ℕ) → k < length places → get_or places k 0 < size_of parent)
    → map (λ (p : ℕ). Some p) places ≡ places_of (length places ∷ []) parent (λ at. Some (where_source parent places at))
listed_places positions parent places below =
    fill_by_all (λ p. Some (position_of parent (coordinates_of parent (get_or places (p % length places) 0))))
    (map (λ (p : ℕ). Some p) places) (length places * 1) None (length-map places (λ (p : ℕ). Some p) ∙ omega arith)
    (λ k h. let inside : k < length places = omega arith in
    get_or-map (λ (p : ℕ). Some p) places k 0 None inside
    ∙ ap Some (sym (positions.position_again parent (get_or places k 0) (below k inside)))
    ∙ ap (λ j. Some (position_of parent (coordinates_of parent (get_or places j 0)))) (sym (mod-eq_of_lt inside)))
