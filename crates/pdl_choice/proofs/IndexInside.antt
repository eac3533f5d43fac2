-- Places lie in the parent.
use Rattle.std.proofs.Common.{◌≡◌, ℕ, ◌<◌, List, [], ◌∷◌, ◌++◌, length, drop, get_or, map, ap, sym, ◌∙◌, subst, arith, Option, Some, All, IfSome, IsSome, unwrap_or, None, ℤ, pos, negsuc}
use Rattle.std.specs.List.{range_with_len}
use Rattle.std.proofs.lemmas.Bool.Decides.{nat_tests}
use Rattle.std.proofs.lemmas.List.Elements.{All-push}
use Rattle.std.proofs.lemmas.List.FromFn.{get_or-map-range_with_len, length-map-range_with_len}
use Rattle.pdl_lemmas.specs.Numbers.{row_place_below}
use Rattle.pdl_shape.specs.Laws.{CutsWithin, PositionLaws}
use Rattle.pdl_shape.specs.Broadcast.{BroadcastsTo, cut_to}
use Rattle.pdl_shape.specs.Shape.{IsWithin, size_of, position_of, coordinates_of}
use Rattle.pdl_shape.specs.Counting.{from_end}
use Rattle.pdl_shape.specs.Places.{AllBelow, IsBelow, places_of}
use Rattle.pdl_choice.specs.Index.{index_source}

-- a place that lies in the array where there is one
pub below_if : (m : ℕ) (o : Option ℕ) → IfSome o (λ p. p < m) → IsBelow m o
below_if m None h = tt
below_if m (Some p) h = h

pub all_inside : (f : ℕ → Option ℕ) (n m : ℕ) (places : List (Option ℕ)) → places ≡ map f (range_with_len 0 n) → ((k : ℕ) → k < n → IfSome (f k) (λ p. p < m)) → AllBelow m places
all_inside f n m places is inside = λ k d h.
    let below : k < n = omega (arith, ap length is, length-map-range_with_len f 0 n) in
    subst (IsBelow m) (sym (ap (λ (ps : List (Option ℕ)). get_or ps k d) is ∙ get_or-map-range_with_len f 0 n k k d below (omega arith))) (below_if m (f k) (inside k below))

pub count_inside : (n m : ℕ) (places : List (Option ℕ)) → places ≡ map (λ p. Some p) (range_with_len 0 n) → n ≡ m → AllBelow m places
count_inside n m places is whole = all_inside (λ p. Some p) n m places is (λ k h. omega (arith, whole))

-- a value that stands for a coordinate
pub counted_below : (n : ℕ) (z : ℤ) → IsSome (from_end z n) → unwrap_or (from_end z n) 0 < n
counted_below n (pos z) h = grind (arith, nat_tests)
counted_below n (negsuc z) h = grind (arith, nat_tests)

index_below : PositionLaws → CutsWithin → (n : ℕ) (rest ind_dims joined : List ℕ) (ind : List ℤ) (p : ℕ) → length ind ≡ size_of ind_dims → BroadcastsTo ind_dims joined → BroadcastsTo rest joined
    → All (λ value. IsSome (from_end value n)) ind → p < size_of joined
    → position_of (n ∷ rest) (index_source (n ∷ rest) ind_dims ind (coordinates_of joined p)) < size_of (n ∷ rest)
index_below positions cuts n rest ind_dims joined ind p whole ind_fits rest_fits counted within =
    let coordinates : IsWithin joined (coordinates_of joined p) = positions.coordinates_within joined p within in
    let at : position_of ind_dims (cut_to ind_dims (coordinates_of joined p)) < length ind =
    omega (arith, positions.position_below ind_dims _ (cuts ind_dims joined (coordinates_of joined p) ind_fits coordinates), whole) in
    row_place_below n (size_of rest) _ _
    (counted_below n _ (counted _ (pos 0) at))
    (positions.position_below rest _ (cuts rest joined (coordinates_of joined p) rest_fits coordinates))

some_index : PositionLaws → CutsWithin → (parent ind_dims joined : List ℕ) (ind : List ℤ) (p : ℕ) → 0 < length parent → length ind ≡ size_of ind_dims → BroadcastsTo ind_dims joined → BroadcastsTo (drop 1 parent) joined
    → All (λ value. IsSome (from_end value (get_or parent 0 0))) ind → p < size_of joined
    → position_of parent (index_source parent ind_dims ind (coordinates_of joined p)) < size_of parent
some_index positions cuts [] ind_dims joined ind p some whole ind_fits rest_fits counted within = absurd (omega arith)
some_index positions cuts (n ∷ rest) ind_dims joined ind p some whole ind_fits rest_fits counted within = index_below positions cuts n rest ind_dims joined ind p whole ind_fits rest_fits counted within

pub index_inside : PositionLaws → CutsWithin → (parent ind_dims joined : List ℕ) (ind : List ℤ) (places : List (Option ℕ)) → 0 < length parent → length ind ≡ size_of ind_dims → BroadcastsTo ind_dims joined → BroadcastsTo (drop 1 parent) joined
    → All (λ value. IsSome (from_end value (get_or parent 0 0))) ind
    → places ≡ places_of joined parent (λ at. Some (index_source parent ind_dims ind at)) → AllBelow (size_of parent) places
index_inside positions cuts parent ind_dims joined ind places some whole ind_fits rest_fits counted is =
    all_inside (λ p. Some (position_of parent (index_source parent ind_dims ind (coordinates_of joined p)))) (size_of joined) (size_of parent) places is
    (λ p within. some_index positions cuts parent ind_dims joined ind p some whole ind_fits rest_fits counted within)

pub none_inside : (m : ℕ) (places : List (Option ℕ)) → places ≡ [] → AllBelow m places
none_inside m places is = λ k d h. absurd (omega (arith, ap length is))

pub inside_push : (m : ℕ) (before after : List (Option ℕ)) (place : Option ℕ) → AllBelow m before → IfSome place (λ p. p < m) → after ≡ before ++ place ∷ [] → AllBelow m after
inside_push m before after place inside here is =
    subst (λ (places : List (Option ℕ)). AllBelow m places) (sym is) (All-push (IsBelow m) before place inside (below_if m place here))
