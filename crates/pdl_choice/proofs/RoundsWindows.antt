-- One position of the windows at all corners.
use Rattle.std.proofs.Common.{◌≡◌, ℕ, ◌+◌, ◌-◌, ◌*◌, ◌/◌, ◌%◌, ◌<◌, ◌≤◌, max, false, not, nat_lt, nat_le, List, [], ◌∷◌, ◌++◌, length, drop, replicate, IsTrue, get_or, map, refl, ap, sym, ◌∙◌, subst, arith, ℤ, pos, negsuc, ◌+ℤ◌}
use Rattle.std.proofs.Math.Nat.{mod-eq_of_lt, mul-add-mod_self_left, zero-mod, zero-div}
use Rattle.std.proofs.Math.Seq.{get_or-append_seam}
use Rattle.std.proofs.lemmas.Bool.Decides.{nat_tests}
use Rattle.std.proofs.lemmas.List.{get_or_append_left, get_or-map, length-map}
use Rattle.pdl_shape.specs.Laws.{PositionLaws, SizeLaws}
use Rattle.pdl_shape.specs.Shape.{IsWithin, coordinates_of, extent, extent_limit, position_of, size_of}
use Rattle.pdl_choice.specs.declared.edges.Edge.{Edge}
use Rattle.pdl_choice.specs.declared.edges.Edge.TheVariants.{Refuse, Zero, Nearest, Periodic}
use Rattle.pdl_choice.specs.Edges.{CanPlace, edge_refuses}
use Rattle.pdl_choice.specs.Range.{capped, AllAllowed, inner_dims}
use Rattle.pdl_choice.specs.Rounds.{CanPlaceAll, numbers_at, placed}
use Rattle.pdl_choice.proofs.ShapeBounds.{corner_fits}
use Rattle.pdl_choice.proofs.ShapeSteps.{quotient, remainder, within_at}
use Rattle.pdl_choice.proofs.ShapePositions.{length-coordinates_of}
use Rattle.pdl_choice.proofs.RangePlaces.{inner_front, rounds-capped, length-corner, length-rounds, rounds, size_of-rounds, window_position, window_position-placed}

-- what an edge doesn't refuse, it can place
pub can_place : (edge : Edge) (n w : ℕ) (v : ℤ) (c : ℕ) → edge_refuses edge n w v ≡ false → c < max w 1 → CanPlace edge n (v +ℤ pos c)
can_place Refuse n w (pos a) c allowed below = within n (a + max w 1) (a + c) allowed (omega arith)
  where
    within : (n m k : ℕ) → not (nat_le m n) ≡ false → k < m → IsTrue (nat_lt k n)
    within n m k allowed below = grind (arith, nat_tests)
can_place Refuse n w (negsuc a) c allowed below = cc
can_place Zero n w v c allowed below = tt
can_place Nearest n w v c allowed below = grind (arith, nat_tests)
can_place Periodic n w v c allowed below = grind (arith, nat_tests)

-- where the coordinates of a position of the windows lie
pub record AtWindow (parent windows at : List ℕ) (len : ℕ) : Type 0 where
  pub long : length at ≡ length windows + 1
  pub len_is : len ≡ length windows
  pub below : (j : ℕ) → j < length windows → get_or at j 0 < max (get_or windows j 0) 1
  pub left : get_or at len 0 < size_of (drop len parent)

at_window : (parent windows at : List ℕ) (len : ℕ) → IsWithin (rounds parent windows) at → length at ≡ length windows + 1 → len ≡ length windows → AtWindow parent windows at len
at_window parent windows at len w long is = record {
  long = long;
  len_is = is;
  below = λ j h. subst (λ n. get_or at j 0 < n) (get_or_append_left sizes _ 0 j (omega (arith, length-map windows (λ w. max w 1))) ∙ get_or-map (λ w. max w 1) windows j 0 0 h) (within_at (rounds parent windows) at j w (omega (arith, length-rounds parent windows)));
  left = subst (λ n. get_or at n 0 < size_of (drop n parent)) (sym is) (subst (λ n. get_or at (length windows) 0 < n) (ap (λ n. get_or (rounds parent windows) n 0) (sym (length-map windows (λ w. max w 1))) ∙ get_or-append_seam sizes (size_of (drop (length windows) parent)) [] 0) (within_at (rounds parent windows) at (length windows) w (omega (arith, length-rounds parent windows))));
}
  where
    sizes : List ℕ
    sizes = map (λ w. max w 1) windows

-- a number for each window, and one for the dimensions that are left
pub at_long : (parent windows at : List ℕ) (r : ℕ) → at ≡ coordinates_of (rounds parent windows) r → length at ≡ length windows + 1
at_long parent windows at r is = ap length is ∙ length-coordinates_of (rounds parent windows) r ∙ length-rounds parent windows

pub at_round : PositionLaws → (parent windows at : List ℕ) (r len : ℕ) → length windows ≤ length parent → r < size_of (inner_dims parent windows) → at ≡ coordinates_of (rounds parent windows) r → len ≡ length at - 1 → AtWindow parent windows at len
at_round positions parent windows at r len fit h is same =
    let long = at_long parent windows at r is in
    at_window parent windows at len (subst (λ (cs : List ℕ). IsWithin (rounds parent windows) cs) (sym is) (positions.coordinates_within (rounds parent windows) r (omega (arith, size_of-rounds parent windows fit)))) long (omega arith)

-- the edges place all corners' numbers there
pub all_placed : (edge : Edge) (parent windows : List ℕ) (ind : List ℤ) (at : List ℕ) (len : ℕ) → AtWindow parent windows at len → AllAllowed edge parent windows ind → CanPlaceAll edge parent ind len at
all_placed edge parent windows ind at len a allowed q j h inside =
    let below : j < length windows = omega (arith, a.len_is) in
    let here : (len * q + j) % length windows ≡ j =
    ap (λ n. (n * q + j) % length windows) a.len_is ∙ mul-add-mod_self_left (length windows) q j ∙ mod-eq_of_lt below in
    can_place edge (get_or parent j 0) (get_or windows j 0) (get_or ind (len * q + j) (pos 0)) (get_or at j 0)
    (ap (λ i. edge_refuses edge (get_or parent i 0) (get_or windows i 0) (get_or ind (len * q + j) (pos 0))) (sym here) ∙ allowed (len * q + j) inside)
    (a.below j below)

-- the places of a round are those of its positions
pub round_places : PositionLaws → (edge : Edge) (parent windows : List ℕ) (ind : List ℤ) (at : List ℕ) (len corners r : ℕ)
    → length windows ≤ length parent → length ind ≡ length windows * corners → r < size_of (inner_dims parent windows) → at ≡ coordinates_of (rounds parent windows) r → len ≡ length windows
    → (q : ℕ) → q < corners
    → placed edge parent (numbers_at ind len q) at ≡ window_position edge parent windows (numbers_at ind (length windows) ((q + corners * r) % corners)) ((q + corners * r) / corners)
round_places positions edge parent windows ind at len corners r fit whole h is same q below =
    ap (placed edge parent (numbers_at ind len q)) is
    ∙ ap (λ n. placed edge parent (numbers_at ind n q) (coordinates_of (rounds parent windows) r)) same
    ∙ sym (window_position-placed positions edge parent windows (numbers_at ind (length windows) q) r fit (length-corner ind (length windows) q (corner_fits (length windows) q corners (length ind) below whole)) h)
    ∙ ap (window_position edge parent windows (numbers_at ind (length windows) q)) (sym (quotient q corners r (q + corners * r) below refl))
    ∙ ap (λ n. window_position edge parent windows (numbers_at ind (length windows) n) ((q + corners * r) / corners)) (sym (remainder q corners r (q + corners * r) below refl))

-- the sizes that the positions go through, where none stands at the largest number
pub rounds_are : SizeLaws → (parent windows sizes : List ℕ) → extent (inner_dims parent windows) ≤ extent_limit
    → sizes ≡ map (λ w. max (capped w) 1) windows ++ size_of (drop (length windows) parent) ∷ [] → sizes ≡ rounds parent windows
rounds_are extents parent windows sizes fits is =
    is ∙ ap (λ (us : List ℕ). us ++ size_of (drop (length windows) parent) ∷ []) (rounds-capped extents windows (inner_front extents parent windows fits))

pub round_within : PositionLaws → (parent windows sizes at : List ℕ) (r : ℕ) → length windows ≤ length parent → sizes ≡ rounds parent windows → r < size_of (inner_dims parent windows) → at ≡ coordinates_of (rounds parent windows) r → IsWithin sizes at
round_within positions parent windows sizes at r fit sizes_are h is =
    subst (λ (cs : List ℕ). IsWithin sizes cs) (sym is) (subst (λ (ds : List ℕ). IsWithin ds (coordinates_of (rounds parent windows) r)) (sym sizes_are) (positions.coordinates_within (rounds parent windows) r (omega (arith, size_of-rounds parent windows fit))))

pub round_moved : PositionLaws → (parent windows sizes old new : List ℕ) (r : ℕ) → length windows ≤ length parent → sizes ≡ rounds parent windows → r < size_of (inner_dims parent windows) → old ≡ coordinates_of (rounds parent windows) r
    → new ≡ coordinates_of sizes (position_of sizes old + 1) → new ≡ coordinates_of (rounds parent windows) (r + 1)
round_moved positions parent windows sizes old new r fit sizes_are h is moved =
    moved
    ∙ ap (λ (ds : List ℕ). coordinates_of ds (position_of ds old + 1)) sizes_are
    ∙ ap (λ (cs : List ℕ). coordinates_of (rounds parent windows) (position_of (rounds parent windows) cs + 1)) is
    ∙ ap (λ n. coordinates_of (rounds parent windows) (n + 1)) (positions.position_again (rounds parent windows) r (omega (arith, size_of-rounds parent windows fit)))

-- the first coordinates
pub zeros : (ds : List ℕ) → replicate (length ds) 0 ≡ coordinates_of ds 0
zeros [] = refl
zeros (d ∷ ds) = ap (λ n. n ∷ replicate (length ds) 0) (sym (zero-mod d)) ∙ ap (λ cs. 0 % d ∷ cs) (zeros ds ∙ ap (coordinates_of ds) (sym (zero-div d)))

pub first_round : (parent windows sizes at : List ℕ) (n : ℕ) → sizes ≡ rounds parent windows → n ≡ length sizes → at ≡ replicate n 0 → at ≡ coordinates_of (rounds parent windows) 0
first_round parent windows sizes at n sizes_are long is =
    is ∙ ap (λ m. replicate m 0) (long ∙ ap length sizes_are) ∙ zeros (rounds parent windows)
