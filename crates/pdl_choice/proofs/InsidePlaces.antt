-- The places of windows of which some lie inside their parent.
use Rattle.std.proofs.Common.{◌≡◌, ◌⊎◌, inl, inr, ℕ, ◌+◌, ◌*◌, ◌/◌, ◌%◌, ◌<◌, ◌≤◌, max, List, [], ◌∷◌, length, drop, map, get_or, IsTrue, false, not, nat_le, nat_lt, ◌-◌, replicate, refl, ap, ap₂, sym, ◌∙◌, subst, arith, Some, None, ℤ, pos, negsuc, suc, ◌+ℤ◌, mod-lt, zero-add}
use Rattle.std.specs.List.{Any, range_with_len}
use Rattle.std.proofs.lemmas.List.{get_or-drop, get_or-replicate, get_or-take, length-replicate}
use Rattle.std.proofs.lemmas.List.FromFn.{get_or-map-range_with_len, length-map-range_with_len}
use Rattle.std.proofs.lemmas.Nat.{div_below}
use Rattle.std.proofs.Math.Nat.{mod-add-div, mod-eq_of_lt, mul-add-mod_self_left}
use Rattle.std.proofs.lemmas.Bool.Decides.{nat_tests}
use Rattle.std.specs.Prelude.{IfSome, Option}
use Rattle.std.specs.Option.{option_map, unwrap_or}
use Rattle.pdl_lemmas.specs.Options.{map_elim, some_inj}
use Rattle.pdl_shape.specs.Laws.{PositionLaws}
use Rattle.pdl_shape.specs.Places.{AllBelow}
use Rattle.pdl_shape.specs.Shape.{IsWithin, coordinates_of, position_of, size_of}
use Rattle.pdl_choice.specs.declared.edges.Edge.{Edge}
use Rattle.pdl_choice.specs.declared.edges.Edge.TheVariants.{Refuse, Zero}
use Rattle.pdl_choice.specs.Edges.{edge_coordinate, edge_refuses, is_within, start_count}
use Rattle.pdl_choice.specs.Range.{AllAllowed, inner_dims, window_source}
use Rattle.pdl_choice.specs.Rounds.{AreCorners, StandsAt, numbers_at, place_first, placed, window_place, window_starts}
use Rattle.pdl_choice.proofs.EdgeLemmas.{inside_edge}
use Rattle.pdl_choice.proofs.IndexInside.{all_inside}
use Rattle.pdl_choice.proofs.RangePlaces.{length-corner}
use Rattle.pdl_choice.proofs.RangeSources.{window_within}
use Rattle.pdl_choice.proofs.RoundsWindows.{AtWindow}
use Rattle.pdl_choice.proofs.ShapeBounds.{corner_fits}
use Rattle.pdl_choice.proofs.ShapePositions.{positive_left}

-- a coordinate before the place of the others, where both are
place_parts : (P : Type 0) (n c : ℕ) (rest : Option ℕ) (b : ℕ) → place_first n (Some c) rest ≡ Some b → ((p : ℕ) → rest ≡ Some p → c + n * p ≡ b → P) → P
place_parts P n c rest b is h = map_elim P (λ p. c + n * p) rest is h

-- a number from 0 on and the numbers so far past it lie inside a dimension
pub record IsInside (n : ℕ) (v : ℤ) (c : ℕ) : Type 0 where
  pub number : ℕ
  pub is : v ≡ pos number
  pub below : number + c < n

added : (n v c b p : ℕ) → (v + c) + n * (b + p) ≡ (v + 0 + n * b) + (0 + c + n * p)
added n v c b p = grind arith

-- the place so far past a corner is the corner's and that of the position past the first one; where
-- all lie inside, these are the same for each edge
pub placed_past : (edge ground : Edge) (parent : List ℕ) (corner zeros : List ℤ) (at first : List ℕ) (b p : ℕ)
    → length zeros ≡ length corner → length first ≡ length at
    → ((j : ℕ) → j < length zeros → get_or zeros j (pos 0) ≡ pos 0) → ((j : ℕ) → j < length first → get_or first j 0 ≡ 0)
    → ((j : ℕ) → j < length corner → IsInside (get_or parent j 0) (get_or corner j (pos 0)) (get_or at j 0))
    → placed ground parent corner first ≡ Some b → placed ground parent zeros at ≡ Some p
    → placed edge parent corner at ≡ Some (b + p)
placed_past edge ground parent corner zeros [] [] b p zl fl z f inside base past = ap Some (omega (arith, some_inj base, some_inj past))
placed_past edge ground parent corner zeros [] (x ∷ first) b p zl fl z f inside base past = absurd (omega arith)
placed_past edge ground parent corner zeros (c ∷ at) [] b p zl fl z f inside base past = absurd (omega arith)
placed_past edge ground parent [] (v ∷ zeros) (c ∷ at) (x ∷ first) b p zl fl z f inside base past = absurd (omega arith)
placed_past edge ground parent (v ∷ corner) [] (c ∷ at) (x ∷ first) b p zl fl z f inside base past = absurd (omega arith)
placed_past edge ground parent [] [] (c ∷ at) (x ∷ first) b p zl fl z f inside base past =
    let none : x ≡ 0 = f 0 (omega arith) in
    ap Some (omega (arith, none, some_inj base, some_inj past))
placed_past edge ground [] (v ∷ corner) (o ∷ zeros) (c ∷ at) (x ∷ first) b p zl fl z f inside base past = ap Some (omega (arith, some_inj base, some_inj past))
placed_past edge ground (n ∷ parent) (v ∷ corner) (o ∷ zeros) (c ∷ at) (x ∷ first) b p zl fl z f inside base past =
    let here : IsInside n v c = inside 0 (omega arith) in
    let o_is : o ≡ pos 0 = z 0 (omega arith) in
    let x_is : x ≡ 0 = f 0 (omega arith) in
    let base_at : place_first n (Some (here.number + 0)) (placed ground parent corner first) ≡ Some b =
    ap (λ (u : Option ℕ). place_first n u (placed ground parent corner first)) (inside_edge ground n (v +ℤ pos x) (here.number + 0) (ap₂ (λ (u : ℤ) (k : ℕ). u +ℤ pos k) here.is x_is) (omega (arith, here.below))) ∙ base in
    let past_at : place_first n (Some (0 + c)) (placed ground parent zeros at) ≡ Some p =
    ap (λ (u : Option ℕ). place_first n u (placed ground parent zeros at)) (inside_edge ground n (o +ℤ pos c) (0 + c) (ap (λ (u : ℤ). u +ℤ pos c) o_is) (omega (arith, here.below))) ∙ past in
    let coordinate : Some (here.number + c) ≡ edge_coordinate edge n (v +ℤ pos c) = inside_edge edge n (v +ℤ pos c) (here.number + c) (ap (λ (u : ℤ). u +ℤ pos c) here.is) here.below in
    place_parts (place_first n (edge_coordinate edge n (v +ℤ pos c)) (placed edge parent corner at) ≡ Some (b + p)) n (here.number + 0) (placed ground parent corner first) b base_at
    (λ b' base' b_is. place_parts (place_first n (edge_coordinate edge n (v +ℤ pos c)) (placed edge parent corner at) ≡ Some (b + p)) n (0 + c) (placed ground parent zeros at) p past_at
    (λ p' past' p_is.
    let rest : placed edge parent corner at ≡ Some (b' + p') =
    placed_past edge ground parent corner zeros at first b' p' (omega arith) (omega arith) (λ j h. z (suc j) (omega arith)) (λ j h. f (suc j) (omega arith)) (λ j h. inside (suc j) (omega arith)) base' past' in
    ap₂ (λ (u r : Option ℕ). place_first n u r) (sym coordinate) rest ∙ ap Some (omega (arith, added n here.number c b' p', b_is, p_is))))

some_is : (o : Option ℕ) (p : ℕ) → o ≡ Some p → o ≡ Some (unwrap_or o 0)
some_is o p is = is ∙ ap (λ (u : Option ℕ). Some (unwrap_or u 0)) (sym is)

-- numbers inside have a place
pub placed_some : (edge : Edge) (parent : List ℕ) (corner : List ℤ) (at : List ℕ) → ((j : ℕ) → j < length corner → IsInside (get_or parent j 0) (get_or corner j (pos 0)) (get_or at j 0))
    → placed edge parent corner at ≡ Some (unwrap_or (placed edge parent corner at) 0)
placed_some edge parent corner [] inside = refl
placed_some edge parent [] (c ∷ at) inside = refl
placed_some edge [] (v ∷ corner) (c ∷ at) inside = refl
placed_some edge (n ∷ parent) (v ∷ corner) (c ∷ at) inside =
    let here : IsInside n v c = inside 0 (omega arith) in
    let coordinate : Some (here.number + c) ≡ edge_coordinate edge n (v +ℤ pos c) = inside_edge edge n (v +ℤ pos c) (here.number + c) (ap (λ (u : ℤ). u +ℤ pos c) here.is) here.below in
    let rest = placed_some edge parent corner at (λ j h. inside (suc j) (omega arith)) in
    some_is (place_first n (edge_coordinate edge n (v +ℤ pos c)) (placed edge parent corner at)) _ (ap₂ (λ (u r : Option ℕ). place_first n u r) (sym coordinate) rest)

-- a number that a window may begin at, and those of its positions, lie inside
inside_start : (n w : ℕ) (v : ℤ) (c : ℕ) → IsTrue (is_within (start_count n w) v) → c < max w 1 → IsInside n v c
inside_start n w (pos a) c within below = record { number = a; is = refl; below = fits n w a c within below }
  where
    fits : (n w a c : ℕ) → IsTrue (nat_lt a (n - (w - 1))) → c < max w 1 → a + c < n
    fits n w a c within below = grind (arith, nat_tests)
inside_start n w (negsuc a) c within below = absurd (cc)

-- and no edge refuses the window
start_allowed : (n w : ℕ) (v : ℤ) → IsTrue (is_within (start_count n w) v) → edge_refuses Refuse n w v ≡ false
start_allowed n w (pos a) within = fits n w a within
  where
    fits : (n w a : ℕ) → IsTrue (nat_lt a (n - (w - 1))) → not (nat_le (a + max w 1) n) ≡ false
    fits n w a within = grind (arith, nat_tests)
start_allowed n w (negsuc a) within = absurd (cc)

-- the windows' starts, one for each
pub length-window_starts : (parent windows : List ℕ) → length (window_starts parent windows) ≡ length windows
length-window_starts parent windows = length-map-range_with_len (λ j. start_count (get_or parent j 0) (get_or windows j 0)) 0 (length windows)

pub window_start-at : (parent windows : List ℕ) (j : ℕ) → j < length windows → get_or (window_starts parent windows) j 0 ≡ start_count (get_or parent j 0) (get_or windows j 0)
window_start-at parent windows j h = get_or-map-range_with_len (λ j. start_count (get_or parent j 0) (get_or windows j 0)) 0 (length windows) j j 0 h (zero-add j)

-- no more than the parent's size
pub window_start-below : (parent windows : List ℕ) (j : ℕ) → j < length (window_starts parent windows) → get_or (window_starts parent windows) j 0 ≤ get_or parent j 0
window_start-below parent windows j h = omega (arith, window_start-at parent windows j (omega (arith, h, length-window_starts parent windows)))

-- so do all numbers of a corner and those of a position of its window
inside_at : (parent windows : List ℕ) (corner : List ℤ) (at : List ℕ) (len place : ℕ) → AtWindow parent windows at len → StandsAt parent (window_starts parent windows) corner place → length corner ≡ length windows
    → (j : ℕ) → j < length corner → IsInside (get_or parent j 0) (get_or corner j (pos 0)) (get_or at j 0)
inside_at parent windows corner at len place a stands paired j h =
    let inner : j < length windows = omega arith in
    inside_start (get_or parent j 0) (get_or windows j 0) (get_or corner j (pos 0)) (get_or at j 0)
    (subst (λ (n : ℕ). IsTrue (is_within n (get_or corner j (pos 0)))) (window_start-at parent windows j inner) (stands.inside j h))
    (a.below j inner)

-- a number of a list of zeros
zero_at : {X : Type 0} (zeros : List X) (n j : ℕ) (o : X) → zeros ≡ replicate n o → j < length zeros → get_or zeros j o ≡ o
zero_at zeros n j o is h =
    ap (λ l. get_or l j o) is ∙ get_or-replicate n j o o (omega (arith, ap length is, length-replicate n o))

pub many_numbers : (windows : List ℕ) (ind : List ℤ) (corners q : ℕ) → length ind ≡ length windows * corners → q < corners → length (numbers_at ind (length windows) q) ≡ length windows
many_numbers windows ind corners q whole below = length-corner ind (length windows) q (corner_fits (length windows) q corners (length ind) below whole)

pub many_zeros : (zeros : List ℤ) (n : ℕ) → zeros ≡ replicate n (pos 0) → length zeros ≡ n
many_zeros zeros n is = ap length is ∙ length-replicate n (pos 0)

-- what holds at all corners holds at each
pub allowed_at : (edge : Edge) (parent windows : List ℕ) (ind : List ℤ) (corners q : ℕ) → AllAllowed edge parent windows ind → length ind ≡ length windows * corners → q < corners
    → AllAllowed edge parent windows (numbers_at ind (length windows) q)
allowed_at edge parent windows ind corners q allowed whole below k h =
    let fits : length windows * q + length windows ≤ length ind = corner_fits (length windows) q corners (length ind) below whole in
    let inner : k < length windows = omega (arith, length-corner ind (length windows) q fits) in
    let value : get_or (numbers_at ind (length windows) q) k (pos 0) ≡ get_or ind (length windows * q + k) (pos 0) =
    get_or-take (length windows) (drop (length windows * q) ind) k (pos 0) inner ∙ get_or-drop (length windows * q) ind k (pos 0) in
    ap (edge_refuses edge (get_or parent (k % length windows) 0) (get_or windows (k % length windows) 0)) value
    ∙ ap (λ i. edge_refuses edge (get_or parent i 0) (get_or windows i 0) (get_or ind (length windows * q + k) (pos 0))) (sym (mul-add-mod_self_left (length windows) q k))
    ∙ allowed (length windows * q + k) (omega arith)

pub round_left : (parent windows : List ℕ) (zeros : List ℤ) (at : List ℕ) (len : ℕ) → AtWindow parent windows at len → zeros ≡ replicate (length windows) (pos 0)
    → get_or at (length zeros) 0 < size_of (drop (length zeros) parent)
round_left parent windows zeros at len a o =
    subst (λ (n : ℕ). get_or at n 0 < size_of (drop n parent)) (a.len_is ∙ sym (many_zeros zeros (length windows) o)) a.left

-- the place of one position of a window inside, from its corner's
corner_past : (edge : Edge) (parent windows : List ℕ) (corner zeros : List ℤ) (at : List ℕ) (len base : ℕ) → AtWindow parent windows at len → StandsAt parent (window_starts parent windows) corner base
    → length corner ≡ length windows → zeros ≡ replicate (length windows) (pos 0) → Some (base + unwrap_or (placed Zero parent zeros at) 0) ≡ placed edge parent corner at
corner_past edge parent windows corner zeros at len base a stands paired o =
    let same : length zeros ≡ length corner = many_zeros zeros (length windows) o ∙ sym paired in
    let first : List ℕ = replicate (length corner + 1) 0 in
    let long : length first ≡ length corner + 1 = length-replicate {A = ℕ} (length corner + 1) 0 in
    let inside : (j : ℕ) → j < length corner → IsInside (get_or parent j 0) (get_or corner j (pos 0)) (get_or at j 0) = inside_at parent windows corner at len base a stands paired in
    sym (placed_past edge Zero parent corner zeros at first base (unwrap_or (placed Zero parent zeros at) 0)
    same (omega (arith, long, paired, a.long))
    (λ j below. zero_at zeros (length windows) j (pos 0) o below) (λ j below. zero_at first (length corner + 1) j 0 refl below)
    inside stands.is
    (placed_some Zero parent zeros at (λ j h. record { number = 0; is = zero_at zeros (length windows) j (pos 0) o h; below = omega (arith, (inside j (omega arith)).below) })))

-- so each window reaches beyond, or has its place from its corner's
pub round_each : (edge : Edge) (parent windows : List ℕ) (ind zeros : List ℤ) (at bases beyond : List ℕ) (len : ℕ) → AtWindow parent windows at len
    → length ind ≡ length windows * length bases → zeros ≡ replicate (length windows) (pos 0) → AreCorners parent (window_starts parent windows) ind bases beyond
    → (q : ℕ) → q < length bases → Any (λ b. b ≡ q) beyond ⊎ Some (get_or bases q 0 + unwrap_or (placed Zero parent zeros at) 0) ≡ placed edge parent (numbers_at ind (length windows) q) at
round_each edge parent windows ind zeros at bases beyond len a whole o known q h =
    elim (known.each q h) [
      | inl listed ↦ inl listed
      | inr stands ↦ inr (corner_past edge parent windows (numbers_at ind (length windows) q) zeros at len (get_or bases q 0) a
          (subst (λ (n : ℕ). StandsAt parent (window_starts parent windows) (numbers_at ind n q) (get_or bases q 0)) (length-window_starts parent windows) stands)
          (many_numbers windows ind (length bases) q whole h) o)
    ]

-- where none is listed, no edge refuses a window
pub known_allowed : (parent windows : List ℕ) (ind : List ℤ) (bases beyond : List ℕ) → length ind ≡ length windows * length bases → AreCorners parent (window_starts parent windows) ind bases beyond → beyond ≡ []
    → AllAllowed Refuse parent windows ind
known_allowed parent windows ind bases beyond whole known none k h =
    let len : ℕ = length windows in
    let some : 0 < len = positive_left len (length bases) k (omega arith) in
    let q : k / len < length bases = div_below k len (length bases) some (omega arith) in
    let low : k % len < len = mod-lt k some in
    let corner : List ℤ = numbers_at ind len (k / len) in
    let paired : length corner ≡ len = many_numbers windows ind (length bases) (k / len) whole q in
    let value : get_or corner (k % len) (pos 0) ≡ get_or ind k (pos 0) =
    get_or-take len (drop (len * (k / len)) ind) (k % len) (pos 0) low ∙ get_or-drop (len * (k / len)) ind (k % len) (pos 0)
    ∙ ap (λ (i : ℕ). get_or ind i (pos 0)) (omega (arith, mod-add-div k len)) in
    elim (known.each (k / len) q) [
      | inl listed ↦ absurd (omega (arith, listed.2, ap length none))
      | inr stands ↦
          start_allowed (get_or parent (k % len) 0) (get_or windows (k % len) 0) (get_or ind k (pos 0))
          (subst (λ (v : ℤ). IsTrue (is_within (start_count (get_or parent (k % len) 0) (get_or windows (k % len) 0)) v)) value
          (subst (λ (n : ℕ). IsTrue (is_within n (get_or corner (k % len) (pos 0)))) (window_start-at parent windows (k % len) low)
          ((subst (λ (n : ℕ). StandsAt parent (window_starts parent windows) (numbers_at ind n (k / len)) (get_or bases (k / len) 0)) (length-window_starts parent windows) stands).inside (k % len) (omega (arith, paired)))))
    ]

below_some : (parent : List ℕ) (o : Option (List ℕ)) → PositionLaws → IfSome o (IsWithin parent) → IfSome (option_map (position_of parent) o) (λ p. p < size_of parent)
below_some parent None positions w = tt
below_some parent (Some cs) positions w = positions.position_below parent cs w

-- the places of windows lie in the parent
pub window_inside : PositionLaws → (edge : Edge) (parent windows : List ℕ) (ind : List ℤ) (corners : ℕ) (places : List (Option ℕ)) → length windows ≤ length parent → length ind ≡ length windows * corners
    → AllAllowed edge parent windows ind → 0 < corners
    → places ≡ map (window_place edge parent windows ind corners) (range_with_len 0 (corners * size_of (inner_dims parent windows))) → AllBelow (size_of parent) places
window_inside positions edge parent windows ind corners places fit whole allowed some is =
    all_inside (window_place edge parent windows ind corners) (corners * size_of (inner_dims parent windows)) (size_of parent) places is
    (λ p h.
    let q : p % corners < corners = mod-lt p some in
    let r : p / corners < size_of (inner_dims parent windows) = div_below p corners (size_of (inner_dims parent windows)) some (omega arith) in
    let corner : List ℤ = numbers_at ind (length windows) (p % corners) in
    let paired : length corner ≡ length windows = many_numbers windows ind corners (p % corners) whole q in
    below_some parent (window_source edge parent windows corner (coordinates_of (inner_dims parent windows) (p / corners))) positions
    (window_within edge parent windows corner (coordinates_of (inner_dims parent windows) (p / corners)) fit paired
    (λ j below. ap (λ i. edge_refuses edge (get_or parent i 0) (get_or windows i 0) (get_or corner j (pos 0))) (sym (mod-eq_of_lt below)) ∙ allowed_at edge parent windows ind corners (p % corners) allowed whole q j (omega arith))
    (positions.coordinates_within (inner_dims parent windows) (p / corners) r)))
