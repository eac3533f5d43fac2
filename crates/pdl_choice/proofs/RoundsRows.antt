-- The places of an index view, row by row.
use Rattle.std.proofs.Common.{Option, ◌≡◌, ℕ, ◌+◌, ◌-◌, ◌*◌, ◌/◌, ◌<◌, ◌≤◌, List, [], ◌∷◌, length, get_or, take, drop, map, refl, ap, ap₂, sym, ◌∙◌, subst, arith, Some, None, ℤ, pos}
use Rattle.std.specs.List.{range_with_len}
use Rattle.std.proofs.lemmas.List.{ext_get_or, get_or-map, get_or-take, get_or-drop, length-map, length-take-le, length-drop}
use Rattle.std.proofs.lemmas.List.FromFn.{length-map-range_with_len, get_or-map-range_with_len}
use Rattle.std.proofs.Math.Nat.{mul-le-mul_left}
use Rattle.pdl_shape.specs.Laws.{CutsWithin, PositionLaws, SizeLaws}
use Rattle.pdl_shape.specs.Broadcast.{BroadcastsTo, cut_to}
use Rattle.pdl_shape.specs.Shape.{IsWithin, extent, extent_limit, size_of, position_of, coordinates_of}
use Rattle.pdl_choice.specs.declared.indices.Line.{Line}
use Rattle.std.specs.Option.{unwrap_or}
use Rattle.std.proofs.Math.Numerals.{add-one-le}
use Rattle.pdl_shape.specs.Counting.{from_end}
use Rattle.pdl_choice.specs.Index.{index_source}
use Rattle.pdl_choice.specs.Rounds.{counted_place, line_at, row_place}
use Rattle.pdl_choice.proofs.ShapeSteps.{quotient, remainder, rounds_all, rounds_below}

-- the sizes of a broadcast by rows: the size along dimension 0, and the others
abbrev pub by_rows : List ℕ → List ℕ
by_rows joined = get_or joined 0 1 ∷ drop 1 joined

pub size_of-by_rows : (joined : List ℕ) → size_of joined ≡ get_or joined 0 1 * size_of (drop 1 joined)
size_of-by_rows [] = omega arith
size_of-by_rows (j ∷ js) = refl

-- what stretches to a broadcast stretches to its rows
pub stretches-by_rows : (dims joined : List ℕ) → BroadcastsTo dims joined → BroadcastsTo dims (by_rows joined)
stretches-by_rows [] [] b = tt
stretches-by_rows (d ∷ ds) [] b = absurd b
stretches-by_rows [] (j ∷ js) b = tt
stretches-by_rows (d ∷ ds) (j ∷ js) b = b

-- and uses the same coordinates
pub cut-by_rows : (dims joined : List ℕ) (p : ℕ) → BroadcastsTo dims joined → cut_to dims (coordinates_of joined p) ≡ cut_to dims (coordinates_of (by_rows joined) p)
cut-by_rows [] [] p b = refl
cut-by_rows (d ∷ ds) [] p b = absurd b
cut-by_rows [] (j ∷ js) p b = refl
cut-by_rows (d ∷ ds) (j ∷ js) p b = refl

-- the coordinates of a place in a row
pub row-coordinates : (joined : List ℕ) (c r : ℕ) → c < get_or joined 0 1 → coordinates_of (by_rows joined) (c + get_or joined 0 1 * r) ≡ c ∷ coordinates_of (drop 1 joined) r
row-coordinates joined c r h =
    ap (λ n. n ∷ coordinates_of (drop 1 joined) ((c + get_or joined 0 1 * r) / get_or joined 0 1)) (remainder c (get_or joined 0 1) r (c + get_or joined 0 1 * r) h refl)
    ∙ ap (λ n. c ∷ coordinates_of (drop 1 joined) n) (quotient c (get_or joined 0 1) r (c + get_or joined 0 1 * r) h refl)

-- the others of the sizes that stretch are used within them
rest_within : CutsWithin → (dims joined at : List ℕ) → BroadcastsTo dims (by_rows joined) → IsWithin (drop 1 joined) at → IsWithin (drop 1 dims) (cut_to (drop 1 dims) at)
rest_within cuts [] joined at b w = tt
rest_within cuts (d ∷ ds) joined at b w = cuts ds (drop 1 joined) at b.1 w

-- where a round of the walk through the rows stands
pub record AtRow (dims joined at : List ℕ) : Type 0 where
  pub rest : IsWithin (drop 1 dims) (cut_to (drop 1 dims) at)
  pub inside : (c : ℕ) → c < get_or joined 0 1 → position_of dims (cut_to dims (c ∷ at)) < size_of dims

pub at_row : PositionLaws → CutsWithin → (dims joined at : List ℕ) (r : ℕ) → BroadcastsTo dims joined → r < size_of (drop 1 joined) → at ≡ coordinates_of (drop 1 joined) r → AtRow dims joined at
at_row positions cuts dims joined at r b h is =
    let w : IsWithin (drop 1 joined) at = subst (λ (cs : List ℕ). IsWithin (drop 1 joined) cs) (sym is) (positions.coordinates_within (drop 1 joined) r h) in
    let rows : BroadcastsTo dims (by_rows joined) = stretches-by_rows dims joined b in
    record {
      rest = rest_within cuts dims joined at rows w;
      inside = λ c below. positions.position_below dims _ (cuts dims (by_rows joined) (c ∷ at) rows (below, w));
    }

-- the place at a column of a row is that of its coordinates
pub row_place-source : (parent ind_dims at : List ℕ) (ind : List ℤ) (ind_line rest_line : Line) (c : ℕ) → 0 < length parent
    → ((c : ℕ) → line_at ind_line c ≡ position_of ind_dims (cut_to ind_dims (c ∷ at)))
    → ((c : ℕ) → line_at rest_line c ≡ position_of (drop 1 parent) (cut_to (drop 1 parent) (c ∷ at)))
    → row_place (get_or parent 0 1) ind ind_line rest_line c ≡ position_of parent (index_source parent ind_dims ind (c ∷ at))
row_place-source [] ind_dims at ind ind_line rest_line c some ind_is rest_is = absurd (omega arith)
row_place-source (n ∷ rest) ind_dims at ind ind_line rest_line c some ind_is rest_is =
    ap (λ p. unwrap_or (from_end (get_or ind p (pos 0)) n) 0 + n * line_at rest_line c) (ind_is c)
    ∙ ap (λ q. unwrap_or (from_end (get_or ind (position_of ind_dims (cut_to ind_dims (c ∷ at))) (pos 0)) n) 0 + n * q) (rest_is c)

-- the coordinates by rows have the same source
pub source-by_rows : (parent ind_dims joined : List ℕ) (ind : List ℤ) (p : ℕ) → BroadcastsTo ind_dims joined → BroadcastsTo (drop 1 parent) joined
    → index_source parent ind_dims ind (coordinates_of joined p) ≡ index_source parent ind_dims ind (coordinates_of (by_rows joined) p)
source-by_rows [] ind_dims joined ind p ind_fits rest_fits = refl
source-by_rows (n ∷ rest) ind_dims joined ind p ind_fits rest_fits =
    ap (λ cs. unwrap_or (from_end (get_or ind (position_of ind_dims cs) (pos 0)) n) 0 ∷ cut_to rest (coordinates_of joined p)) (cut-by_rows ind_dims joined p ind_fits)
    ∙ ap (λ cs. unwrap_or (from_end (get_or ind (position_of ind_dims (cut_to ind_dims (coordinates_of (by_rows joined) p))) (pos 0)) n) 0 ∷ cs) (cut-by_rows rest joined p rest_fits)

-- a value that stands for a coordinate stands for this one
pub counted_is : (o : Option ℕ) (n : ℕ) → Some n ≡ o → n ≡ unwrap_or o 0
counted_is o n is = ap (λ p. unwrap_or p 0) is

-- a line that lies at the row's coordinates lies in the array
pub line_inside : (dims joined at : List ℕ) (line : Line) → AtRow dims joined at → ((c : ℕ) → line_at line c ≡ position_of dims (cut_to dims (c ∷ at))) → (c : ℕ) → c < get_or joined 0 1 → line_at line c < size_of dims
line_inside dims joined at line row is c h = subst (λ n. n < size_of dims) (sym (is c)) (row.inside c h)

place_fits : (n s p : ℕ) → p < s → n * s ≤ extent_limit → n * p + n ≤ extent_limit
place_fits n s p h fits =
    let more : n * (p + 1) ≤ n * s = mul-le-mul_left n (add-one-le h) in
    omega (arith, more)

-- the places of a row stay within the limits
pub rows_fit : SizeLaws → (parent : List ℕ) (p : ℕ) → extent parent ≤ extent_limit → p < size_of (drop 1 parent) → get_or parent 0 1 * p + get_or parent 0 1 ≤ extent_limit
rows_fit extents parent p fits h =
    place_fits (get_or parent 0 1) (size_of (drop 1 parent)) p h (omega (arith, size_of-by_rows parent, extents.size_within parent))

-- the first size, whatever stands for a missing one
pub first_size : (parent : List ℕ) → 0 < length parent → get_or parent 0 1 ≡ get_or parent 0 0
first_size [] some = absurd (omega arith)
first_size (n ∷ rest) some = refl

-- the places of a round are those of its positions
pub row_places : (parent ind_dims joined at : List ℕ) (ind : List ℤ) (ind_line rest_line : Line) (r : ℕ) → 0 < length parent → BroadcastsTo ind_dims joined → BroadcastsTo (drop 1 parent) joined
    → at ≡ coordinates_of (drop 1 joined) r
    → ((c : ℕ) → line_at ind_line c ≡ position_of ind_dims (cut_to ind_dims (c ∷ at)))
    → ((c : ℕ) → line_at rest_line c ≡ position_of (drop 1 parent) (cut_to (drop 1 parent) (c ∷ at)))
    → (c : ℕ) → c < get_or joined 0 1
    → Some (row_place (get_or parent 0 1) ind ind_line rest_line c) ≡ Some (position_of parent (index_source parent ind_dims ind (coordinates_of joined (c + get_or joined 0 1 * r))))
row_places parent ind_dims joined at ind ind_line rest_line r some ind_fits rest_fits is ind_is rest_is c h =
    ap Some (row_place-source parent ind_dims at ind ind_line rest_line c some ind_is rest_is
    ∙ ap (λ cs. position_of parent (index_source parent ind_dims ind cs)) (ap (λ cs. c ∷ cs) is ∙ sym (row-coordinates joined c r h))
    ∙ ap (position_of parent) (sym (source-by_rows parent ind_dims joined ind (c + get_or joined 0 1 * r) ind_fits rest_fits)))

-- a line of the same sizes at the same coordinates
pub same_line : (dims dims' at at' : List ℕ) (line : Line) → dims ≡ dims' → at ≡ at' → ((c : ℕ) → line_at line c ≡ position_of dims (cut_to dims (c ∷ at)))
    → (c : ℕ) → line_at line c ≡ position_of dims' (cut_to dims' (c ∷ at'))
same_line dims dims' at at' line dims_same at_same is c =
    is c ∙ ap (λ (ds : List ℕ). position_of ds (cut_to ds (c ∷ at))) dims_same ∙ ap (λ (cs : List ℕ). position_of dims' (cut_to dims' (c ∷ cs))) at_same

-- the round is one of those that the rows need
pub row_below : (joined : List ℕ) (count row total r : ℕ) → row ≡ get_or joined 0 1 → count ≡ size_of joined → (row ≡ 0 → total ≡ 0) → (0 < row → total ≡ count / row) → r < total → r < size_of (drop 1 joined)
row_below joined count row total r row_is is none some h =
    (rounds_below count row (size_of (drop 1 joined)) total r (is ∙ size_of-by_rows joined ∙ ap (λ n. n * size_of (drop 1 joined)) (sym row_is)) none some h).1

pub rows_all : (joined : List ℕ) (count row total r : ℕ) → row ≡ get_or joined 0 1 → count ≡ size_of joined → (row ≡ 0 → total ≡ 0) → (0 < row → total ≡ count / row) → total ≤ r → r ≤ total → get_or joined 0 1 * r ≡ size_of joined
rows_all joined count row total r row_is is none some end long =
    ap (λ n. n * r) (sym row_is) ∙ rounds_all count row (size_of (drop 1 joined)) total r (is ∙ size_of-by_rows joined ∙ ap (λ n. n * size_of (drop 1 joined)) (sym row_is)) none some end long ∙ is

pub moved_row : PositionLaws → (joined outer old new : List ℕ) (r : ℕ) → outer ≡ drop 1 joined → r < size_of (drop 1 joined) → old ≡ coordinates_of (drop 1 joined) r → new ≡ coordinates_of outer (position_of outer old + 1) → new ≡ coordinates_of (drop 1 joined) (r + 1)
moved_row positions joined outer old new r outer_is h is moved =
    moved
    ∙ ap (λ (ds : List ℕ). coordinates_of ds (position_of ds old + 1)) outer_is
    ∙ ap (λ (cs : List ℕ). coordinates_of (drop 1 joined) (position_of (drop 1 joined) cs + 1)) is
    ∙ ap (λ n. coordinates_of (drop 1 joined) (n + 1)) (positions.position_again (drop 1 joined) r h)

pub row_within : PositionLaws → (joined outer at : List ℕ) (r : ℕ) → outer ≡ drop 1 joined → r < size_of (drop 1 joined) → at ≡ coordinates_of (drop 1 joined) r → IsWithin outer at
row_within positions joined outer at r outer_is h is =
    subst (λ (cs : List ℕ). IsWithin outer cs) (sym is) (subst (λ (ds : List ℕ). IsWithin ds (coordinates_of (drop 1 joined) r)) (sym outer_is) (positions.coordinates_within (drop 1 joined) r h))

-- a row along which index values follow one another, and the parent's other dimensions stay
pub row_along : (n : ℕ) (ind : List ℤ) (ind_line rest_line : Line) (row : ℕ) → 0 < row → ind_line.step ≡ 1 → rest_line.step ≡ 0 → ((c : ℕ) → c < row → line_at ind_line c < length ind)
    → map (λ (value : ℤ). Some (counted_place n (n * rest_line.from) value)) (take ((ind_line.from + row) - ind_line.from) (drop ind_line.from ind)) ≡ map (λ c. Some (row_place n ind ind_line rest_line c)) (range_with_len 0 row)
row_along n ind ind_line rest_line row some one none inside =
    let from : ℕ = ind_line.from in
    let count : ℕ = (from + row) - from in
    let values : List ℤ = take count (drop from ind) in
    let of_value : ℤ → Option ℕ = λ value. Some (counted_place n (n * rest_line.from) value) in
    let of_column : ℕ → Option ℕ = λ c. Some (row_place n ind ind_line rest_line c) in
    let last : from + 1 * (row - 1) < length ind = subst (λ (s : ℕ). from + s * (row - 1) < length ind) one (inside (row - 1) (omega arith)) in
    let whole : length values ≡ count = length-take-le count (drop from ind) (omega (arith, last, length-drop from ind)) in
    let long : length (map of_value values) ≡ length values = simp length-map in
    ext_get_or None (map of_value values) (map of_column (range_with_len 0 row)) (omega (arith, long, whole, length-map-range_with_len of_column 0 row))
    (λ k h. (let low : k < row = omega (arith, h, long, whole) in
    let at : from + k ≡ line_at ind_line k = (let once : from + k ≡ from + 1 * k = omega arith in once ∙ ap (λ (s : ℕ). from + s * k) (sym one)) in
    let rest : rest_line.from ≡ line_at rest_line k = (let never : rest_line.from ≡ rest_line.from + 0 * k = omega arith in never ∙ ap (λ (s : ℕ). rest_line.from + s * k) (sym none)) in
    get_or-map of_value values k (pos 0) None (omega (arith, low, whole))
    ∙ ap of_value (get_or-take count (drop from ind) k (pos 0) (omega (arith, low)) ∙ get_or-drop from ind k (pos 0))
    ∙ ap₂ (λ (p q : ℕ). Some (unwrap_or (from_end (get_or ind p (pos 0)) n) 0 + n * q)) at rest
    ∙ sym (get_or-map-range_with_len of_column 0 row k k None low (omega arith))))
