-- Arrays that show each place once.
use Rattle.std.proofs.Common.{◌≡◌, ℕ, ◌<◌, pos, true, false, List, length, map, get_or, Option, Some, None, inl, inr, refl, sym, ◌∙◌, ap, arith}
use Rattle.std.proofs.lemmas.Bool.{cases_Bool, cases_lt}
use Rattle.std.proofs.lemmas.List.{get_or-map, length-map}
use Rattle.std.proofs.lemmas.List.FromFn.{get_or-map-range_with_len, length-map-range_with_len}
use Rattle.pdl_lemmas.specs.Numbers.{abs_pos}
use Rattle.pdl_lemmas.specs.Lists.{entry_inside}
use Rattle.pdl_shape.specs.Laws.{PositionLaws}
use Rattle.pdl_shape.specs.Shape.{coordinates_of, position_of, size_of}
use Rattle.pdl_shape.specs.Triple.{Triple, IsTriple, place_of}
use Rattle.pdl_numbers.specs.Shown.{place_at}
use Rattle.pdl_world.specs.WindowLaws.{IsRepeated, PositionsRepeat, RepeatsHavePositions}
use Rattle.pdl_world.specs.World.{entry, has_repeats}
use Rattle.pdl_nodes.specs.Families.{InOrder}
use Rattle.pdl_nodes.specs.RowLaws.{RowLaws}
use Rattle.pdl_nodes.specs.Rows.{Rows, has, row_at}
use Rattle.pdl_nodes.specs.Spots.{spots}
use Rattle.pdl_nodes.specs.Worlds.{places_seen}
use Rattle.pdl_engine.specs.Apart.{LiesApart}

-- a marked base knows whether it has repeats
pub flag_is : (facts : RowLaws) → (rs : Rows) (v : ℕ) → InOrder rs → has rs v ≡ true → (row_at rs (row_at rs v).base).mark ≡ true
    → (row_at rs (row_at rs v).base).repeats ≡ has_repeats (places_seen rs (row_at rs v).base)
flag_is facts rs v o h m =
    ((o.family (row_at rs v).root (facts.seen.root_live rs (row_at rs v).root v o.still h refl)).marked (row_at rs v).base m (facts.seen.is_seen rs o.still v h).base_root).flag

-- positions that have one place by increments that lie apart are the same
pub position_once : PositionLaws → (t : Triple) (j k : ℕ) → IsTriple t → LiesApart t → j < size_of t.dims → k < size_of t.dims → place_at t j ≡ place_at t k → j ≡ k
position_once laws t j k ok apart h g e =
    let at : (p : ℕ) → p < size_of t.dims → pos (place_at t p) ≡ place_of t (coordinates_of t.dims p) = λ p l. abs_pos (place_of t (coordinates_of t.dims p)) (ok.reachable (coordinates_of t.dims p) (laws.coordinates_within t.dims p l)).low in
    let same : coordinates_of t.dims j ≡ coordinates_of t.dims k = apart (coordinates_of t.dims j) (coordinates_of t.dims k) (laws.coordinates_within t.dims j h) (laws.coordinates_within t.dims k g) (sym (at j h) ∙ ap pos e ∙ at k g) in
    sym (laws.position_again t.dims j h) ∙ ap (position_of t.dims) same ∙ laws.position_again t.dims k g

-- two positions of a list that have one place are a repeat
repeated : PositionsRepeat → (qs : List (Option ℕ)) (p q i : ℕ) → (p ≡ q → ⊥) → entry qs p ≡ Some i → entry qs q ≡ Some i → has_repeats qs ≡ true
repeated twice qs p q i n e f = elim (cases_lt p q) [
  | inl low ↦ twice qs p q i (record { order = low; inside = entry_inside qs q i f; first = e; second = f })
  | inr up ↦ elim (cases_lt q p) [
    | inl low ↦ twice qs q p i (record { order = low; inside = entry_inside qs p i e; first = f; second = e })
    | inr same ↦ absurd (n (omega (arith, up, same)))
  ]
]

-- the place of a position is that of the base's position that the triple shows
over_at : (qs : List (Option ℕ)) (t : Triple) (j : ℕ) → j < size_of t.dims → get_or (map (entry qs) (spots t)) j None ≡ entry qs (place_at t j)
over_at qs t j h =
    let long : length (spots t) ≡ size_of t.dims = length-map-range_with_len (place_at t) 0 (size_of t.dims) in
    get_or-map (entry qs) (spots t) j 0 None (omega (arith, long, h))
    ∙ ap (entry qs) (get_or-map-range_with_len (place_at t) 0 (size_of t.dims) j j 0 h (omega arith))

-- an array over a base without repeats by increments that lie apart has none
once_through : PositionLaws → RepeatsHavePositions → PositionsRepeat → (qs : List (Option ℕ)) (t : Triple) → IsTriple t → LiesApart t → has_repeats qs ≡ false → has_repeats (map (entry qs) (spots t)) ≡ false
once_through laws found twice qs t ok apart once = elim (cases_Bool (has_repeats (map (entry qs) (spots t)))) [
  | inl y ↦ (let ps : List (Option ℕ) = map (entry qs) (spots t) in
      let r = found ps y in
      let j : ℕ = r.0 in
      let k : ℕ = r.1 in
      let i : ℕ = r.2 in
      let is : IsRepeated ps j k i = r.3 in
      let long : length ps ≡ size_of t.dims = length-map (spots t) (entry qs) ∙ length-map-range_with_len (place_at t) 0 (size_of t.dims) in
      let high : k < size_of t.dims = omega (arith, long, is.inside) in
      let low : j < size_of t.dims = omega (arith, high, is.order) in
      let again : has_repeats qs ≡ true = repeated twice qs (place_at t j) (place_at t k) i
      (λ e. (let same : j ≡ k = position_once laws t j k ok apart low high e in omega (arith, same, is.order)))
      (sym (over_at qs t j low) ∙ is.first) (sym (over_at qs t k high) ∙ is.second) in
      absurd (let x : true ≡ false = sym again ∙ once in cc))
  | inr n ↦ n
]

pub once_over : (facts : RowLaws) → PositionLaws → RepeatsHavePositions → PositionsRepeat → (rs : Rows) (v : ℕ) → InOrder rs → has rs v ≡ true → IsTriple (row_at rs v).triple → LiesApart (row_at rs v).triple
    → has_repeats (places_seen rs (row_at rs v).base) ≡ false → has_repeats (places_seen rs v) ≡ false
once_over facts laws found twice rs v o h ok apart once =
    ap has_repeats (facts.seen.is_seen rs o.still v h).over ∙ once_through laws found twice (places_seen rs (row_at rs v).base) (row_at rs v).triple ok apart once
