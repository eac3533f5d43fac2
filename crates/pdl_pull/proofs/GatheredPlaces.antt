-- The places that are found for a view over its fresh parent are its own.
use Rattle.std.proofs.Common.{◌≡◌, ℕ, ◌+◌, ◌<◌, true, false, List, [], ◌∷◌, length, map, Option, Some, None, option_and_then, inl, inr, refl, sym, ◌∙◌, ap, subst, arith}
use Rattle.std.specs.List.{range_with_len}
use Rattle.std.proofs.lemmas.Bool.{eq-eqb, ne_eqb}
use Rattle.std.proofs.lemmas.Bool.Decides.{eqb_tells}
use Rattle.std.proofs.lemmas.List.{get_or-map, ext_get_or}
use Rattle.std.proofs.lemmas.List.Elements.{All-get_or}
use Rattle.std.proofs.lemmas.List.FromFn.{length-map-range_with_len, get_or-map-range_with_len}
use Rattle.pdl_shape.specs.Places.{IsBelow, places_of as parent_places}
use Rattle.pdl_shape.specs.Shape.{size_of}
use Rattle.pdl_shape.specs.Triple.{Triple}
use Rattle.pdl_world.specs.Formula.{source}
use Rattle.pdl_world.specs.Windows.{over}
use Rattle.pdl_world.specs.World.{Look}
use Rattle.pdl_world.specs.declared.Trans.{Trans}
use Rattle.pdl_nodes.specs.Assigned.{entry}
use Rattle.pdl_nodes.specs.Families.{InOrder}
use Rattle.pdl_nodes.specs.Known.{AreKnown}
use Rattle.pdl_nodes.specs.Placed.{placed_by}
use Rattle.pdl_nodes.specs.Row.{Row}
use Rattle.pdl_nodes.specs.RowLaws.{RowLaws}
use Rattle.pdl_nodes.specs.Rows.{Rows, row_at, has, NumbersBelow}
use Rattle.pdl_nodes.specs.Seen.{IsSeen, IsViewAt}
use Rattle.pdl_nodes.specs.Still.{own_places, base_over, IsOwn, IsLaid, StillFrom, IsStill}
use Rattle.pdl_nodes.specs.Worlds.{shape, def_from, places_in, places_seen}
use Rattle.pdl_nodes.specs.declared.origin.Layout.{Layout}
use Rattle.pdl_nodes.specs.declared.origin.Layout.TheVariants.{Plan, Choice}
use Rattle.pdl_nodes.specs.declared.origin.Origin.{Origin}
use Rattle.pdl_nodes.specs.declared.origin.Origin.TheVariants.{View}
use Rattle.pdl_pull.specs.Gathered.{own_at}

-- the places of a view are those of its parent, at the positions that its transformation picks
through_parent : (facts : RowLaws) → (rs : Rows) (v p : ℕ) (t : Trans) (y : Layout) → IsStill rs → has rs v ≡ true → (row_at rs v).origin ≡ View p t y → places_seen rs v ≡ map (option_and_then (entry (places_seen rs p))) (parent_places (row_at rs v).triple.dims (row_at rs p).triple.dims (source t (row_at rs p).triple.dims))
through_parent facts rs v p t y s h e = from rs v s h e where
  newest : (k : ℕ) (r : Row) (rs : Rows) → NumbersBelow k rs → IsStill rs → StillFrom rs k r (View p t y) → r.origin ≡ View p t y → places_seen ((k, r) ∷ rs) k ≡ map (option_and_then (entry (places_seen rs p))) (parent_places r.triple.dims (row_at rs p).triple.dims (source t (row_at rs p).triple.dims))
  newest k r rs b i f o =
      let a : IsSeen rs p = facts.seen.is_seen rs i p f.0 in
      let l : Look = record { root = (row_at rs p).root; ty = (row_at rs p).ty; dims = (row_at rs p).triple.dims; places = places_seen rs p } in
      ap (λ x. places_in ((k, def_from r.ty r.triple.dims x) ∷ shape rs) k) o
      ∙ rw (eq-eqb k k refl, a.looks, f.1.allowed) refl

  from : (rs : Rows) (v : ℕ) → IsStill rs → has rs v ≡ true → (row_at rs v).origin ≡ View p t y → places_seen rs v ≡ map (option_and_then (entry (places_seen rs p))) (parent_places (row_at rs v).triple.dims (row_at rs p).triple.dims (source t (row_at rs p).triple.dims))
  from [] v s h e = let x : false ≡ true = h in absurd (cc)
  from ((k, r) ∷ rs) v s h e = elim (eqb_tells k v) [
    | inl q ↦ (let o : r.origin ≡ View p t y = rw q.0 at e in
        let f : StillFrom rs k r (View p t y) = subst (λ (x : Origin). StillFrom rs k r x) o s.1 in
        let np : k ≡ p → ⊥ = facts.numbers.not_newest rs k p s.0 f.0 in
        let P : ℕ → Type 0 = λ x. places_seen ((k, r) ∷ rs) x ≡ map (option_and_then (entry (places_seen ((k, r) ∷ rs) p))) (parent_places (row_at ((k, r) ∷ rs) x).triple.dims (row_at ((k, r) ∷ rs) p).triple.dims (source t (row_at ((k, r) ∷ rs) p).triple.dims)) in
        subst P q.1 (newest k r rs s.0 s.2 f o
        ∙ ap (λ ps. map (option_and_then (entry ps)) (parent_places r.triple.dims (row_at rs p).triple.dims (source t (row_at rs p).triple.dims))) (sym (facts.numbers.places_older k r rs p np))
        ∙ rw (eq-eqb k k refl, ne_eqb k p np) refl))
    | inr q ↦ (let l : has rs v ≡ true = rw q.0 at h in
        let o : (row_at rs v).origin ≡ View p t y = rw q.0 at e in
        let np : k ≡ p → ⊥ = facts.numbers.not_newest rs k p s.0 (facts.seen.view_at rs s.2 v p t y l o).live in
        facts.numbers.places_older k r rs v q.1 ∙ from rs v s.2 l o
        ∙ ap (λ ps. map (option_and_then (entry ps)) (parent_places (row_at rs v).triple.dims (row_at rs p).triple.dims (source t (row_at rs p).triple.dims))) (sym (facts.numbers.places_older k r rs p np))
        ∙ rw (q.0, ne_eqb k p np) refl)
  ]

-- a view that is its own base shows its parent at its own places
own_view : (facts : RowLaws) → (rs : Rows) (b p : ℕ) (t : Trans) (y : Layout) (o : Option Triple) → IsStill rs → IsViewAt rs b p t y → (row_at rs b).base ≡ b → over t (row_at rs p).triple ≡ o → (row_at rs b).base ≡ base_over b (row_at rs p).base o → IsLaid (row_at rs p).triple (parent_places (row_at rs b).triple.dims (row_at rs p).triple.dims (source t (row_at rs p).triple.dims)) (own_places (row_at rs b).triple.dims y) (row_at rs b).triple.dims o → IsOwn (row_at rs p).triple (parent_places (row_at rs b).triple.dims (row_at rs p).triple.dims (source t (row_at rs p).triple.dims)) (own_places (row_at rs b).triple.dims y) (row_at rs b).triple.dims
own_view facts rs b p t y None s a e f g w = w
own_view facts rs b p t y (Some u) s a e f g w =
    let low : (row_at rs p).base < p + 1 = (facts.seen.is_seen rs s p a.live).base_low in
    let z : b ≡ (row_at rs p).base = sym e ∙ g in
    absurd (let x : ⊥ = omega (arith, a.older, z) in x)

-- so the place at a position is that of its parent's position
place_up : (facts : RowLaws) → (rs : Rows) (b p i : ℕ) (t : Trans) (y : Layout) → IsStill rs → has rs b ≡ true → (row_at rs b).base ≡ b → (row_at rs b).origin ≡ View p t y → i < size_of (row_at rs b).triple.dims → entry (places_seen rs b) i ≡ option_and_then (entry (places_seen rs p)) (entry (own_places (row_at rs b).triple.dims y) i)
place_up facts rs b p i t y s h e o l =
    let a : IsViewAt rs b p t y = facts.seen.view_at rs s b p t y h o in
    let w : IsOwn (row_at rs p).triple (parent_places (row_at rs b).triple.dims (row_at rs p).triple.dims (source t (row_at rs p).triple.dims)) (own_places (row_at rs b).triple.dims y) (row_at rs b).triple.dims = own_view facts rs b p t y (over t (row_at rs p).triple) s a e refl a.derived.base_is a.derived.laid in
    let len : length (own_places (row_at rs b).triple.dims y) ≡ size_of (row_at rs b).triple.dims = ap (λ (xs : List (Option ℕ)). length xs) (sym w.places) ∙ length-map-range_with_len _ 0 (size_of (row_at rs b).triple.dims) in
    ap (λ ps. entry ps i) (through_parent facts rs b p t y s h o ∙ ap (map (option_and_then (entry (places_seen rs p)))) w.places)
    ∙ get_or-map (option_and_then (entry (places_seen rs p))) (own_places (row_at rs b).triple.dims y) i None None (omega (arith, len))

-- the places of an array over what is known of its marked base
pub over_known : (facts : RowLaws) → (rs : Rows) (c p : ℕ) → InOrder rs → AreKnown rs → has rs p ≡ true → (row_at rs p).base ≡ c → (row_at rs c).mark ≡ true → placed_by (row_at rs c).places (row_at rs p).triple ≡ places_seen rs p
over_known facts rs c p i k h b m =
    ap (λ x. placed_by (row_at rs x).places (row_at rs p).triple) (sym b) ∙ facts.seen.over_known rs p i k h (ap (λ x. (row_at rs x).mark) b ∙ m)

-- the entries of a view's own places
own_is : (ds : List ℕ) (y : Layout) (i : ℕ) → i < size_of ds → own_at y i ≡ entry (own_places ds y) i
own_is ds (Plan p) i h = sym (get_or-map-range_with_len Some 0 (size_of ds) i i None h (omega arith))
own_is ds (Choice c) i h = refl

-- and they lie in the parent
pub own_below : (facts : RowLaws) → (rs : Rows) (b p : ℕ) (t : Trans) (y : Layout) → IsStill rs → has rs b ≡ true → (row_at rs b).base ≡ b → (row_at rs b).origin ≡ View p t y
    → (i : ℕ) → i < size_of (row_at rs b).triple.dims → IsBelow (size_of (row_at rs p).triple.dims) (own_at y i)
own_below facts rs b p t y s h e o i l =
    let a : IsViewAt rs b p t y = facts.seen.view_at rs s b p t y h o in
    let w : IsOwn (row_at rs p).triple (parent_places (row_at rs b).triple.dims (row_at rs p).triple.dims (source t (row_at rs p).triple.dims)) (own_places (row_at rs b).triple.dims y) (row_at rs b).triple.dims = own_view facts rs b p t y (over t (row_at rs p).triple) s a e refl a.derived.base_is a.derived.laid in
    let len : length (own_places (row_at rs b).triple.dims y) ≡ size_of (row_at rs b).triple.dims = ap (λ (xs : List (Option ℕ)). length xs) (sym w.places) ∙ length-map-range_with_len _ 0 (size_of (row_at rs b).triple.dims) in
    subst (λ (q : Option ℕ). IsBelow (size_of (row_at rs p).triple.dims) q) (sym (own_is (row_at rs b).triple.dims y i l))
    (All-get_or (IsBelow (size_of (row_at rs p).triple.dims)) (own_places (row_at rs b).triple.dims y) i None (omega (arith, len)) w.within)

-- the places that are found over the parent are the view's
pub found_places : (facts : RowLaws) → (rs : Rows) (b p n : ℕ) (t : Trans) (y : Layout) (known : Option (List (Option ℕ))) (u : Triple) → IsStill rs → has rs b ≡ true → (row_at rs b).base ≡ b → (row_at rs b).origin ≡ View p t y → n ≡ size_of (row_at rs b).triple.dims → placed_by known u ≡ places_seen rs p
    → map (λ i. option_and_then (entry (placed_by known u)) (own_at y i)) (range_with_len 0 n) ≡ places_seen rs b
found_places facts rs b p n t y known u s h e o c k =
    let f : ℕ → Option ℕ = λ i. option_and_then (entry (placed_by known u)) (own_at y i) in
    let len : length (map f (range_with_len 0 n)) ≡ n = length-map-range_with_len f 0 n in
    ext_get_or None (map f (range_with_len 0 n)) (places_seen rs b) (len ∙ c ∙ sym (facts.seen.is_seen rs s b h).count)
    (λ i l. (let low : i < n = omega (arith, len) in
    let w : i < size_of (row_at rs b).triple.dims = omega (arith, c) in
    get_or-map-range_with_len f 0 n i i None low (omega arith)
    ∙ ap (λ (ps : List (Option ℕ)). option_and_then (entry ps) (own_at y i)) k
    ∙ ap (λ x. option_and_then (entry (places_seen rs p)) x) (own_is (row_at rs b).triple.dims y i w)
    ∙ sym (place_up facts rs b p i t y s h e o w)))
