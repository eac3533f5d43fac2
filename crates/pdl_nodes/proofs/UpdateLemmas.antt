-- The elements of an array over its root, changed where they stand.
use Rattle.std.proofs.Common.{◌≡◌, ℕ, ℤ, pos, negsuc, ◌<◌, ◌<ℤ◌, true, false, List, length, drop, map, get_or, Option, Some, None, refl, sym, ◌∙◌, ap, ap₂, subst, arith}
use Rattle.std.specs.List.{range_with_len}
use Rattle.std.specs.Prelude.{unsigned_abs}
use Rattle.std.proofs.lemmas.Int.{ints}
use Rattle.std.proofs.lemmas.List.{length-map}
use Rattle.std.proofs.lemmas.List.Elements.{All-map}
use Rattle.std.proofs.lemmas.List.FromFn.{get_or-map-range_with_len, length-map-range_with_len}
use Rattle.std.proofs.lemmas.Simd.{map-map}
use Rattle.slab.specs.Slab.{Slab, get, with_value}
use Rattle.pdl_elem.specs.Laws.{WrappingLaws}
use Rattle.pdl_elem.specs.Operators.{binary_whole}
use Rattle.pdl_elem.specs.Types.{InRange}
use Rattle.pdl_elem.specs.declared.Ty.{Ty}
use Rattle.pdl_shape.specs.Laws.{PositionLaws}
use Rattle.pdl_shape.specs.Places.{write}
use Rattle.pdl_shape.specs.Shape.{position_of, size_of}
use Rattle.pdl_shape.specs.Triple.{Reaches, Triple, place_of}
use Rattle.pdl_numbers.specs.Shown.{place_at, shown_through}
use Rattle.pdl_numbers.specs.Updates.{ShowsOnce, updated}
use Rattle.pdl_numbers.specs.Writes.{placed_from}
use Rattle.pdl_numbers.specs.declared.updates.Update.{Update}
use Rattle.pdl_world.specs.WindowLaws.{PositionsRepeat}
use Rattle.pdl_registry.specs.Numbered.{value_at}
use Rattle.pdl_nodes.specs.Changes.{kept_in}
use Rattle.pdl_nodes.specs.Families.{InOrder, has_repeats}
use Rattle.pdl_nodes.specs.Placed.{placed, placed_by}
use Rattle.pdl_nodes.specs.Put.{IsWrite, put_at, put_in}
use Rattle.pdl_nodes.specs.Row.{Row, shown_of}
use Rattle.pdl_nodes.specs.Rows.{Rows, row_at, has, each}
use Rattle.pdl_nodes.specs.Seen.{IsSeen}
use Rattle.pdl_nodes.specs.Spots.{Below, spots}
use Rattle.pdl_nodes.specs.Table.{IsTable, rows_of}
use Rattle.pdl_nodes.specs.Updates.{CanUpdate, updated_at}
use Rattle.pdl_nodes.specs.Worlds.{IsRoot, places_seen}
use Rattle.pdl_nodes.specs.declared.node.Goal.TheVariants.{Root}
use Rattle.pdl_nodes.specs.declared.node.Shown.{Shown}
use Rattle.pdl_nodes.proofs.TableCalls.{changed_one}
use Rattle.pdl_nodes.proofs.ChangesMarks.{kept_here, kept_others}
use Rattle.pdl_nodes.proofs.SpotsMoved.{route_is}
use Rattle.pdl_nodes.proofs.WorldsOverBases.{over_root}
use Rattle.pdl_nodes.proofs.RowsSeen.{is_seen}
use Rattle.pdl_nodes.proofs.SpotLemmas.{below_at}

-- ---- what a triple shows of a root

-- the place of each position
over_at : (t : Triple) (k : ℕ) → k < size_of t.dims → get_or (placed_by None t) k None ≡ Some (place_at t k)
over_at t k h =
    ap (λ (ps : List (Option ℕ)). get_or ps k None) (map-map (placed None) (place_at t) (range_with_len 0 (size_of t.dims)))
    ∙ get_or-map-range_with_len (λ p. placed None (place_at t p)) 0 (size_of t.dims) k k None h (omega arith)

over_long : (t : Triple) → length (placed_by None t) ≡ size_of t.dims
over_long t = length-map (spots t) (placed None) ∙ length-map-range_with_len (place_at t) 0 (size_of t.dims)

-- places without repeats are shown once
pub shows_once : PositionsRepeat → (t : Triple) → has_repeats (placed_by None t) ≡ false → ShowsOnce t
shows_once twice t once p q h l e =
    let again : has_repeats (placed_by None t) ≡ true = twice (placed_by None t) p q (place_at t p)
    (record { order = h; inside = omega (arith, l, over_long t); first = over_at t p (omega arith); second = over_at t q l ∙ ap Some (sym e) }) in
    let c : true ≡ false = sym again ∙ once in absurd (cc)

-- a whole number whose size lies below n lies below n
small_abs : (z : ℤ) (n : ℕ) → unsigned_abs z < n → z <ℤ pos n
small_abs (pos m) n h = omega (arith, ints, h)
small_abs (negsuc m) n h = omega (arith, ints)

-- a triple whose places lie below n reaches no further
pub reaches_below : PositionLaws → (u : Triple) (n : ℕ) → Below n (spots u) → Reaches u n
reaches_below laws u n b cs w =
    let l : position_of u.dims cs < size_of u.dims = laws.position_below u.dims cs w in
    let q : place_at u (position_of u.dims cs) < n = below_at n (place_at u) 0 (size_of u.dims) (position_of u.dims cs) b (omega arith) (omega arith) in
    small_abs (place_of u cs) n (subst (λ (x : List ℕ). unsigned_abs (place_of u x) < n) (laws.coordinates_again u.dims cs w) q)

-- ---- what becomes of the elements

pub updated_count : (u : Update) (t : Rows) (v : ℕ) → length (updated_at u t v) ≡ size_of (row_at t v).triple.dims
updated_count u t v =
    length-map (shown_through (row_at t v).triple (row_at t (row_at t v).base).kept) (updated (row_at t v).ty u)
    ∙ length-map-range_with_len (λ p. get_or (row_at t (row_at t v).base).kept (place_at (row_at t v).triple p) (pos 0)) 0 (size_of (row_at t v).triple.dims)

pub update_writes : WrappingLaws → (u : Update) (t : Rows) (v : ℕ) → CanUpdate u t v → IsWrite t v 0 (updated_at u t v)
update_writes laws u t v c = record {
  order = c.order;
  known = c.known;
  live = c.live;
  fresh = c.fresh;
  within = omega (arith, updated_count u t v);
  in_range = (let es : List ℤ = shown_through (row_at t v).triple (row_at t (row_at t v).base).kept in
      All-map (InRange (row_at t v).ty) (updated (row_at t v).ty u) es (λ k d h. laws.in_range (row_at t v).ty (binary_whole u.op (row_at t v).ty (get_or es k d) u.number)));
}

-- values that are put where the triple of an array over its root shows it are put at its places
pub put_is : (t : Rows) (v : ℕ) (vs : List ℤ) → InOrder t → has t v ≡ true → (row_at t v).base ≡ (row_at t v).root → length vs ≡ size_of (row_at t v).triple.dims
    → write (placed_from (row_at t v).triple 0 (size_of (row_at t v).triple.dims)) vs (row_at t (row_at t v).root).kept ≡ put_at Root t v 0 vs
put_is t v vs o l b long =
    let s : IsSeen t v = is_seen t o.still v l in
    let tr : Triple = (row_at t v).triple in
    let rt : ℕ = (row_at t v).root in
    let kept : List ℤ = (row_at t rt).kept in
    ap (λ (k : ℕ). write (placed_from tr 0 k) vs kept) (sym long)
    ∙ route_is (placed None) tr tr 0 vs kept refl (omega (arith, long))
    ∙ ap (λ (ps : List (Option ℕ)). write (drop 0 ps) vs kept) (sym (over_root t rt v o.still l (s.root_has, s.root_root) b))

-- and so is what becomes of the elements
pub update_is : (u : Update) (t : Rows) (v : ℕ) → InOrder t → has t v ≡ true → (row_at t v).base ≡ (row_at t v).root
    → write (placed_from (row_at t v).triple 0 (size_of (row_at t v).triple.dims)) (map (updated (row_at t (row_at t v).root).ty u) (shown_through (row_at t v).triple (row_at t (row_at t v).root).kept)) (row_at t (row_at t v).root).kept
    ≡ put_at Root t v 0 (updated_at u t v)
update_is u t v o l b =
    let s : IsSeen t v = is_seen t o.still v l in
    let tr : Triple = (row_at t v).triple in
    let kept : List ℤ = (row_at t (row_at t v).root).kept in
    ap₂ (λ (y : Ty) (x : ℕ). write (placed_from tr 0 (size_of tr.dims)) (map (updated y u) (shown_through tr (row_at t x).kept)) kept) s.root_ty (sym b)
    ∙ put_is t v (updated_at u t v) o l b (updated_count u t v)

-- ---- where it stands

-- the root of an array that is shown
pub root_at : (t : Rows) (at : Shown) → InOrder t → has t at.id ≡ true → at ≡ shown_of at.id (row_at t at.id) → IsRoot t at.root
root_at t at o l h =
    let s : IsSeen t at.id = is_seen t o.still at.id l in
    (ap (λ (x : Shown). has t x.root) h ∙ s.root_has, ap (λ (x : Shown). (row_at t x.root).root) h ∙ s.root_root ∙ ap (λ (x : Shown). x.root) (sym h))

-- its triple shows no place twice, and reaches no further than what the root keeps
pub once_at : PositionsRepeat → (u : Update) (t : Rows) (at : Shown) → CanUpdate u t at.id → at ≡ shown_of at.id (row_at t at.id) → at.base ≡ at.root → ShowsOnce at.triple
once_at twice u t at c h b =
    let i : IsRoot t at.root = root_at t at c.order c.live h in
    let places : places_seen t at.id ≡ placed_by None at.triple =
    over_root t at.root at.id c.order.still c.live i (ap (λ (x : Shown). x.base) (sym h) ∙ b) ∙ ap (λ (x : Shown). placed_by None x.triple) (sym h) in
    shows_once twice at.triple (ap has_repeats (sym places) ∙ c.once)

pub root_reaches : PositionLaws → (t : Rows) (at : Shown) → InOrder t → has t at.id ≡ true → at ≡ shown_of at.id (row_at t at.id) → at.base ≡ at.root → Reaches at.triple (length (row_at t at.root).kept)
root_reaches laws t at o l h b =
    let i : IsRoot t at.root = root_at t at o l h in
    let s : IsSeen t at.id = is_seen t o.still at.id l in
    let base : (row_at t at.id).base ≡ at.root = ap (λ (x : Shown). x.base) (sym h) ∙ b in
    let fits : Below (size_of (row_at t at.root).triple.dims) (spots (row_at t at.id).triple) = (let P : ℕ → Type 0 = λ x. Below (size_of (row_at t x).triple.dims) (spots (row_at t at.id).triple) in subst P base s.fits) in
    let few : Below (length (row_at t at.root).kept) (spots (row_at t at.id).triple) = (let P : ℕ → Type 0 = λ n. Below n (spots (row_at t at.id).triple) in subst P (sym (o.family at.root i).count) fits) in
    let P : Triple → Type 0 = λ w. Reaches w (length (row_at t at.root).kept) in
    subst P (ap (λ (x : Shown). x.triple) (sym h)) (reaches_below laws (row_at t at.id).triple (length (row_at t at.root).kept) few)

-- the rows once they were put
pub update_rows : (u : Update) (t : Rows) (keys : List (ℕ × ℕ)) (nodes : Slab Row) (at : Shown) (key : ℕ) (r q : Row) → CanUpdate u t at.id → at ≡ shown_of at.id (row_at t at.id) → at.base ≡ at.root
    → rows_of nodes keys ≡ t → IsTable keys nodes → value_at keys at.root ≡ Some key → get nodes key ≡ Some r → r ≡ row_at t at.root
    → q ≡ record r { kept = write (placed_from at.triple 0 (size_of at.triple.dims)) (map (updated r.ty u) (shown_through at.triple r.kept)) r.kept }
    → rows_of (with_value nodes key q) keys ≡ each (put_in Root t at.id 0 (updated_at u t at.id)) t
update_rows u t keys nodes at key r q c h b e i k g row n =
    let es : Row → List ℤ = λ x. write (placed_from at.triple 0 (size_of at.triple.dims)) (map (updated x.ty u) (shown_through at.triple x.kept)) x.kept in
    let base : (row_at t at.id).base ≡ (row_at t at.id).root = ap (λ (x : Shown). x.base) (sym h) ∙ b ∙ ap (λ (x : Shown). x.root) h in
    let kept : es (row_at t at.root) ≡ put_at Root t at.id 0 (updated_at u t at.id) =
    ap (λ (x : Shown). write (placed_from x.triple 0 (size_of x.triple.dims)) (map (updated (row_at t x.root).ty u) (shown_through x.triple (row_at t x.root).kept)) (row_at t x.root).kept) h
    ∙ update_is u t at.id c.order c.live base in
    changed_one (kept_in at.root (es (row_at t at.root))) t keys nodes at.root key r q e i k g (n ∙ ap (λ (x : Row). record r { kept = es x }) row ∙ kept_here at.root (es (row_at t at.root)) r) (kept_others at.root (es (row_at t at.root)))
    ∙ ap (λ (ks : List ℤ). each (kept_in at.root ks) t) kept
    ∙ ap (λ (x : Shown). each (kept_in x.root (put_at Root t at.id 0 (updated_at u t at.id))) t) h
