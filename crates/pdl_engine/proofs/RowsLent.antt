-- What is shown of a fresh array over its base.
use Rattle.std.proofs.Common.{ℕ, ℤ, pos, negsuc, ◌<◌, ◌<ℤ◌, arith, List, subst, ◌≡◌, [], ◌∷◌, map, get_or, Option, None, refl, true, ◌∙◌, ap, length, sym}
use Rattle.std.specs.List.{range_with_len}
use Rattle.std.specs.Prelude.{unsigned_abs}
use Rattle.std.proofs.Math.ListN.{get_or-map}
use Rattle.std.proofs.lemmas.Int.{ints}
use Rattle.std.proofs.lemmas.List.{length-map}
use Rattle.std.proofs.lemmas.Simd.{map-map}
use Rattle.pdl_elem.specs.declared.Ty.{Ty}
use Rattle.pdl_shape.specs.Laws.{PositionLaws}
use Rattle.pdl_shape.specs.Places.{element_at, read}
use Rattle.pdl_shape.specs.Shape.{size_of, position_of}
use Rattle.pdl_shape.specs.Triple.{Triple, place_of, Reaches}
use Rattle.pdl_numbers.specs.Typed.{TypedElements}
use Rattle.pdl_buf.specs.Window.{Window}
use Rattle.pdl_numbers.specs.Shown.{place_at, shown_through}
use Rattle.pdl_world.specs.World.{elements, dims_in, ty_in}
use Rattle.pdl_nodes.specs.Alike.{is_fresh_in}
use Rattle.pdl_nodes.specs.Assigned.{entry}
use Rattle.pdl_nodes.specs.Families.{IsMarked, InOrder}
use Rattle.pdl_nodes.specs.RowLaws.{RowLaws}
use Rattle.pdl_nodes.specs.Rows.{Rows, row_at, has}
use Rattle.pdl_nodes.specs.Seen.{IsSeen}
use Rattle.pdl_nodes.specs.Spots.{spots, Below}
use Rattle.pdl_nodes.specs.Worlds.{places_seen, latest, world_of}

-- a whole number whose size lies below n lies below n
small_abs : (z : ℤ) (n : ℕ) → unsigned_abs z < n → z <ℤ pos n
small_abs (pos m) n h = omega (arith, ints, h)
small_abs (negsuc m) n h = omega (arith, ints)

-- a triple whose places lie below n reaches no further
reaches : (facts : RowLaws) → PositionLaws → (u : Triple) (n : ℕ) → Below n (spots u) → Reaches u n
reaches facts laws u n b cs w =
    let p : ℕ = position_of u.dims cs in
    let l : position_of u.dims cs < size_of u.dims = laws.position_below u.dims cs w in
    let q : place_at u (position_of u.dims cs) < n = facts.seen.below_at n (place_at u) 0 (size_of u.dims) (position_of u.dims cs) b (omega arith) (omega arith) in
    small_abs (place_of u cs) n (subst (λ (x : List ℕ). unsigned_abs (place_of u x) < n) (laws.coordinates_again u.dims cs w) q)

-- what is read through a list of places is what is kept at its positions
read_over : (ps : List (Option ℕ)) (is : List ℕ) (es : List ℤ) → read (map (entry ps) is) es ≡ map (λ i. get_or (read ps es) i (pos 0)) is
read_over ps [] es = refl
read_over ps (i ∷ is) es =
    let head : get_or (read ps es) i (pos 0) ≡ element_at es (get_or ps i None) = get_or-map (element_at es) ps i None in
    let tail : read (map (entry ps) is) es ≡ map (λ i. get_or (read ps es) i (pos 0)) is = read_over ps is es in
    cc

-- what a fresh array shows of its base
record IsFreshBase (rs : Rows) (v : ℕ) : Type 0 where
  seen : IsSeen rs v
  marked : IsMarked rs (row_at rs v).base

fresh_base : (facts : RowLaws) → (rs : Rows) (v : ℕ) → InOrder rs → has rs v ≡ true → is_fresh_in rs v ≡ true → IsFreshBase rs v
fresh_base facts rs v o h f =
    let s : IsSeen rs v = facts.seen.is_seen rs o.still v h in
    record { seen = s; marked = (o.family (row_at rs v).root (s.root_has, s.root_root)).marked (row_at rs v).base f s.base_root }

kept_is : (rs : Rows) (v : ℕ) (y : IsFreshBase rs v) → (row_at rs (row_at rs v).base).kept ≡ read (places_seen rs (row_at rs v).base) (latest rs (row_at rs v).root)
kept_is rs v y = y.marked.shows ∙ ap (λ x. read (places_seen rs (row_at rs v).base) (latest rs x)) y.seen.base_root

-- a fresh base keeps as many elements as it has positions, and the array reaches no further
base_count : (facts : RowLaws) → (rs : Rows) (v : ℕ) → InOrder rs → has rs v ≡ true → is_fresh_in rs v ≡ true → length (row_at rs (row_at rs v).base).kept ≡ size_of (row_at rs (row_at rs v).base).triple.dims
base_count facts rs v o h f =
    let y : IsFreshBase rs v = fresh_base facts rs v o h f in
    ap length (kept_is rs v y) ∙ length-map (places_seen rs (row_at rs v).base) (element_at (latest rs (row_at rs v).root)) ∙ (facts.seen.is_seen rs o.still (row_at rs v).base y.seen.base_has).count

base_reaches : (facts : RowLaws) → PositionLaws → (rs : Rows) (v : ℕ) → InOrder rs → has rs v ≡ true → is_fresh_in rs v ≡ true → Reaches (row_at rs v).triple (length (row_at rs (row_at rs v).base).kept)
base_reaches facts laws rs v o h f =
    let P : ℕ → Type 0 = λ n. Below n (spots (row_at rs v).triple) in
    reaches facts laws (row_at rs v).triple _ (subst P (sym (base_count facts rs v o h f)) (facts.seen.is_seen rs o.still v h).fits)

-- so does a window on these elements
pub lent_reaches : (facts : RowLaws) → PositionLaws → (rs : Rows) (v : ℕ) (u : Triple) (es : List ℤ) → InOrder rs → has rs v ≡ true → is_fresh_in rs v ≡ true → u ≡ (row_at rs v).triple → es ≡ (row_at rs (row_at rs v).base).kept → Reaches u (length es)
lent_reaches facts laws rs v u es o h f eu ee =
    subst (λ (t : Triple). Reaches t (length es)) (sym eu)
    (subst (λ (xs : List ℤ). Reaches (row_at rs v).triple (length xs)) (sym ee) (base_reaches facts laws rs v o h f))

-- what is shown of it are its elements
pub lent_elements : (facts : RowLaws) → (rs : Rows) (v : ℕ) → InOrder rs → has rs v ≡ true → is_fresh_in rs v ≡ true → shown_through (row_at rs v).triple (row_at rs (row_at rs v).base).kept ≡ elements (world_of rs) v
lent_elements facts rs v o h f =
    let y : IsFreshBase rs v = fresh_base facts rs v o h f in
    ap (shown_through (row_at rs v).triple) (kept_is rs v y)
    ∙ sym (map-map (λ i. get_or (read (places_seen rs (row_at rs v).base) (latest rs (row_at rs v).root)) i (pos 0)) (place_at (row_at rs v).triple) (range_with_len 0 (size_of (row_at rs v).triple.dims)))
    ∙ sym (read_over (places_seen rs (row_at rs v).base) (spots (row_at rs v).triple) (latest rs (row_at rs v).root))
    ∙ ap (λ ps. read ps (latest rs (row_at rs v).root)) (sym y.seen.over)
    ∙ sym (facts.seen.elements_are rs v o.still h)

-- and its type and dimensions are the array's
pub lent_window : (facts : RowLaws) → (rs : Rows) (v : ℕ) (u : Triple) (k : TypedElements) → InOrder rs → has rs v ≡ true → is_fresh_in rs v ≡ true → u ≡ (row_at rs v).triple → k.ty ≡ (row_at rs (row_at rs v).base).ty → k.elems ≡ (row_at rs (row_at rs v).base).kept
    → ◌≡◌ {A = Window} (record { ty = k.ty; dims = u.dims; elems = shown_through u k.elems }) (record { ty = ty_in (world_of rs) v; dims = dims_in (world_of rs) v; elems = elements (world_of rs) v })
lent_window facts rs v u k o h f eu ey ee =
    let w : Ty → List ℕ → List ℤ → Window = λ y ds es. record { ty = y; dims = ds; elems = es } in
    ap (λ y. w y u.dims (shown_through u k.elems)) (ey ∙ (facts.seen.is_seen rs o.still v h).base_ty ∙ sym (facts.seen.ty_are rs v o.still h))
    ∙ ap (λ ds. w (ty_in (world_of rs) v) ds (shown_through u k.elems)) (ap (λ (x : Triple). x.dims) eu ∙ sym (facts.seen.dims_are rs v o.still h))
    ∙ ap (λ es. w (ty_in (world_of rs) v) (dims_in (world_of rs) v) es) (ap (λ x. shown_through x k.elems) eu ∙ ap (λ es. shown_through (row_at rs v).triple es) ee ∙ lent_elements facts rs v o h f)
