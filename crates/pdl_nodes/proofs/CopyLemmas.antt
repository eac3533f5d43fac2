-- Elements of an array that are copied to the positions of another one over its root.
use Rattle.std.proofs.Common.{◌≡◌, ℕ, ℤ, pos, true, List, [], ◌∷◌, inl, inr, length, get_or, Some, refl, sym, ◌∙◌, ap, ap₂, subst, All, arith}
use Rattle.std.proofs.lemmas.Bool.Decides.{eqb_tells}
use Rattle.std.proofs.lemmas.List.{length-map}
use Rattle.std.proofs.lemmas.List.FromFn.{length-map-range_with_len}
use Rattle.slab.proofs.SlabLemmas.{Updates-with_value}
use Rattle.slab.specs.Slab.{Slab, get, with_value}
use Rattle.pdl_elem.specs.Types.{InRange}
use Rattle.pdl_shape.specs.Laws.{PositionLaws}
use Rattle.pdl_shape.specs.Places.{element_at, write}
use Rattle.pdl_shape.specs.Shape.{size_of}
use Rattle.pdl_shape.specs.Triple.{Reaches}
use Rattle.pdl_numbers.specs.Shown.{place_at, shown_through}
use Rattle.pdl_numbers.specs.Writes.{placed_from}
use Rattle.pdl_registry.specs.Numbered.{value_at}
use Rattle.pdl_nodes.specs.Changes.{kept_in}
use Rattle.pdl_nodes.specs.Copies.{CanCopy, shown_at}
use Rattle.pdl_nodes.specs.Families.{IsMarked}
use Rattle.pdl_nodes.specs.Marked.{AreListed}
use Rattle.pdl_nodes.specs.Put.{IsWrite, put_at, put_in}
use Rattle.pdl_nodes.specs.Row.{Row, is_buffered, shown_of}
use Rattle.pdl_nodes.specs.Rows.{Rows, row_at, has, each}
use Rattle.pdl_nodes.specs.Seen.{IsSeen}
use Rattle.pdl_nodes.specs.Spots.{Below, spots}
use Rattle.pdl_nodes.specs.Table.{IsTable, rows_of}
use Rattle.pdl_nodes.specs.Worlds.{latest, places_seen}
use Rattle.pdl_nodes.specs.declared.marked.Marked.{Marked}
use Rattle.pdl_nodes.specs.declared.node.Goal.TheVariants.{Root}
use Rattle.pdl_nodes.specs.declared.node.Shown.{Shown}
use Rattle.pdl_nodes.proofs.ChangesMarks.{each_each, kept_here, kept_others}
use Rattle.pdl_nodes.proofs.MarkedListing.{listed_each, table_one}
use Rattle.pdl_nodes.proofs.RowFinds.{each_at, each_has}
use Rattle.pdl_nodes.proofs.RowShapes.{mark_buffered}
use Rattle.pdl_nodes.proofs.RowsSeen.{is_seen}
use Rattle.pdl_nodes.proofs.TableCalls.{changed_one}
use Rattle.pdl_nodes.proofs.UpdateLemmas.{put_is, reaches_below}

-- ---- the source, while the target's root keeps nothing

-- u and its base are other arrays than the root of v
source_beside : (t : Rows) (v u x : ℕ) → CanCopy t v u → (row_at t x).root ≡ (row_at t u).root → (x ≡ (row_at t v).root → ⊥)
source_beside t v u x c e same =
    let s : IsSeen t v = is_seen t c.order.still v c.live in
    c.apart (sym e ∙ ap (λ k. (row_at t k).root) same ∙ s.root_root)

-- the row of another array than a root that keeps nothing
row_left : (t rows : Rows) (rt x : ℕ) → rows ≡ each (kept_in rt []) t → has t x ≡ true → (x ≡ rt → ⊥) → row_at rows x ≡ row_at t x
row_left t rows rt x e l n = ap (λ r. row_at r x) e ∙ each_at (kept_in rt []) t x l ∙ kept_others rt [] x (row_at t x) n

-- what is known of u then
pub record IsSource (t rows : Rows) (v u : ℕ) : Type 0 where
  pub live : has rows u ≡ true
  pub base_live : has rows (row_at rows u).base ≡ true
  pub row : row_at rows u ≡ row_at t u
  pub base : row_at rows (row_at rows u).base ≡ row_at t (row_at t u).base

pub source_left : (t rows : Rows) (v u : ℕ) → CanCopy t v u → rows ≡ each (kept_in (row_at t v).root []) t → IsSource t rows v u
source_left t rows v u c e =
    let rt : ℕ = (row_at t v).root in
    let s : IsSeen t u = is_seen t c.order.still u c.source_live in
    let row : row_at rows u ≡ row_at t u = row_left t rows rt u e c.source_live (source_beside t v u u c refl) in
    let base : (row_at rows u).base ≡ (row_at t u).base = ap (λ (r : Row). r.base) row in
    record {
      live = ap (λ r. has r u) e ∙ each_has (kept_in rt []) t u ∙ c.source_live;
      base_live = ap (has rows) base ∙ ap (λ r. has r (row_at t u).base) e ∙ each_has (kept_in rt []) t (row_at t u).base ∙ s.base_has;
      row = row;
      base = ap (row_at rows) base ∙ row_left t rows rt (row_at t u).base e s.base_has (source_beside t v u (row_at t u).base c s.base_root);
    }

pub source_shown : (t rows : Rows) (v u : ℕ) → IsSource t rows v u → shown_at rows u ≡ shown_at t u
source_shown t rows v u s = ap₂ (λ (r b : Row). shown_through r.triple b.kept) s.row s.base

pub source_buffered : (t rows : Rows) (v u : ℕ) → CanCopy t v u → IsSource t rows v u → is_buffered (row_at rows (row_at rows u).base) ≡ true
source_buffered t rows v u c s = ap is_buffered s.base ∙ mark_buffered (row_at t (row_at t u).base) c.source_fresh

-- its base keeps as many elements as it has positions
base_count : (t : Rows) (v u : ℕ) → CanCopy t v u → length (row_at t (row_at t u).base).kept ≡ size_of (row_at t (row_at t u).base).triple.dims
base_count t v u c =
    let s : IsSeen t u = is_seen t c.order.still u c.source_live in
    let b : ℕ = (row_at t u).base in
    let m : IsMarked t b = (c.order.family (row_at t u).root (s.root_has, s.root_root)).marked b c.source_fresh s.base_root in
    ap length m.shows ∙ length-map (places_seen t b) (element_at (latest t (row_at t b).root)) ∙ (is_seen t c.order.still b s.base_has).count

pub source_reaches : PositionLaws → (t rows : Rows) (v u : ℕ) → CanCopy t v u → IsSource t rows v u → Reaches (row_at rows u).triple (length (row_at rows (row_at rows u).base).kept)
source_reaches laws t rows v u c s =
    let b : ℕ = (row_at t u).base in
    let P : ℕ → Type 0 = λ n. Below n (spots (row_at t u).triple) in
    let few : Reaches (row_at t u).triple (length (row_at t b).kept) = reaches_below laws (row_at t u).triple (length (row_at t b).kept) (subst P (sym (base_count t v u c)) (is_seen t c.order.still u c.source_live).fits) in
    let Q : Row → Type 0 = λ r. Reaches r.triple (length (row_at t b).kept) in
    let R : Row → Type 0 = λ r. Reaches (row_at rows u).triple (length r.kept) in
    subst R (sym s.base) (subst Q (sym s.row) few)

-- its type is that of the target's root
pub source_type : (t rows : Rows) (v u : ℕ) → CanCopy t v u → IsSource t rows v u → (row_at rows (row_at rows u).base).ty ≡ (row_at t (row_at t v).root).ty
source_type t rows v u c s =
    ap (λ (r : Row). r.ty) s.base ∙ (is_seen t c.order.still u c.source_live).base_ty ∙ c.same_type ∙ sym (is_seen t c.order.still v c.live).root_ty

-- ---- the rows

-- a root that kept nothing keeps these
kept_again : (rt k : ℕ) (es : List ℤ) (r : Row) → kept_in rt es k (kept_in rt [] k r) ≡ kept_in rt es k r
kept_again rt k es r = elim (eqb_tells k rt) [
  | inl y ↦ rw y.0 refl
  | inr n ↦ rw n.0 refl
]

-- the rows once a root keeps nothing
pub taken : (t : Rows) (keys : List (ℕ × ℕ)) (nodes : Slab Row) (rt key : ℕ) (r q : Row) → rows_of nodes keys ≡ t → IsTable keys nodes → value_at keys rt ≡ Some key → get nodes key ≡ Some r
    → q ≡ record r { kept = [] } → rows_of (with_value nodes key q) keys ≡ each (kept_in rt []) t
taken t keys nodes rt key r q e i h g made = changed_one (kept_in rt []) t keys nodes rt key r q e i h g (made ∙ kept_here rt [] r) (kept_others rt [])

-- its row then
pub kept_nothing : (keys : List (ℕ × ℕ)) (nodes : Slab Row) (rt key : ℕ) (q x : Row) → IsTable keys nodes → value_at keys rt ≡ Some key → get (with_value nodes key q) key ≡ Some x → x ≡ q
kept_nothing keys nodes rt key q x i h g =
    let c : get (with_value nodes key q) key ≡ Some q = (Updates-with_value nodes key q (i.full rt key h)).changed in
    let e : Some x ≡ Some q = sym g ∙ c in cc

-- and once it keeps other elements
pub record IsCopied (t : Rows) (keys : List (ℕ × ℕ)) (nodes : Slab Row) (m : Marked) (rt : ℕ) (es : List ℤ) : Type 0 where
  pub rows : rows_of nodes keys ≡ each (kept_in rt es) t
  pub table : IsTable keys nodes
  pub listed : AreListed (rows_of nodes keys) m

pub copied : (t : Rows) (keys : List (ℕ × ℕ)) (nodes : Slab Row) (m : Marked) (rt key : ℕ) (r q x y : Row) (es : List ℤ) → rows_of nodes keys ≡ t → IsTable keys nodes × AreListed (rows_of nodes keys) m
    → value_at keys rt ≡ Some key → get nodes key ≡ Some r → q ≡ record r { kept = [] } → get (with_value nodes key q) key ≡ Some x → y ≡ record x { kept = es }
    → IsCopied t keys (with_value (with_value nodes key q) key y) m rt es
copied t keys nodes m rt key r q x y es e i h g made g2 n =
    let mid : Slab Row = with_value nodes key q in
    let table : IsTable keys mid = table_one keys nodes rt key q i.0 h in
    let rows : rows_of (with_value mid key y) keys ≡ each (kept_in rt es) t =
    changed_one (kept_in rt es) (each (kept_in rt []) t) keys mid rt key x y (taken t keys nodes rt key r q e i.0 h g made) table h g2 (n ∙ kept_here rt es x) (kept_others rt es)
    ∙ each_each (kept_in rt es) (kept_in rt []) t ∙ each_alike (kept_again rt) t in
    let P : Rows → Type 0 = λ z. AreListed z m in
    record {
      rows = rows;
      table = table_one keys mid rt key y table h;
      listed = subst P (sym rows) (listed_each (kept_in rt es) t m (record { marks = λ v z w. w; roots = λ v z. refl }) (subst P e i.1));
    } where
      each_alike : ((k : ℕ) (ks : List ℤ) (z : Row) → kept_in rt ks k (kept_in rt [] k z) ≡ kept_in rt ks k z) → (rs : Rows) → each (λ k z. kept_in rt es k (kept_in rt [] k z)) rs ≡ each (kept_in rt es) rs
      each_alike same [] = refl
      each_alike same ((k, z) ∷ rs) = ap₂ (λ (a : Row) (xs : Rows). (k, a) ∷ xs) (same k es z) (each_alike same rs)

-- ---- what is copied

pub shown_count : (t : Rows) (v u : ℕ) → CanCopy t v u → length (shown_at t u) ≡ size_of (row_at t v).triple.dims
shown_count t v u c =
    length-map-range_with_len (λ p. get_or (row_at t (row_at t u).base).kept (place_at (row_at t u).triple p) (pos 0)) 0 (size_of (row_at t u).triple.dims)
    ∙ ap size_of c.same_dims

pub copy_writes : (t : Rows) (v u : ℕ) → CanCopy t v u → All (InRange (row_at t v).ty) (shown_at t u) → IsWrite t v 0 (shown_at t u)
copy_writes t v u c all = record {
  order = c.order;
  known = c.known;
  live = c.live;
  fresh = c.fresh;
  within = omega (arith, shown_count t v u c);
  in_range = all;
}

-- the rows once it was put
pub copy_is : (t new : Rows) (at : Shown) (u : ℕ) (es : List ℤ) → CanCopy t at.id u → at ≡ shown_of at.id (row_at t at.id) → at.base ≡ at.root
    → es ≡ write (placed_from at.triple 0 (size_of at.triple.dims)) (shown_at t u) (row_at t at.root).kept
    → new ≡ each (kept_in at.root es) t → new ≡ each (put_in Root t at.id 0 (shown_at t u)) t
copy_is t new at u es c h b made n =
    let v : ℕ = at.id in
    let vs : List ℤ = shown_at t u in
    let base : (row_at t v).base ≡ (row_at t v).root = ap (λ (x : Shown). x.base) (sym h) ∙ b ∙ ap (λ (x : Shown). x.root) h in
    let kept : es ≡ put_at Root t v 0 vs =
    made ∙ ap (λ (x : Shown). write (placed_from x.triple 0 (size_of x.triple.dims)) vs (row_at t x.root).kept) h
    ∙ put_is t v vs c.order c.live base (shown_count t v u c) in
    n ∙ ap (λ (ks : List ℤ). each (kept_in at.root ks) t) kept
    ∙ ap (λ (x : Shown). each (kept_in x.root (put_at Root t v 0 vs)) t) h
