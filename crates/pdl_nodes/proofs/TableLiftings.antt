-- What is known when the kept elements of a marked view are taken out, while its root is written.
use Rattle.std.proofs.Common.{◌≡◌, ℕ, ℤ, Bool, true, false, List, [], length, Option, Some, None, is_some, refl, sym, ◌∙◌, ap, subst}
use Rattle.slab.specs.Slab.{Slab, get, ContainsKey, with_value}
use Rattle.pdl_numbers.specs.Typed.{TypedElements}
use Rattle.pdl_registry.specs.Numbered.{value_at}
use Rattle.pdl_nodes.specs.Row.{Row, is_buffered, parent_of, places_or}
use Rattle.pdl_nodes.specs.Rows.{Rows, row_at, has, each}
use Rattle.pdl_nodes.specs.declared.marked.Marked.{Marked}
use Rattle.pdl_nodes.specs.Changes.{kept_in, lift_in, fill_in, or_known}
use Rattle.pdl_nodes.specs.Marked.{AreListed}
use Rattle.pdl_nodes.specs.Table.{rows_of, IsTable}
use Rattle.pdl_nodes.specs.Families.{InOrder, IsMarked, IsWaiting}
use Rattle.pdl_nodes.specs.Known.{AreKnown, IsKnown}
use Rattle.pdl_nodes.specs.Seen.{IsSeen}
use Rattle.pdl_nodes.specs.Worlds.{IsRoot, latest, places_seen}
use Rattle.pdl_shape.specs.Places.{element_at}
use Rattle.pdl_shape.specs.Shape.{size_of}
use Rattle.std.proofs.lemmas.List.{length-map}
use Rattle.pdl_nodes.proofs.TableCalls.{changed_one, node_is, table_falls}
use Rattle.pdl_nodes.proofs.RowFinds.{each_has, each_at}
use Rattle.pdl_nodes.proofs.MarkedListing.{table_one, listed_each}
use Rattle.pdl_nodes.proofs.ChangesLowered.{lowered}
use Rattle.pdl_nodes.proofs.ChangesMarks.{lift_here, lift_others, kept_here, kept_others, fill_here, fill_others}
use Rattle.pdl_nodes.proofs.RowOrigins.{root_buffered, view_parent}
use Rattle.pdl_nodes.proofs.RowsSeen.{is_seen}

-- b is a marked view over the root rt, its places are known, and both have as many elements as
-- their dimensions say
pub record IsLiftable (rs : Rows) (rt b : ℕ) : Type 0 where
  pub live : has rs b ≡ true
  pub view : is_some (parent_of (row_at rs b)) ≡ true
  pub found : is_some (row_at rs b).places ≡ true
  pub mark : (row_at rs b).mark ≡ true
  pub size : length (row_at rs b).kept ≡ size_of (row_at rs b).triple.dims
  pub count :
      (ps : List (Option ℕ)) → (row_at rs b).places ≡ Some ps
      → length ps ≡ size_of (row_at rs b).triple.dims
  pub places : (ps : List (Option ℕ)) → (row_at rs b).places ≡ Some ps → ps ≡ places_seen rs b
  pub same_type : (row_at rs b).ty ≡ (row_at rs rt).ty
  pub root_live : has rs rt ≡ true
  pub root_buffered : is_buffered (row_at rs rt) ≡ true
  pub root_size : length (row_at rs rt).kept ≡ size_of (row_at rs rt).triple.dims
  pub apart : rt ≡ b → ⊥

-- so is a view that waits
pub liftable : (rs : Rows) (rt b : ℕ) → InOrder rs → AreKnown rs → IsRoot rs rt → (row_at rs rt).waiting ≡ Some b → IsLiftable rs rt b
liftable rs rt b o k i e =
    let w : IsWaiting rs rt b = (o.family rt i).waits b e in
    let own : (row_at rs b).root ≡ b → ⊥ = λ y. w.not_root (sym y ∙ w.of_root) in
    let a : IsMarked rs b = (o.family rt i).marked b w.marked w.of_root in
    let s : IsSeen rs b = is_seen rs o.still b w.live in
    let x : IsKnown rs b = k b w.live in
    record {
      live = w.live;
      view = view_parent rs o.still b w.live own;
      found = x.found w.marked own;
      mark = w.marked;
      size = ap (λ (xs : List ℤ). length xs) a.shows ∙ length-map (places_seen rs b) (element_at (latest rs (row_at rs b).root)) ∙ s.count;
      count = λ ps e. ap (λ (xs : List (Option ℕ)). length xs) (x.places ps e) ∙ s.count;
      places = x.places;
      same_type = sym s.root_ty ∙ ap (λ v. (row_at rs v).ty) w.of_root;
      root_live = i.0;
      root_buffered = root_buffered rs o.still rt i.0 i.1;
      root_size = (o.family rt i).count;
      apart = λ y. w.not_root (sym y);
    }

-- the places that are known, where they are
pub known_or : (o : Option (List (Option ℕ))) (qs : List (Option ℕ)) → is_some o ≡ true → ((ps : List (Option ℕ)) → o ≡ Some ps → ps ≡ qs) → places_or o ≡ qs
known_or None qs h e = absurd (cc)
known_or (Some ps) qs h e = e ps refl

-- ---- while it is out of a table, and the root is written
rows_lifted : (t : Rows) (keys : List (ℕ × ℕ)) (nodes : Slab Row) (b key : ℕ) (r q : Row) → rows_of nodes keys ≡ t → IsTable keys nodes → value_at keys b ≡ Some key → get nodes key ≡ Some r
    → q ≡ record r { kept = []; mark = false; places = None } → rows_of (with_value nodes key q) keys ≡ each (lift_in b) t
rows_lifted t keys nodes b key r q e i h g c = changed_one (lift_in b) t keys nodes b key r q e i h g (c ∙ lift_here b r) (lift_others b)

-- the root is as it was
pub lifted_root : (t : Rows) (keys : List (ℕ × ℕ)) (nodes : Slab Row) (rt b key at : ℕ) (r q s : Row) → rows_of nodes keys ≡ t → IsTable keys nodes → IsLiftable t rt b → value_at keys b ≡ Some key
    → get nodes key ≡ Some r → q ≡ record r { kept = []; mark = false; places = None } → value_at keys rt ≡ Some at → get (with_value nodes key q) at ≡ Some s → s ≡ row_at t rt
lifted_root t keys nodes rt b key at r q s e i l h g c k d =
    node_is (each (lift_in b) t) keys (with_value nodes key q) rt at s (rows_lifted t keys nodes b key r q e i h g c) (table_one keys nodes b key q i h) k d
    ∙ each_at (lift_in b) t rt l.root_live ∙ lift_others b rt (row_at t rt) l.apart

-- another row after the root was written
pub record IsWritten (t : Rows) (keys : List (ℕ × ℕ)) (nodes : Slab Row) (rt b key at : ℕ) (q p : Row) (es : List ℤ) : Type 0 where
  pub table : IsTable keys (with_value (with_value nodes key q) at p)
  pub rows : rows_of (with_value (with_value nodes key q) at p) keys ≡ each (kept_in rt es) (each (lift_in b) t)
  pub there : ContainsKey (with_value (with_value nodes key q) at p) key

pub root_written : (t : Rows) (keys : List (ℕ × ℕ)) (nodes : Slab Row) (rt b key at : ℕ) (r q s p : Row) (es : List ℤ) → rows_of nodes keys ≡ t → IsTable keys nodes → value_at keys b ≡ Some key
    → get nodes key ≡ Some r → q ≡ record r { kept = []; mark = false; places = None } → value_at keys rt ≡ Some at → get (with_value nodes key q) at ≡ Some s → p ≡ record s { kept = es }
    → IsWritten t keys nodes rt b key at q p es
root_written t keys nodes rt b key at r q s p es e i h g c k d f =
    let i1 : IsTable keys (with_value nodes key q) = table_one keys nodes b key q i h in
    let i2 : IsTable keys (with_value (with_value nodes key q) at p) = table_one keys (with_value nodes key q) rt at p i1 k in
    record {
      table = i2;
      rows = changed_one (kept_in rt es) (each (lift_in b) t) keys (with_value nodes key q) rt at s p (rows_lifted t keys nodes b key r q e i h g c) i1 k d (f ∙ kept_here rt es s) (kept_others rt es);
      there = i2.full b key h;
    }

-- the type of what comes back
pub back_type : (t : Rows) (keys : List (ℕ × ℕ)) (nodes : Slab Row) (rt b key at : ℕ) (q p u : Row) (es : List ℤ) → IsLiftable t rt b → value_at keys b ≡ Some key → IsWritten t keys nodes rt b key at q p es
    → get (with_value (with_value nodes key q) at p) key ≡ Some u → u.ty ≡ (row_at t b).ty
back_type t keys nodes rt b key at q p u es l h w g =
    ap (λ (r : Row). r.ty) (node_is (each (kept_in rt es) (each (lift_in b) t)) keys (with_value (with_value nodes key q) at p) b key u w.rows w.table h g
    ∙ each_at (kept_in rt es) (each (lift_in b) t) b (each_has (lift_in b) t b ∙ l.live))
    ∙ ap (λ (r : Row). r.ty) (each_at (lift_in b) t b l.live)

-- what was taken out was put back
pub record IsPutBack (t : Rows) (keys : List (ℕ × ℕ)) (nodes : Slab Row) (m : Marked) (rt : ℕ) (es : List ℤ) : Type 0 where
  pub rows : rows_of nodes keys ≡ each (kept_in rt es) t
  pub table : IsTable keys nodes
  pub listed : AreListed (rows_of nodes keys) m

pub put_back : (t : Rows) (keys : List (ℕ × ℕ)) (nodes : Slab Row) (m : Marked) (rt b key at : ℕ) (r q p u v : Row) (es : List ℤ) (kept : TypedElements) (f : Bool) (ps : List (Option ℕ))
    → rows_of nodes keys ≡ t → IsTable keys nodes × AreListed (rows_of nodes keys) m → IsLiftable t rt b → value_at keys b ≡ Some key → get nodes key ≡ Some r
    → kept ≡ record { ty = r.ty; elems = r.kept } → f ≡ r.repeats → r.places ≡ Some ps → IsWritten t keys nodes rt b key at q p es
    → get (with_value (with_value nodes key q) at p) key ≡ Some u → v ≡ record u { kept = kept.elems; mark = true; repeats = f; places = or_known (Some ps) u.places }
    → IsPutBack t keys (with_value (with_value (with_value nodes key q) at p) key v) m rt es
put_back t keys nodes m rt b key at r q p u v es kept f ps e i l h g ek ef ep w d c =
    let same : r ≡ row_at t b = node_is t keys nodes b key r e i.0 h g in
    let out : Slab Row = with_value (with_value nodes key q) at p in
    let rows : rows_of (with_value out key v) keys ≡ each (kept_in rt es) t =
    changed_one (fill_in b kept.elems f (Some ps)) (each (kept_in rt es) (each (lift_in b) t)) keys out b key u v w.rows w.table h d (c ∙ fill_here b kept.elems f (Some ps) u) (fill_others b kept.elems f (Some ps))
    ∙ lowered t rt b es kept.elems f ps (table_falls t keys nodes e i.0) (record {
      kept = ap (λ (x : Row). x.kept) (sym same) ∙ ap (λ (x : TypedElements). x.elems) (sym ek);
      mark = l.mark;
      repeats = ap (λ (x : Row). x.repeats) (sym same) ∙ sym ef;
      places = ap (λ (x : Row). x.places) (sym same) ∙ ep;
    }) l.apart in
    let P : Rows → Type 0 = λ x. AreListed x m in
    record {
      rows = rows;
      table = table_one keys out b key v w.table h;
      listed = subst P (sym rows) (listed_each (kept_in rt es) t m (record { marks = λ v r h. h; roots = λ v r. refl }) (subst P e i.1));
    }
