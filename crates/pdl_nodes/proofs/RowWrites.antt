-- Values are put into the root or the base of an array, while the places of its base are out of the table.
use Rattle.std.proofs.Common.{◌≡◌, ℕ, ℤ, true, eqb, cond, List, [], ◌∷◌, drop, map, Option, Some, None, inl, inr, refl, sym, ◌∙◌, ap, subst}
use Rattle.std.proofs.lemmas.Bool.{eq-eqb, ne_eqb}
use Rattle.std.proofs.lemmas.Bool.Decides.{eqb_tells}
use Rattle.slab.specs.Slab.{Slab, get, ContainsKey, with_value}
use Rattle.pdl_shape.specs.Places.{write}
use Rattle.pdl_nodes.specs.Assigned.{entry, seen_at}
use Rattle.pdl_nodes.specs.Changes.{kept_in}
use Rattle.pdl_nodes.specs.Marked.{AreListed}
use Rattle.pdl_registry.specs.Numbered.{value_at}
use Rattle.pdl_nodes.specs.Placed.{goes_by, placed}
use Rattle.pdl_nodes.specs.Put.{IsWrite, goal_at, places_at, put_at}
use Rattle.pdl_nodes.specs.Row.{Row, goal_of, is_buffered, shown_of}
use Rattle.pdl_nodes.specs.Rows.{Rows, row_at, has, each, Falls}
use Rattle.pdl_nodes.specs.Seen.{IsSeen}
use Rattle.pdl_nodes.specs.Spots.{spots}
use Rattle.pdl_nodes.specs.Table.{rows_of, IsTable}
use Rattle.pdl_nodes.specs.Worlds.{places_seen}
use Rattle.pdl_nodes.specs.declared.marked.Marked.{Marked}
use Rattle.pdl_nodes.specs.declared.node.Goal.{Goal}
use Rattle.pdl_nodes.specs.declared.node.Goal.TheVariants.{Root, Base}
use Rattle.pdl_nodes.specs.declared.node.Shown.{Shown}
use Rattle.pdl_nodes.proofs.TableCalls.{changed_one, node_is, table_falls}
use Rattle.pdl_nodes.proofs.RowFinds.{each_at}
use Rattle.pdl_nodes.proofs.TableLiftings.{IsPutBack}
use Rattle.pdl_nodes.proofs.MarkedListing.{table_one, listed_each}
use Rattle.pdl_nodes.proofs.ChangesMarks.{each_each, each_live, kept_here, kept_others}
use Rattle.pdl_nodes.proofs.RowOrigins.{root_buffered}
use Rattle.pdl_nodes.proofs.WorldsOverBases.{over_known}
use Rattle.pdl_nodes.proofs.RowsSeen.{is_seen}
use Rattle.pdl_nodes.proofs.RowShapes.{mark_buffered}

-- ---- where values go
seen_same : (f g : ℕ → Option ℕ) (is : List ℕ) → map f is ≡ map g is → map (λ q. seen_at (f q) q) is ≡ map (λ q. seen_at (g q) q) is
seen_same f g [] e = refl
seen_same f g (i ∷ is) e =
    let head : f i ≡ g i = cc in
    let tail : map f is ≡ map g is = cc in
    let first : seen_at (f i) i ≡ seen_at (g i) i = ap (λ o. seen_at o i) head in
    let rest : map (λ q. seen_at (f q) q) is ≡ map (λ q. seen_at (g q) q) is = seen_same f g is tail in
    cc

-- the array that values go into, and their places there
record IsAimed (g : Goal) (rs : Rows) (v : ℕ) : Type 0 where
  pub live : has rs (goal_at g rs v) ≡ true
  pub buffered : is_buffered (row_at rs (goal_at g rs v)) ≡ true
  pub ty_is : (row_at rs v).ty ≡ (row_at rs (goal_at g rs v)).ty
  pub places : goes_by g (row_at rs (row_at rs v).base).places (row_at rs v).triple ≡ places_at g rs v

aimed : (g : Goal) (rs : Rows) (v first : ℕ) (vs : List ℤ) → IsWrite rs v first vs → IsAimed g rs v
aimed Root rs v first vs w =
    let s : IsSeen rs v = is_seen rs w.order.still v w.live in
    record {
      live = s.root_has;
      buffered = root_buffered rs w.order.still (row_at rs v).root s.root_has s.root_root;
      ty_is = sym s.root_ty;
      places = over_known rs v w.order w.known w.live w.fresh;
    }
aimed Base rs v first vs w =
    let s : IsSeen rs v = is_seen rs w.order.still v w.live in
    record {
      live = s.base_has;
      buffered = mark_buffered (row_at rs (row_at rs v).base) w.fresh;
      ty_is = sym s.base_ty;
      places = seen_same (placed (row_at rs (row_at rs v).base).places) (entry (places_seen rs (row_at rs v).base)) (spots (row_at rs v).triple) (over_known rs v w.order w.known w.live w.fresh ∙ s.over);
    }

-- what is so of the array that values go into, where it is found by what is shown of v
pub into_live : (g : Goal) (t : Rows) (at : Shown) (first : ℕ) (vs : List ℤ) → IsWrite t at.id first vs → at ≡ shown_of at.id (row_at t at.id) → has t (goal_of g at) ≡ true
into_live g t at first vs w h = ap (λ (s : Shown). has t (goal_of g s)) h ∙ (aimed g t at.id first vs w).live

pub into_buffered : (g : Goal) (t : Rows) (at : Shown) (first : ℕ) (vs : List ℤ) → IsWrite t at.id first vs → at ≡ shown_of at.id (row_at t at.id) → is_buffered (row_at t (goal_of g at)) ≡ true
into_buffered g t at first vs w h = ap (λ (s : Shown). is_buffered (row_at t (goal_of g s))) h ∙ (aimed g t at.id first vs w).buffered

pub into_ty : (g : Goal) (t : Rows) (at : Shown) (first : ℕ) (vs : List ℤ) → IsWrite t at.id first vs → at ≡ shown_of at.id (row_at t at.id) → (row_at t at.id).ty ≡ (row_at t (goal_of g at)).ty
into_ty g t at first vs w h = (aimed g t at.id first vs w).ty_is ∙ ap (λ (s : Shown). (row_at t (goal_of g s)).ty) (sym h)

pub base_live : (t : Rows) (at : Shown) (first : ℕ) (vs : List ℤ) → IsWrite t at.id first vs → at ≡ shown_of at.id (row_at t at.id) → has t at.base ≡ true
base_live t at first vs w h = ap (λ (s : Shown). has t s.base) h ∙ (is_seen t w.order.still at.id w.live).base_has

-- its elements then
pub put_is : (g : Goal) (t : Rows) (at : Shown) (first : ℕ) (vs : List ℤ) (known : Option (List (Option ℕ))) (ks : List ℤ) → IsWrite t at.id first vs → at ≡ shown_of at.id (row_at t at.id)
    → known ≡ (row_at t at.base).places → ks ≡ (row_at t (goal_of g at)).kept → write (drop first (goes_by g known at.triple)) vs ks ≡ put_at g t at.id first vs
put_is g t at first vs known ks w h k l =
    ap (λ (o : Option (List (Option ℕ))). write (drop first (goes_by g o at.triple)) vs ks) (k ∙ ap (λ (s : Shown). (row_at t s.base).places) h)
    ∙ ap (λ (s : Shown). write (drop first (goes_by g (row_at t (row_at t at.id).base).places s.triple)) vs ks) h
    ∙ ap (λ (ps : List (Option ℕ)). write (drop first ps) vs ks) (aimed g t at.id first vs w).places
    ∙ ap (write (drop first (places_at g t at.id)) vs) (l ∙ ap (λ (s : Shown). (row_at t (goal_of g s)).kept) h)

-- ---- the places of a base are taken out, and put back once values were put
abbrev pub places_in : ℕ → Option (List (Option ℕ)) → ℕ → Row → Row
places_in b o k r = record r { places = cond (eqb k b) o r.places }

places_here : (b : ℕ) (o : Option (List (Option ℕ))) (r : Row) → record r { places = o } ≡ places_in b o b r
places_here b o r = rw (eq-eqb b b refl) refl

places_others : (b : ℕ) (o : Option (List (Option ℕ))) (v : ℕ) (r : Row) → (v ≡ b → ⊥) → places_in b o v r ≡ r
places_others b o v r n = rw (ne_eqb v b n) refl

back_row : (rs : Rows) (i b k : ℕ) (es : List ℤ) (o : Option (List (Option ℕ))) → (row_at rs b).places ≡ o → places_in b o k (kept_in i es k (places_in b None k (row_at rs k))) ≡ kept_in i es k (row_at rs k)
back_row rs i b k es o e = elim (eqb_tells k b) [
  | inl y ↦ rw y.0 (ap (λ (ps : Option (List (Option ℕ))). record (row_at rs k) { kept = cond (eqb k i) es (row_at rs k).kept; places = ps }) (sym (ap (λ x. (row_at rs x).places) y.1 ∙ e)))
  | inr n ↦ rw n.0 refl
]

rows_back : (rs : Rows) (i b : ℕ) (es : List ℤ) (o : Option (List (Option ℕ))) → Falls rs → (row_at rs b).places ≡ o → each (places_in b o) (each (kept_in i es) (each (places_in b None) rs)) ≡ each (kept_in i es) rs
rows_back rs i b es o f e =
    ap (each (places_in b o)) (each_each (kept_in i es) (places_in b None) rs)
    ∙ each_each (places_in b o) (λ k r. kept_in i es k (places_in b None k r)) rs
    ∙ each_live (λ k r. places_in b o k (kept_in i es k (places_in b None k r))) (kept_in i es) rs f (λ k l. back_row rs i b k es o e)

rows_out : (t : Rows) (keys : List (ℕ × ℕ)) (nodes : Slab Row) (b key : ℕ) (r q : Row) → rows_of nodes keys ≡ t → IsTable keys nodes → value_at keys b ≡ Some key → get nodes key ≡ Some r
    → q ≡ record r { places = None } → rows_of (with_value nodes key q) keys ≡ each (places_in b None) t
rows_out t keys nodes b key r q e i h g c = changed_one (places_in b None) t keys nodes b key r q e i h g (c ∙ places_here b None r) (places_others b None)

-- the row that values go into, while the places are out
pub into_row : (t : Rows) (keys : List (ℕ × ℕ)) (nodes : Slab Row) (i b key at : ℕ) (r q s : Row) → rows_of nodes keys ≡ t → IsTable keys nodes → has t i ≡ true → value_at keys b ≡ Some key → get nodes key ≡ Some r
    → q ≡ record r { places = None } → value_at keys i ≡ Some at → get (with_value nodes key q) at ≡ Some s → s ≡ places_in b None i (row_at t i)
into_row t keys nodes i b key at r q s e d l h g c k f =
    node_is (each (places_in b None) t) keys (with_value nodes key q) i at s (rows_out t keys nodes b key r q e d h g c) (table_one keys nodes b key q d h) k f
    ∙ each_at (places_in b None) t i l

-- once values were put
pub record IsWritten (t : Rows) (keys : List (ℕ × ℕ)) (nodes : Slab Row) (i b key at : ℕ) (q p : Row) (es : List ℤ) : Type 0 where
  pub table : IsTable keys (with_value (with_value nodes key q) at p)
  pub rows : rows_of (with_value (with_value nodes key q) at p) keys ≡ each (kept_in i es) (each (places_in b None) t)
  pub there : ContainsKey (with_value (with_value nodes key q) at p) key

pub into_written : (t : Rows) (keys : List (ℕ × ℕ)) (nodes : Slab Row) (i b key at : ℕ) (r q s p : Row) (es : List ℤ) → rows_of nodes keys ≡ t → IsTable keys nodes → value_at keys b ≡ Some key → get nodes key ≡ Some r
    → q ≡ record r { places = None } → value_at keys i ≡ Some at → get (with_value nodes key q) at ≡ Some s → p ≡ record s { kept = es } → IsWritten t keys nodes i b key at q p es
into_written t keys nodes i b key at r q s p es e d h g c k f n =
    let i1 : IsTable keys (with_value nodes key q) = table_one keys nodes b key q d h in
    let i2 : IsTable keys (with_value (with_value nodes key q) at p) = table_one keys (with_value nodes key q) i at p i1 k in
    record {
      table = i2;
      rows = changed_one (kept_in i es) (each (places_in b None) t) keys (with_value nodes key q) i at s p (rows_out t keys nodes b key r q e d h g c) i1 k f (n ∙ kept_here i es s) (kept_others i es);
      there = i2.full b key h;
    }

-- and the places were put back
pub places_back : (t : Rows) (keys : List (ℕ × ℕ)) (nodes : Slab Row) (m : Marked) (i b key at : ℕ) (q p u v : Row) (es : List ℤ) (o : Option (List (Option ℕ))) → rows_of nodes keys ≡ t → IsTable keys nodes × AreListed (rows_of nodes keys) m
    → value_at keys b ≡ Some key → (row_at t b).places ≡ o → IsWritten t keys nodes i b key at q p es → get (with_value (with_value nodes key q) at p) key ≡ Some u → v ≡ record u { places = o }
    → IsPutBack t keys (with_value (with_value (with_value nodes key q) at p) key v) m i es
places_back t keys nodes m i b key at q p u v es o e d h l w g c =
    let out : Slab Row = with_value (with_value nodes key q) at p in
    let rows : rows_of (with_value out key v) keys ≡ each (kept_in i es) t =
    changed_one (places_in b o) (each (kept_in i es) (each (places_in b None) t)) keys out b key u v w.rows w.table h g (c ∙ places_here b o u) (places_others b o)
    ∙ rows_back t i b es o (table_falls t keys nodes e d.0) l in
    let P : Rows → Type 0 = λ x. AreListed x m in
    record {
      rows = rows;
      table = table_one keys out b key v w.table h;
      listed = subst P (sym rows) (listed_each (kept_in i es) t m (record { marks = λ v r h. h; roots = λ v r. refl }) (subst P e d.1));
    }
