-- The root's elements are taken out, those of the source are copied over them, and they are kept
-- again.
use Rattle.std.proofs.Common.{◌≡◌, ℕ, ℤ, List, [], length, All, refl, sym, ◌∙◌, ap, ap₂, subst}
use Rattle.slab.specs.Slab.{Slab, with_value}
use Rattle.pdl_elem.specs.Types.{InRange}
use Rattle.pdl_elem.specs.declared.Ty.{Ty}
use Rattle.pdl_shape.specs.Places.{write}
use Rattle.pdl_shape.specs.Shape.{size_of}
use Rattle.pdl_shape.specs.Triple.{Reaches}
use Rattle.pdl_numbers.specs.Typed.{TypedElements}
use Rattle.pdl_numbers.specs.Writes.{placed_from}
use Rattle.pdl_nodes.specs.Changes.{kept_in}
use Rattle.pdl_nodes.specs.Copies.{shown_at}
use Rattle.pdl_nodes.specs.Row.{Row, is_buffered}
use Rattle.pdl_nodes.specs.Rows.{Rows, each, row_at}
use Rattle.pdl_nodes.specs.Table.{rows_of}
use Rattle.pdl_nodes.specs.declared.node.Shown.{Shown}
use Rattle.pdl_nodes.proofs.ChildrenCounted.{counted_each}
use Rattle.pdl_nodes.proofs.CopyLemmas.{IsSource, copied, copy_is, copy_writes, kept_nothing, source_buffered, source_left, source_reaches, source_shown, source_type, taken}
use Rattle.pdl_nodes.proofs.MarkedListing.{table_one}
use Rattle.pdl_nodes.proofs.RowOrigins.{root_buffered}
use Rattle.pdl_nodes.proofs.RowsSeen.{is_seen}
use Rattle.pdl_nodes.proofs.TableCalls.{has_key, node_is}
use Rattle.pdl_nodes.proofs.UpdateLemmas.{root_at, root_reaches}
use Rattle.pdl_nodes.proofs.table.Table.copy.Goals as goal

pub index-key-requires : goal.index-key-requires
index-key-requires g c = has_key c.args.self.now c.self.inside.keys c.self.inside.nodes c.args.at.now.root c.self.view_is c.self.invariant.0.0 (root_at c.args.self.now c.args.at.now c.requires.copy.order c.requires.copy.live c.requires.shown).0

pub take_kept-elements-requires : goal.take_kept-elements-requires
take_kept-elements-requires g c =
    let i = root_at c.args.self.now c.args.at.now c.requires.copy.order c.requires.copy.live c.requires.shown in
    record { buffered = ap is_buffered (node_is c.args.self.now c.self.inside.keys c.self.inside.nodes c.args.at.now.root c.index-key.result.now c.index_mut.result.now c.self.view_is c.self.invariant.0.0 c.index-key.ensures c.index_mut.ensures.value) ∙ root_buffered c.args.self.now c.requires.copy.order.still c.args.at.now.root i.0 i.1 }

pub copy_into-requires : goal.copy_into-requires
copy_into-requires g c =
    let t : Rows = c.args.self.now in
    let keys : List (ℕ × ℕ) = c.self.inside.keys in
    let nodes : Slab Row = c.self.inside.nodes in
    let at : Shown = c.args.at.now in
    let key : ℕ = c.index-key.result.now in
    let q : Row = c.take_kept-elements.new.self in
    let rows : Rows = rows_of (with_value nodes key q) keys in
    let row : c.index_mut.result.now ≡ row_at t at.root = node_is t keys nodes at.root key c.index_mut.result.now c.self.view_is c.self.invariant.0.0 c.index-key.ensures c.index_mut.ensures.value in
    let root : at.root ≡ (row_at t at.id).root = ap (λ (x : Shown). x.root) c.requires.shown in
    let s : IsSource t rows at.id c.args.source = source_left t rows at.id c.args.source c.requires.copy
    (taken t keys nodes at.root key c.index_mut.result.now q c.self.view_is c.self.invariant.0.0 c.index-key.ensures c.index_mut.ensures.value c.take_kept-elements.ensures.left ∙ ap (λ x. each (kept_in x []) t) root) in
    let type_is : c.take_kept-elements.result.ty ≡ (row_at t at.root).ty = ap (λ (k : TypedElements). k.ty) c.take_kept-elements.ensures.kept ∙ ap (λ (r : Row). r.ty) row in
    let elems : c.take_kept-elements.result.elems ≡ (row_at t at.root).kept = ap (λ (k : TypedElements). k.elems) c.take_kept-elements.ensures.kept ∙ ap (λ (r : Row). r.kept) row in
    record {
      table = table_one keys nodes at.root key q c.self.invariant.0.0 c.index-key.ensures;
      live = s.live;
      base_live = s.base_live;
      buffered = source_buffered t rows at.id c.args.source c.requires.copy s;
      source_reaches = source_reaches c.shape_laws.ensures.positions t rows at.id c.args.source c.requires.copy s;
      same_type = source_type t rows at.id c.args.source c.requires.copy s ∙ ap (λ x. (row_at t x).ty) (sym root) ∙ sym type_is;
      same_dims = ap (λ (r : Row). r.triple.dims) s.row ∙ c.requires.copy.same_dims ∙ ap (λ (x : Shown). x.triple.dims) (sym c.requires.shown);
      reaches = subst (λ (es : List ℤ). Reaches at.triple (length es)) (sym elems) (root_reaches c.shape_laws.ensures.positions t at c.requires.copy.order c.requires.copy.live c.requires.shown c.requires.over_root);
    }

pub keep-requires : goal.keep-requires
keep-requires g c =
    let q : Row = c.take_kept-elements.new.self in
    let same : c.index_mut-2.result.now ≡ q = kept_nothing c.self.inside.keys c.self.inside.nodes c.args.at.now.root c.index-key.result.now q c.index_mut-2.result.now c.self.invariant.0.0 c.index-key.ensures c.index_mut-2.ensures.value in
    ap (λ (k : TypedElements). k.ty) (c.copy_into.ensures.value) ∙ ap (λ (k : TypedElements). k.ty) c.take_kept-elements.ensures.kept
    ∙ sym (ap (λ (r : Row). r.ty) same ∙ ap (λ (r : Row). r.ty) c.take_kept-elements.ensures.left)

pub returns-clause-write : goal.returns-clause-write
returns-clause-write g c =
    let t : Rows = c.args.self.now in
    let keys : List (ℕ × ℕ) = c.self.inside.keys in
    let nodes : Slab Row = c.self.inside.nodes in
    let at : Shown = c.args.at.now in
    let key : ℕ = c.index-key.result.now in
    let q : Row = c.take_kept-elements.new.self in
    let rows : Rows = rows_of (with_value nodes key q) keys in
    let row : c.index_mut.result.now ≡ row_at t at.root = node_is t keys nodes at.root key c.index_mut.result.now c.self.view_is c.self.invariant.0.0 c.index-key.ensures c.index_mut.ensures.value in
    let root : at.root ≡ (row_at t at.id).root = ap (λ (x : Shown). x.root) c.requires.shown in
    let s : IsSource t rows at.id c.args.source = source_left t rows at.id c.args.source c.requires.copy
    (taken t keys nodes at.root key c.index_mut.result.now q c.self.view_is c.self.invariant.0.0 c.index-key.ensures c.index_mut.ensures.value c.take_kept-elements.ensures.left ∙ ap (λ x. each (kept_in x []) t) root) in
    let type_is : c.take_kept-elements.result.ty ≡ (row_at t at.id).ty =
    ap (λ (k : TypedElements). k.ty) c.take_kept-elements.ensures.kept ∙ ap (λ (r : Row). r.ty) row ∙ ap (λ x. (row_at t x).ty) root ∙ (is_seen t c.requires.copy.order.still at.id c.requires.copy.live).root_ty in
    copy_writes t at.id c.args.source c.requires.copy
    (subst (λ (y : Ty). All (InRange y) (shown_at t c.args.source)) type_is
    (subst (All (InRange c.take_kept-elements.result.ty)) (source_shown t rows at.id c.args.source s) c.copy_into.ensures.in_range))

pub returns-clause-put : goal.returns-clause-put
returns-clause-put g c =
    let t : Rows = c.args.self.now in
    let keys : List (ℕ × ℕ) = c.self.inside.keys in
    let nodes : Slab Row = c.self.inside.nodes in
    let at : Shown = c.args.at.now in
    let key : ℕ = c.index-key.result.now in
    let q : Row = c.take_kept-elements.new.self in
    let es : List ℤ = c.copy_into.new.into.elems in
    let rows : Rows = rows_of (with_value nodes key q) keys in
    let row : c.index_mut.result.now ≡ row_at t at.root = node_is t keys nodes at.root key c.index_mut.result.now c.self.view_is c.self.invariant.0.0 c.index-key.ensures c.index_mut.ensures.value in
    let root : at.root ≡ (row_at t at.id).root = ap (λ (x : Shown). x.root) c.requires.shown in
    let s : IsSource t rows at.id c.args.source = source_left t rows at.id c.args.source c.requires.copy
    (taken t keys nodes at.root key c.index_mut.result.now q c.self.view_is c.self.invariant.0.0 c.index-key.ensures c.index_mut.ensures.value c.take_kept-elements.ensures.left ∙ ap (λ x. each (kept_in x []) t) root) in
    let elems : c.take_kept-elements.result.elems ≡ (row_at t at.root).kept = ap (λ (k : TypedElements). k.elems) c.take_kept-elements.ensures.kept ∙ ap (λ (r : Row). r.kept) row in
    let made : es ≡ write (placed_from at.triple 0 (size_of at.triple.dims)) (shown_at t c.args.source) (row_at t at.root).kept =
    ap (λ (k : TypedElements). k.elems) c.copy_into.ensures.value
    ∙ ap₂ (λ (vs ks : List ℤ). write (placed_from at.triple 0 (size_of at.triple.dims)) vs ks) (source_shown t rows at.id c.args.source s) elems in
    copy_is t _ at c.args.source es c.requires.copy c.requires.shown c.requires.over_root made
    (copied t keys nodes c.self.inside.marked at.root key c.index_mut.result.now q c.index_mut-2.result.now c.keep.new.self es c.self.view_is c.self.invariant.0 c.index-key.ensures c.index_mut.ensures.value c.take_kept-elements.ensures.left c.index_mut-2.ensures.value c.keep.ensures).rows

pub invariant_of-self : goal.invariant_of-self
invariant_of-self g c =
    let rt : ℕ = c.args.at.now.root in
    let es : List ℤ = c.copy_into.new.into.elems in
    let b = copied c.args.self.now c.self.inside.keys c.self.inside.nodes c.self.inside.marked rt c.index-key.result.now c.index_mut.result.now c.take_kept-elements.new.self c.index_mut-2.result.now c.keep.new.self es c.self.view_is c.self.invariant.0 c.index-key.ensures c.index_mut.ensures.value c.take_kept-elements.ensures.left c.index_mut-2.ensures.value c.keep.ensures in
    ((b.table, b.listed), counted_each (kept_in rt es) c.args.self.now (rows_of c.self.inside.nodes c.self.inside.keys) _ c.self.inside.children c.self.view_is b.rows (λ k r. refl) c.self.invariant.1)
