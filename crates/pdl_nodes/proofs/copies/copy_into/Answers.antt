-- The window shows the elements of the array.
use Rattle.std.proofs.Common.{◌≡◌, ℤ, List, length, All, refl, sym, ◌∙◌, ap, ap₂, subst}
use Rattle.pdl_elem.specs.Types.{InRange}
use Rattle.pdl_elem.specs.declared.Ty.{Ty}
use Rattle.pdl_shape.specs.Places.{write}
use Rattle.pdl_shape.specs.Shape.{size_of}
use Rattle.pdl_shape.specs.Triple.{Reaches, Triple}
use Rattle.pdl_numbers.specs.Shown.{shown_through}
use Rattle.pdl_numbers.specs.Typed.{TypedElements}
use Rattle.pdl_numbers.specs.Writes.{placed_from}
use Rattle.pdl_buf.specs.Window.{Window}
use Rattle.pdl_nodes.specs.Copies.{shown_at}
use Rattle.pdl_nodes.specs.Row.{Row, is_buffered}
use Rattle.pdl_nodes.specs.Rows.{Rows, has, row_at}
use Rattle.pdl_nodes.specs.Table.{rows_of}
use Rattle.pdl_nodes.proofs.TableCalls.{has_key, node_is}
use Rattle.pdl_nodes.proofs.copies.copy_into.Goals as goal

pub index-requires : goal.index-requires
index-requires g c = has_key (rows_of c.args.nodes.now c.args.keys.now) c.args.keys.now c.args.nodes.now c.args.source refl c.requires.table c.requires.live

pub index-requires-2 : goal.index-requires-2
index-requires-2 g c =
    let t : Rows = rows_of c.args.nodes.now c.args.keys.now in
    let node : c.index-node.result.now ≡ row_at t c.args.source = node_is t c.args.keys.now c.args.nodes.now c.args.source c.index.result.now c.index-node.result.now refl c.requires.table c.index.ensures c.index-node.ensures in
    has_key t c.args.keys.now c.args.nodes.now c.base.result refl c.requires.table (ap (has t) (c.base.ensures ∙ ap (λ (r : Row). r.base) node) ∙ c.requires.base_live)

pub kept-requires : goal.kept-requires
kept-requires g c =
    let t : Rows = rows_of c.args.nodes.now c.args.keys.now in
    let node : c.index-node.result.now ≡ row_at t c.args.source = node_is t c.args.keys.now c.args.nodes.now c.args.source c.index.result.now c.index-node.result.now refl c.requires.table c.index.ensures c.index-node.ensures in
    let base : c.index-base.result.now ≡ row_at t (row_at t c.args.source).base =
    node_is t c.args.keys.now c.args.nodes.now c.base.result c.index-2.result.now c.index-base.result.now refl c.requires.table c.index-2.ensures c.index-base.ensures ∙ ap (row_at t) (c.base.ensures ∙ ap (λ (r : Row). r.base) node) in
    ap is_buffered base ∙ c.requires.buffered

pub strided-from-requires : goal.strided-from-requires
strided-from-requires g c =
    let t : Rows = rows_of c.args.nodes.now c.args.keys.now in
    let node : c.index-node.result.now ≡ row_at t c.args.source = node_is t c.args.keys.now c.args.nodes.now c.args.source c.index.result.now c.index-node.result.now refl c.requires.table c.index.ensures c.index-node.ensures in
    let base : c.index-base.result.now ≡ row_at t (row_at t c.args.source).base =
    node_is t c.args.keys.now c.args.nodes.now c.base.result c.index-2.result.now c.index-base.result.now refl c.requires.table c.index-2.ensures c.index-base.ensures ∙ ap (row_at t) (c.base.ensures ∙ ap (λ (r : Row). r.base) node) in
    let kept : c.kept.result.now.elems ≡ (row_at t (row_at t c.args.source).base).kept = ap (λ (k : TypedElements). k.elems) c.kept.ensures ∙ ap (λ (r : Row). r.kept) base in
    subst (λ (u : Triple). Reaches u (length c.kept.result.now.elems)) (sym (c.triple.ensures ∙ ap (λ (r : Row). r.triple) node))
    (subst (λ (es : List ℤ). Reaches (row_at t c.args.source).triple (length es)) (sym kept) c.requires.source_reaches)

pub copy_shown-requires-clause-same_type : goal.copy_shown-requires-clause-same_type
copy_shown-requires-clause-same_type g c =
    let t : Rows = rows_of c.args.nodes.now c.args.keys.now in
    let node : c.index-node.result.now ≡ row_at t c.args.source = node_is t c.args.keys.now c.args.nodes.now c.args.source c.index.result.now c.index-node.result.now refl c.requires.table c.index.ensures c.index-node.ensures in
    let base : c.index-base.result.now ≡ row_at t (row_at t c.args.source).base =
    node_is t c.args.keys.now c.args.nodes.now c.base.result c.index-2.result.now c.index-base.result.now refl c.requires.table c.index-2.ensures c.index-base.ensures ∙ ap (row_at t) (c.base.ensures ∙ ap (λ (r : Row). r.base) node) in
    ap (λ (w : Window). w.ty) c.strided-from.ensures.window ∙ ap (λ (k : TypedElements). k.ty) c.kept.ensures ∙ ap (λ (r : Row). r.ty) base ∙ c.requires.same_type

pub copy_shown-requires-clause-same_dims : goal.copy_shown-requires-clause-same_dims
copy_shown-requires-clause-same_dims g c =
    let t : Rows = rows_of c.args.nodes.now c.args.keys.now in
    let node : c.index-node.result.now ≡ row_at t c.args.source = node_is t c.args.keys.now c.args.nodes.now c.args.source c.index.result.now c.index-node.result.now refl c.requires.table c.index.ensures c.index-node.ensures in
    ap (λ (w : Window). w.dims) c.strided-from.ensures.window ∙ ap (λ (u : Triple). u.dims) (c.triple.ensures ∙ ap (λ (r : Row). r.triple) node) ∙ c.requires.same_dims ∙ sym (ap (λ (u : Triple). u.dims) c.of-placement.ensures)

pub returns-clause-value : goal.returns-clause-value
returns-clause-value g c =
    let t : Rows = rows_of c.args.nodes.now c.args.keys.now in
    let into : TypedElements = c.args.into.now in
    let node : c.index-node.result.now ≡ row_at t c.args.source = node_is t c.args.keys.now c.args.nodes.now c.args.source c.index.result.now c.index-node.result.now refl c.requires.table c.index.ensures c.index-node.ensures in
    let base : c.index-base.result.now ≡ row_at t (row_at t c.args.source).base =
    node_is t c.args.keys.now c.args.nodes.now c.base.result c.index-2.result.now c.index-base.result.now refl c.requires.table c.index-2.ensures c.index-base.ensures ∙ ap (row_at t) (c.base.ensures ∙ ap (λ (r : Row). r.base) node) in
    let kept : c.kept.result.now.elems ≡ (row_at t (row_at t c.args.source).base).kept = ap (λ (k : TypedElements). k.elems) c.kept.ensures ∙ ap (λ (r : Row). r.kept) base in
    let elems : c.strided-from.result.elems ≡ shown_at t c.args.source = ap (λ (w : Window). w.elems) c.strided-from.ensures.window ∙ ap₂ shown_through (c.triple.ensures ∙ ap (λ (r : Row). r.triple) node) kept in
    c.copy_shown.ensures.value
    ∙ ap₂ (λ (u : Triple) (es : List ℤ). record into { elems = write (placed_from u 0 (size_of u.dims)) es into.elems }) c.of-placement.ensures elems

pub returns-clause-in_range : goal.returns-clause-in_range
returns-clause-in_range g c =
    let t : Rows = rows_of c.args.nodes.now c.args.keys.now in
    let node : c.index-node.result.now ≡ row_at t c.args.source = node_is t c.args.keys.now c.args.nodes.now c.args.source c.index.result.now c.index-node.result.now refl c.requires.table c.index.ensures c.index-node.ensures in
    let base : c.index-base.result.now ≡ row_at t (row_at t c.args.source).base =
    node_is t c.args.keys.now c.args.nodes.now c.base.result c.index-2.result.now c.index-base.result.now refl c.requires.table c.index-2.ensures c.index-base.ensures ∙ ap (row_at t) (c.base.ensures ∙ ap (λ (r : Row). r.base) node) in
    let kept : c.kept.result.now.elems ≡ (row_at t (row_at t c.args.source).base).kept = ap (λ (k : TypedElements). k.elems) c.kept.ensures ∙ ap (λ (r : Row). r.kept) base in
    let elems : c.strided-from.result.elems ≡ shown_at t c.args.source = ap (λ (w : Window). w.elems) c.strided-from.ensures.window ∙ ap₂ shown_through (c.triple.ensures ∙ ap (λ (r : Row). r.triple) node) kept in
    let type_is : c.strided-from.result.ty ≡ c.args.into.now.ty = ap (λ (w : Window). w.ty) c.strided-from.ensures.window ∙ ap (λ (k : TypedElements). k.ty) c.kept.ensures ∙ ap (λ (r : Row). r.ty) base ∙ c.requires.same_type in
    subst (λ (y : Ty). All (InRange y) (shown_at t c.args.source)) type_is (subst (All (InRange c.strided-from.result.ty)) elems c.strided_is_in_range.ensures)
