use Rattle.std.proofs.Common.{◌≡◌, ◌∙◌, All, ap, arith, drop, length, subst, sym, take}
use Rattle.pdl_elem.specs.Types.{InRange}
use Rattle.pdl_elem.specs.declared.Ty.{Ty}
use Rattle.pdl_shape.specs.Shape.{size_of}
use Rattle.pdl_shape.specs.Triple.{Triple}
use Rattle.pdl_numbers.specs.Typed.{TypedElements}
use Rattle.pdl_numbers.specs.Shown.{shown_through}
use Rattle.pdl_buf.specs.Window.{Window}
use Rattle.pdl_world.specs.World.{elements}
use Rattle.pdl_nodes.specs.Row.{Row}
use Rattle.pdl_nodes.specs.Rows.{row_at}
use Rattle.pdl_nodes.specs.Worlds.{world_of}
use Rattle.pdl_engine.proofs.RowsLent.{lent_reaches, lent_elements}
use Rattle.pdl_engine.proofs.SeveredRenews.{elements_count}
use Rattle.pdl_engine.proofs.through.read_block.Goals as goal

pub node-base-requires : goal.node-base-requires
node-base-requires c = record { live = c.row_laws.ensures.seen.base_live c.args.table.now c.base.result c.args.id c.requires.order.still c.requires.live (sym (c.base.ensures ∙ ap (λ (r : Row). r.base) c.node-node.ensures)) }

pub strided-requires : goal.strided-requires
strided-requires c =
    let base : c.base.result ≡ (row_at c.args.table.now c.args.id).base = c.base.ensures ∙ ap (λ (r : Row). r.base) c.node-node.ensures in
    let kept : c.kept.result.now.elems ≡ (row_at c.args.table.now (row_at c.args.table.now c.args.id).base).kept = ap (λ (k : TypedElements). k.elems) c.kept.ensures ∙ ap (λ (r : Row). r.kept) c.node-base.ensures ∙ ap (λ x. (row_at c.args.table.now x).kept) base in
    let triple : c.triple.result.now ≡ (row_at c.args.table.now c.args.id).triple = c.triple.ensures ∙ ap (λ (r : Row). r.triple) c.node-node.ensures in
    lent_reaches c.row_laws.ensures c.shape_laws.ensures.positions c.args.table.now c.args.id c.triple.result.now c.kept.result.now.elems c.requires.order c.requires.live c.requires.fresh triple kept

pub strided_read-requires : goal.strided_read-requires
strided_read-requires c =
    let base : c.base.result ≡ (row_at c.args.table.now c.args.id).base = c.base.ensures ∙ ap (λ (r : Row). r.base) c.node-node.ensures in
    let kept : c.kept.result.now.elems ≡ (row_at c.args.table.now (row_at c.args.table.now c.args.id).base).kept = ap (λ (k : TypedElements). k.elems) c.kept.ensures ∙ ap (λ (r : Row). r.kept) c.node-base.ensures ∙ ap (λ x. (row_at c.args.table.now x).kept) base in
    let triple : c.triple.result.now ≡ (row_at c.args.table.now c.args.id).triple = c.triple.ensures ∙ ap (λ (r : Row). r.triple) c.node-node.ensures in
    let shows : c.strided.result.elems ≡ elements (world_of c.args.table.now) c.args.id = ap (λ (w : Window). w.elems) c.strided.ensures.window
    ∙ ap (λ (t : Triple). shown_through t c.kept.result.now.elems) triple ∙ ap (λ es. shown_through (row_at c.args.table.now c.args.id).triple es) kept
    ∙ lent_elements c.row_laws.ensures c.args.table.now c.args.id c.requires.order c.requires.live c.requires.fresh in
    let many : length c.strided.result.elems ≡ size_of (row_at c.args.table.now c.args.id).triple.dims = ap length shows ∙ elements_count c.row_laws.ensures c.args.table.now c.args.id c.requires.order.still c.requires.live in
    omega (arith, many, c.requires.within)

pub returns-clause-value : goal.returns-clause-value
returns-clause-value c =
    let base : c.base.result ≡ (row_at c.args.table.now c.args.id).base = c.base.ensures ∙ ap (λ (r : Row). r.base) c.node-node.ensures in
    let kept : c.kept.result.now.elems ≡ (row_at c.args.table.now (row_at c.args.table.now c.args.id).base).kept = ap (λ (k : TypedElements). k.elems) c.kept.ensures ∙ ap (λ (r : Row). r.kept) c.node-base.ensures ∙ ap (λ x. (row_at c.args.table.now x).kept) base in
    let triple : c.triple.result.now ≡ (row_at c.args.table.now c.args.id).triple = c.triple.ensures ∙ ap (λ (r : Row). r.triple) c.node-node.ensures in
    let shows : c.strided.result.elems ≡ elements (world_of c.args.table.now) c.args.id = ap (λ (w : Window). w.elems) c.strided.ensures.window
    ∙ ap (λ (t : Triple). shown_through t c.kept.result.now.elems) triple ∙ ap (λ es. shown_through (row_at c.args.table.now c.args.id).triple es) kept
    ∙ lent_elements c.row_laws.ensures c.args.table.now c.args.id c.requires.order c.requires.live c.requires.fresh in
    c.strided_read-2.ensures.value ∙ ap (λ es. take (length c.args.block.now) (drop c.args.first es)) shows

pub returns-clause-in_range : goal.returns-clause-in_range
returns-clause-in_range c =
    let base : c.base.result ≡ (row_at c.args.table.now c.args.id).base = c.base.ensures ∙ ap (λ (r : Row). r.base) c.node-node.ensures in
    let ty : c.strided.result.ty ≡ (row_at c.args.table.now c.args.id).ty = ap (λ (w : Window). w.ty) c.strided.ensures.window ∙ ap (λ (k : TypedElements). k.ty) c.kept.ensures ∙ ap (λ (r : Row). r.ty) c.node-base.ensures ∙ ap (λ x. (row_at c.args.table.now x).ty) base
    ∙ (c.row_laws.ensures.seen.is_seen c.args.table.now c.requires.order.still c.args.id c.requires.live).base_ty in
    subst (λ (t : Ty). All (InRange t) c.strided_read-2.new.into) ty c.strided_read-2.ensures.in_range
