use Rattle.std.proofs.Common.{◌≡◌, sym, ◌∙◌, ap, subst, length, All}
use Rattle.pdl_elem.specs.Types.{InRange}
use Rattle.pdl_elem.specs.declared.Ty.{Ty}
use Rattle.pdl_shape.specs.Triple.{Triple}
use Rattle.pdl_numbers.specs.Typed.{TypedElements}
use Rattle.pdl_buf.specs.Window.{Window}
use Rattle.pdl_numbers.specs.Shown.{shown_through}
use Rattle.pdl_world.specs.Cut.{fitted}
use Rattle.pdl_world.specs.World.{elements}
use Rattle.pdl_nodes.specs.Row.{Row}
use Rattle.pdl_nodes.specs.Rows.{row_at}
use Rattle.pdl_nodes.specs.Worlds.{world_of}
use Rattle.pdl_engine.proofs.CutFits.{length_fitted}
use Rattle.pdl_engine.proofs.RowsLent.{lent_reaches, lent_elements}
use Rattle.pdl_engine.proofs.TypedResults.{made_of, fitted_steps}
use Rattle.pdl_engine.proofs.severing.first_copied.Goals as goal

pub node-base-requires : goal.node-base-requires
node-base-requires g c = record { live = c.row_laws.ensures.seen.base_live c.args.table.now c.base.result c.args.id c.requires.order.still c.requires.live (sym (c.base.ensures ∙ ap (λ (r : Row). r.base) c.node-node.ensures)) }

pub strided-requires : goal.strided-requires
strided-requires g c =
    let base : c.base.result ≡ (row_at c.args.table.now c.args.id).base = c.base.ensures ∙ ap (λ (r : Row). r.base) c.node-node.ensures in
    let kept : c.kept.result.now.elems ≡ (row_at c.args.table.now (row_at c.args.table.now c.args.id).base).kept = ap (λ (k : TypedElements). k.elems) c.kept.ensures ∙ ap (λ (r : Row). r.kept) c.node-base.ensures ∙ ap (λ x. (row_at c.args.table.now x).kept) base in
    let triple : c.triple.result.now ≡ (row_at c.args.table.now c.args.id).triple = c.triple.ensures ∙ ap (λ (r : Row). r.triple) c.node-node.ensures in
    lent_reaches c.row_laws.ensures c.shape_laws.ensures.positions c.args.table.now c.args.id c.triple.result.now c.kept.result.now.elems c.requires.order c.requires.live c.requires.fresh triple kept

pub buf_of_elements-requires : goal.buf_of_elements-requires
buf_of_elements-requires g c =
    let base : c.base.result ≡ (row_at c.args.table.now c.args.id).base = c.base.ensures ∙ ap (λ (r : Row). r.base) c.node-node.ensures in
    let ty : c.strided.result.ty ≡ c.ty.result = ap (λ (w : Window). w.ty) c.strided.ensures.window ∙ ap (λ (k : TypedElements). k.ty) c.kept.ensures ∙ ap (λ (r : Row). r.ty) c.node-base.ensures ∙ ap (λ x. (row_at c.args.table.now x).ty) base
    ∙ (c.row_laws.ensures.seen.is_seen c.args.table.now c.requires.order.still c.args.id c.requires.live).base_ty ∙ sym (ap (λ (r : Row). r.ty) c.node-node.ensures) ∙ sym c.ty.ensures in
    subst (λ (t : Ty). All (InRange t) c.in_ok-elements.elements) ty c.in_ok-elements.ensures.in_range

pub returns-clause-value : goal.returns-clause-value
returns-clause-value g c =
    let base : c.base.result ≡ (row_at c.args.table.now c.args.id).base = c.base.ensures ∙ ap (λ (r : Row). r.base) c.node-node.ensures in
    let kept : c.kept.result.now.elems ≡ (row_at c.args.table.now (row_at c.args.table.now c.args.id).base).kept = ap (λ (k : TypedElements). k.elems) c.kept.ensures ∙ ap (λ (r : Row). r.kept) c.node-base.ensures ∙ ap (λ x. (row_at c.args.table.now x).kept) base in
    let triple : c.triple.result.now ≡ (row_at c.args.table.now c.args.id).triple = c.triple.ensures ∙ ap (λ (r : Row). r.triple) c.node-node.ensures in
    let elems : c.in_ok-elements.elements ≡ fitted c.args.count (elements (world_of c.args.table.now) c.args.id) = c.in_ok-elements.ensures.items ∙ ap (λ (w : Window). fitted c.args.count w.elems) c.strided.ensures.window
    ∙ ap (λ (t : Triple). fitted c.args.count (shown_through t c.kept.result.now.elems)) triple ∙ ap (λ es. fitted c.args.count (shown_through (row_at c.args.table.now c.args.id).triple es)) kept
    ∙ ap (fitted c.args.count) (lent_elements c.row_laws.ensures c.args.table.now c.args.id c.requires.order c.requires.live c.requires.fresh) in
    made_of c.buf_of_elements.result c.ty.result (row_at c.args.table.now c.args.id).ty c.in_ok-elements.elements (fitted c.args.count (elements (world_of c.args.table.now) c.args.id)) (c.ty.ensures ∙ ap (λ (r : Row). r.ty) c.node-node.ensures) elems c.buf_of_elements.ensures.ok

pub returns-clause-counted : goal.returns-clause-counted
returns-clause-counted g c =
    let n : length c.in_ok-elements.elements ≡ c.args.count = ap length (c.in_ok-elements.ensures.items) ∙ length_fitted c.args.count c.strided.result.elems in
    fitted_steps c.buf_of_elements.result c.in_ok-elements.elements c.buf_of_elements.new.steps c.args.steps.now c.args.count n c.buf_of_elements.ensures.counted c.buf_of_elements.ensures.err
