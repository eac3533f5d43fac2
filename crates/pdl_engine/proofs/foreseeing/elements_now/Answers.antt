use Rattle.std.proofs.Common.{◌≡◌, ℕ, ℤ, List, length, sym, ◌∙◌, ap, subst}
use Rattle.std.specs.Prelude.{IfOk}
use Rattle.pdl_shape.specs.Shape.{size_of}
use Rattle.pdl_shape.specs.Triple.{Triple}
use Rattle.pdl_numbers.specs.Typed.{TypedElements}
use Rattle.pdl_buf.specs.Window.{Window}
use Rattle.pdl_numbers.specs.Shown.{shown_through}
use Rattle.pdl_nodes.specs.Row.{Row}
use Rattle.pdl_nodes.specs.Rows.{row_at}
use Rattle.pdl_engine.proofs.RowsLent.{lent_reaches, lent_elements}
use Rattle.pdl_engine.proofs.foreseeing.elements_now.Goals as goal

pub base_of-base-requires-clause-live : goal.base_of-base-requires-clause-live
base_of-base-requires-clause-live c = c.row_laws.ensures.seen.base_live c.args.table.now c.node-node.result.now.base c.args.id c.requires.order.still c.requires.live (sym (ap (λ (r : Row). r.base) c.node-node.ensures))

pub kept-requires : goal.kept-requires
kept-requires c = c.row_laws.ensures.seen.mark_buffered c.base_of-base.result.now (ap (λ (r : Row). r.mark) (c.base_of-base.ensures ∙ ap (λ (r : Row). row_at c.args.table.now r.base) c.node-node.ensures) ∙ c.requires.fresh)

pub strided-requires : goal.strided-requires
strided-requires c = lent_reaches c.row_laws.ensures c.shape_laws.ensures.positions c.args.table.now c.args.id c.triple.result.now c.kept.result.now.elems c.requires.order c.requires.live c.requires.fresh (c.triple.ensures ∙ ap (λ (r : Row). r.triple) c.node-node.ensures)
    (ap (λ (k : TypedElements). k.elems) c.kept.ensures ∙ ap (λ (r : Row). r.kept) (c.base_of-base.ensures ∙ ap (λ (r : Row). row_at c.args.table.now r.base) c.node-node.ensures))

pub returns-clause-items : goal.returns-clause-items
returns-clause-items c = subst (λ (es : List ℤ). IfOk c.all_shown-2.result (λ ns. ns.items ≡ es))
    (ap (λ (w : Window). w.elems) c.strided.ensures.window
    ∙ ap (λ (t : Triple). shown_through t c.kept.result.now.elems) (c.triple.ensures ∙ ap (λ (r : Row). r.triple) c.node-node.ensures)
    ∙ ap (λ (es : List ℤ). shown_through (row_at c.args.table.now c.args.id).triple es) (ap (λ (k : TypedElements). k.elems) c.kept.ensures ∙ ap (λ (r : Row). r.kept) (c.base_of-base.ensures ∙ ap (λ (r : Row). row_at c.args.table.now r.base) c.node-node.ensures))
    ∙ lent_elements c.row_laws.ensures c.args.table.now c.args.id c.requires.order c.requires.live c.requires.fresh)
    c.all_shown-2.ensures.items

pub returns-clause-count : goal.returns-clause-count
returns-clause-count c = subst (λ (n : ℕ). IfOk c.all_shown-2.result (λ ns. length ns.items ≡ n))
    (ap (λ (w : Window). size_of w.dims) c.strided.ensures.window ∙ ap (λ (t : Triple). size_of t.dims) (c.triple.ensures ∙ ap (λ (r : Row). r.triple) c.node-node.ensures))
    c.all_shown-2.ensures.count
