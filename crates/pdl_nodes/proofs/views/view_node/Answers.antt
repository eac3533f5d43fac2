use Rattle.std.proofs.Common.{sym, ◌∙◌, ap, subst}
use Rattle.pdl_world.specs.declared.Trans.{Trans}
use Rattle.pdl_world.specs.Formula.{child_dims}
use Rattle.pdl_world.specs.Windows.{over}
use Rattle.pdl_nodes.specs.declared.origin.Layout.{Layout}
use Rattle.pdl_nodes.specs.declared.origin.Origin.TheVariants.{View}
use Rattle.pdl_nodes.specs.Joined.{IsNewView, dims_or, view_row}
use Rattle.pdl_nodes.specs.Row.{Row}
use Rattle.pdl_nodes.specs.Still.{base_over, triple_over}
use Rattle.pdl_nodes.proofs.SizedBelow.{LawsBelow}
use Rattle.pdl_nodes.proofs.SizedViews.{new_view, view_row_is}
use Rattle.pdl_nodes.proofs.views.view_node.Goals as goal

pub returns-clause-new : goal.returns-clause-new
returns-clause-new c =
    let laws : LawsBelow = record {
      views = record {
        positions = c.shape_laws.ensures.positions;
        in_order = c.shape_laws.ensures.wholes;
        sources = c.view_laws.ensures.sources;
        composed = c.window_laws.ensures.composed;
        uncomposed = c.window_laws.ensures.uncomposed;
      };
      wholes = c.triple_laws.ensures.wholes;
    } in
    let made : IsNewView c.args.id c.args.parent c.args.trans c.args.above.now (view_row c.args.id c.args.parent c.args.trans c.args.layout c.args.above.now) =
    new_view laws c.args.id c.args.parent c.args.trans c.args.layout c.args.above.now c.requires.triple (record { dims = c.dims.result.now; layout = c.requires.laid; has_dims = c.dims.ensures; limits = c.dims_list-limits.ensures.limits }) in
    let same = view_row_is c.args.id c.args.parent c.args.trans c.args.layout c.args.above.now (View c.args.parent c.in_ok-trans.trans c.in_ok-layout.layout) c.above.inside.ty c.above.inside.root c.shown-base.result.0 c.shown-base.result.1
    (ap (λ (t : Trans). View c.args.parent t c.in_ok-layout.layout) c.in_ok-trans.ensures ∙ ap (λ (y : Layout). View c.args.parent c.args.trans y) c.in_ok-layout.ensures)
    (ap (λ (r : Row). r.ty) c.above.view_is)
    (ap (λ (r : Row). r.root) c.above.view_is)
    (c.shown-base.ensures.base ∙ ap (λ (t : Trans). base_over c.args.id c.above.inside.base (over t c.above.inside.triple)) c.in_ok-trans.ensures ∙ ap (λ (r : Row). base_over c.args.id r.base (over c.args.trans r.triple)) c.above.view_is)
    (c.shown-base.ensures.triple ∙ ap (λ (t : Trans). triple_over (dims_or (child_dims t c.above.inside.triple.dims)) (over t c.above.inside.triple)) c.in_ok-trans.ensures ∙ ap (λ (r : Row). triple_over (dims_or (child_dims c.args.trans r.triple.dims)) (over c.args.trans r.triple)) c.above.view_is) in
    subst (IsNewView c.args.id c.args.parent c.args.trans c.args.above.now) (sym same) made
