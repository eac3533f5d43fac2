use Rattle.std.proofs.Common.{◌||◌, ◌∙◌, ap}
use Rattle.std.proofs.lemmas.Result.{on_ok_weaker}
use Rattle.pdl_nodes.specs.Children.{has_number}
use Rattle.pdl_nodes.specs.Table.{rows_of}
use Rattle.pdl_nodes.proofs.table.Table.copy_views.Goals as goal
use Rattle.pdl_nodes.proofs.ChildrenCounted.{counted_same}

pub returns : goal.returns
returns c = on_ok_weaker c.copy_views.result
    (λ e u. e u ∙ ap (λ b. has_number c.args.known.now.keys u || b) ((counted_same (rows_of c.self.inside.nodes c.self.inside.keys) c.args.self.now c.self.inside.children c.self.view_is c.self.invariant.1).those c.args.id u))
    c.copy_views.ensures
