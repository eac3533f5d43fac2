use Rattle.std.proofs.Common.{nat_lt, sym, ◌∙◌, ap}
use Rattle.pdl_nodes.specs.Table.{rows_of}
use Rattle.pdl_nodes.proofs.table.Table.has_views.Goals as goal
use Rattle.pdl_nodes.proofs.ChildrenCounted.{counted_same, views_counted}

pub returns : goal.returns
returns c = ap (nat_lt 0) (c.of.ensures ∙ (counted_same (rows_of c.self.inside.nodes c.self.inside.keys) c.args.self.now c.self.inside.children c.self.view_is c.self.invariant.1).count c.args.id) ∙ sym (views_counted c.args.self.now c.args.id)
