use Rattle.std.proofs.Common.{◌∙◌}
use Rattle.pdl_nodes.specs.Table.{rows_of}
use Rattle.pdl_nodes.proofs.table.Table.children.Goals as goal
use Rattle.pdl_nodes.proofs.ChildrenCounted.{counted_same}

pub returns : goal.returns
returns c = c.of.ensures ∙ (counted_same (rows_of c.self.inside.nodes c.self.inside.keys) c.args.self.now c.self.inside.children c.self.view_is c.self.invariant.1).count c.args.id
