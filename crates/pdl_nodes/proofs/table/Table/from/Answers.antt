use Rattle.std.proofs.Common.{◌∙◌}
use Rattle.pdl_nodes.proofs.table.Table.from.Goals as goal
use Rattle.pdl_nodes.proofs.RowFirsts.{from_is}

pub returns : goal.returns
returns c = c.from.ensures ∙ from_is c.args.self.now c.self.inside.keys c.self.inside.nodes c.args.id c.self.view_is c.self.invariant.0.0
