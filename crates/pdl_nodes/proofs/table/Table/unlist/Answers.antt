use Rattle.pdl_nodes.specs.Table.{rows_of}
use Rattle.pdl_nodes.proofs.MarkedMoved.{listed_unlisted}
use Rattle.pdl_nodes.proofs.table.Table.unlist.Goals as goal

pub invariant_of-self : goal.invariant_of-self
invariant_of-self c = (
  (c.self.invariant.0.0, listed_unlisted c.args.self.now (rows_of c.self.inside.nodes c.self.inside.keys) c.args.id c.self.inside.marked c.unlist.new.self c.self.view_is c.requires c.unlist.ensures.others c.self.invariant.0.1),
  c.self.invariant.1,
)
