use Rattle.pdl_nodes.proofs.table.Table.node.Goals as goal
use Rattle.pdl_nodes.proofs.TableCalls.{has_key, node_is}

pub index-requires : goal.index-requires
index-requires c = has_key c.args.self.now c.self.inside.keys c.self.inside.nodes c.args.id c.self.view_is c.self.invariant.0.0 c.requires.live

pub returns : goal.returns
returns c = node_is c.args.self.now c.self.inside.keys c.self.inside.nodes c.args.id c.index.result.now c.index-2.result.now c.self.view_is c.self.invariant.0.0 c.index.ensures c.index-2.ensures
