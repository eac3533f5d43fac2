use Rattle.std.proofs.Common.{ap, sym}
use Rattle.pdl_nodes.specs.Row.{Row}
use Rattle.pdl_pull.proofs.refreshing.is_fresh.Goals as goal

pub base_of-requires-clause-live : goal.base_of-requires-clause-live
base_of-requires-clause-live c = c.row_laws.ensures.seen.base_live c.args.table.now c.node-node.result.now.base c.args.id c.requires.still c.requires.live (sym (ap (λ (r : Row). r.base) c.node-node.ensures))
