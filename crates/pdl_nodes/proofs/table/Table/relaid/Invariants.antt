use Rattle.std.proofs.Common.{drop}
use Rattle.pdl_nodes.proofs.table.Table.relaid.Given as goal
use Rattle.pdl_nodes.proofs.RelayingLemmas.{IsOn}

abbrev pub invariant-loop-view : goal.invariant-loop-view
invariant-loop-view l = IsOn l.layouts l.fn.self l.id l.dims (drop l.view-index l.view-items)
