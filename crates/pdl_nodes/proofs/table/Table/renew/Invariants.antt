use Rattle.std.proofs.Common.{drop}
use Rattle.pdl_nodes.proofs.table.Table.renew.Given as goal
use Rattle.pdl_nodes.proofs.RenewedLoop.{AreLeft, IsRenewing}

abbrev pub invariant-loop-view : goal.invariant-loop-view
invariant-loop-view l =
    IsRenewing l.fn.layouts l.fn.self l.id l.dims l.fn.kept.elems l.self (drop l.view-index l.below)
    × AreLeft l.fn.layouts l.layouts (drop l.view-index l.below)
