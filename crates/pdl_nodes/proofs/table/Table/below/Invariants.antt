use Rattle.pdl_nodes.proofs.table.Table.below.Given as goal
use Rattle.pdl_nodes.proofs.ChildrenFound.{IsSearch, numbers_left}

abbrev pub invariant-loop-next : goal.invariant-loop-next
invariant-loop-next l = IsSearch l.fn.self l.id l.below.items l.next l.known.keys

abbrev pub decreases-loop-next : goal.decreases-loop-next
decreases-loop-next l = numbers_left l.fn.self l.next
