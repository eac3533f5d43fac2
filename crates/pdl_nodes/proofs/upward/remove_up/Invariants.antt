use Rattle.pdl_nodes.proofs.upward.remove_up.Given as goal
use Rattle.pdl_nodes.proofs.HoldsRemoved.{IsFalling}
use Rattle.pdl_nodes.proofs.RowRests.{size_of}

abbrev pub invariant-loop-next : goal.invariant-loop-next
invariant-loop-next l = IsFalling l.id l.fn.table l.fn.holds l.table l.holds l.next

abbrev pub decreases-loop-next : goal.decreases-loop-next
decreases-loop-next l = size_of l.next
