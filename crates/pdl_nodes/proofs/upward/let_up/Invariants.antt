use Rattle.pdl_nodes.proofs.upward.let_up.Given as goal
use Rattle.pdl_nodes.proofs.RowRests.{size_of}
use Rattle.pdl_nodes.proofs.HoldsRising.{IsRising}

abbrev pub invariant-loop-next : goal.invariant-loop-next
invariant-loop-next l = IsRising l.table l.fn.holds l.holds l.id l.next

abbrev pub decreases-loop-next : goal.decreases-loop-next
decreases-loop-next l = size_of l.next
