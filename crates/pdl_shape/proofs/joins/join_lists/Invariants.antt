use Rattle.pdl_shape.proofs.BroadcastSteps.{Joined}
use Rattle.pdl_shape.proofs.joins.join_lists.Given as goal

abbrev pub invariant-loop-dimension : goal.invariant-loop-dimension
invariant-loop-dimension l = Joined l.sizes.items l.sizes.capacity l.dimension l.a l.b
