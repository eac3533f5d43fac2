use Rattle.pdl_broadcast.proofs.CursorJumps.{Jumped}
use Rattle.pdl_broadcast.proofs.cursors.jumps_of.Given as goal

abbrev pub invariant-loop-dimension : goal.invariant-loop-dimension
invariant-loop-dimension l = Jumped l.dimension l.jumps l.turned l.incs l.sizes
