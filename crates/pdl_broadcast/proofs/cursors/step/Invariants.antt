use Rattle.pdl_broadcast.proofs.CursorSteps.{Rolled}
use Rattle.pdl_broadcast.proofs.cursors.step.Given as goal

abbrev pub invariant-loop-dimension : goal.invariant-loop-dimension
invariant-loop-dimension l = Rolled l.dimension l.coordinates l.fn.coordinates l.sizes
