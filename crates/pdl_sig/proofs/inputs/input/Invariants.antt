use Rattle.pdl_sig.proofs.ResolutionSteps.{Seeks}
use Rattle.pdl_sig.proofs.inputs.input.Given as goal

abbrev pub invariant-loop-arg : goal.invariant-loop-arg
invariant-loop-arg l = Seeks l.args l.arg-index l.left l.place
