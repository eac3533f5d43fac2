use Rattle.pdl_session.specs.Arguments.{array_number}
use Rattle.pdl_session.proofs.ArgumentsGathered.{IsFront}
use Rattle.pdl_session.proofs.shapes.arrays_given.Given as goal

abbrev pub invariant-loop-one : goal.invariant-loop-one
invariant-loop-one l = IsFront array_number l.given l.one-index l.ids.items
