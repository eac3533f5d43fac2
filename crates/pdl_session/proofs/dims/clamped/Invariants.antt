use Rattle.pdl_session.specs.Sizes.{clamped_size}
use Rattle.pdl_session.proofs.ArgumentsGathered.{IsFront}
use Rattle.pdl_session.proofs.dims.clamped.Given as goal

abbrev pub invariant-loop-number : goal.invariant-loop-number
invariant-loop-number l = IsFront clamped_size l.numbers l.number-index l.sizes.items
