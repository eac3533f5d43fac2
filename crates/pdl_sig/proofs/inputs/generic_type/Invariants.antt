use Rattle.std.proofs.Common.{◌≡◌, None}
use Rattle.pdl_sig.specs.Resolution.{highest_from, handed}
use Rattle.pdl_sig.proofs.ResolutionSteps.{left}
use Rattle.pdl_sig.proofs.inputs.generic_type.Given as goal

abbrev pub invariant-loop-place : goal.invariant-loop-place
invariant-loop-place l = highest_from l.found (left l.args l.given l.place) ≡ highest_from None (handed l.args l.given)
