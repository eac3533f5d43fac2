use Rattle.std.proofs.Common.{◌≡◌, ◌++◌}
use Rattle.pdl_sig.specs.Resolution.{cores, handed}
use Rattle.pdl_sig.proofs.ResolutionSteps.{left}
use Rattle.pdl_sig.proofs.cores.cores.Given as goal

abbrev pub invariant-loop-place : goal.invariant-loop-place
invariant-loop-place l = l.found.items ++ cores (left l.args l.given l.place) ≡ cores (handed l.args l.given)
