use Rattle.std.proofs.Common.{◌≡◌, drop}
use Rattle.pdl_sig.specs.Resolution.{found_size}
use Rattle.pdl_sig.proofs.cores.found_size.Given as goal

abbrev pub invariant-loop-dimension : goal.invariant-loop-dimension
invariant-loop-dimension l = found_size (drop l.dimension-index l.cores) l.number ≡ found_size l.cores l.number
