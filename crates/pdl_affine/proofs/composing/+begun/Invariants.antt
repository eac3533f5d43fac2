use Rattle.std.proofs.Common.{length}
use Rattle.pdl_affine.proofs.composing.+begun.Given as goal

abbrev pub decreases-begun : goal.decreases-begun
decreases-begun l = length l.incs.now
