use Rattle.std.proofs.Common.{length}
use Rattle.pdl_affine.proofs.composing.+gathered.Given as goal

abbrev pub decreases-gathered : goal.decreases-gathered
decreases-gathered l = length l.incs.now
