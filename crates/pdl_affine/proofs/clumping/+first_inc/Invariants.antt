use Rattle.std.proofs.Common.{length}
use Rattle.pdl_affine.proofs.clumping.+first_inc.Given as goal

abbrev pub decreases-first_inc : goal.decreases-first_inc
decreases-first_inc l = length l.incs.now
