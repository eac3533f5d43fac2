use Rattle.std.proofs.Common.{length}
use Rattle.pdl_affine.proofs.clumping.+are_chain.Given as goal

abbrev pub decreases-are_chain : goal.decreases-are_chain
decreases-are_chain l = length l.incs.now
