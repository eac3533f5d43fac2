use Rattle.std.proofs.Common.{length}
use Rattle.pdl_affine.proofs.clumping.+are_chain_after.Given as goal

abbrev pub decreases-are_chain_after : goal.decreases-are_chain_after
decreases-are_chain_after l = length l.incs.now
