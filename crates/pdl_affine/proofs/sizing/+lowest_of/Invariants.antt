use Rattle.std.proofs.Common.{length}
use Rattle.pdl_affine.proofs.sizing.+lowest_of.Given as goal

abbrev pub decreases-lowest_of : goal.decreases-lowest_of
decreases-lowest_of l = length l.places.now
