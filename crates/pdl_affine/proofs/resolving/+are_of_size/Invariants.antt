use Rattle.std.proofs.Common.{length}
use Rattle.pdl_affine.proofs.resolving.+are_of_size.Given as goal

abbrev pub decreases-are_of_size : goal.decreases-are_of_size
decreases-are_of_size l = length l.places.now
