use Rattle.std.proofs.Common.{length}
use Rattle.pdl_affine.proofs.courses.+sliced.Given as goal

abbrev pub decreases-sliced : goal.decreases-sliced
decreases-sliced l = length l.taken.now
