use Rattle.std.proofs.Common.{length}
use Rattle.pdl_affine.proofs.resolving.+is_distinct.Given as goal

abbrev pub decreases-is_distinct : goal.decreases-is_distinct
decreases-is_distinct l = length l.places.now
