use Rattle.std.proofs.Common.{length}
use Rattle.pdl_ops.proofs.values.+fits.Given as goal

abbrev pub decreases-fits : goal.decreases-fits
decreases-fits l = length l.sizes.now
