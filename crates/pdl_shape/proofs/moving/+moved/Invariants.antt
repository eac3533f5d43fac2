use Rattle.std.proofs.Common.{length}
use Rattle.pdl_shape.proofs.moving.+moved.Given as goal

-- proposed from what the function passes where it calls itself
abbrev pub decreases-moved : goal.decreases-moved
decreases-moved l = length l.incs.now
