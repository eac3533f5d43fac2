use Rattle.std.proofs.Common.{length}
use Rattle.pdl_choice.proofs.indices.+used_position.Given as goal

abbrev pub decreases-used_position : goal.decreases-used_position
decreases-used_position l = length l.dims.now
