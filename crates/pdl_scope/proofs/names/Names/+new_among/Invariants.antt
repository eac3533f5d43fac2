use Rattle.std.proofs.Common.{length}
use Rattle.pdl_scope.proofs.names.Names.+new_among.Given as goal

abbrev pub decreases-new_among : goal.decreases-new_among
decreases-new_among l = length l.bound.now
