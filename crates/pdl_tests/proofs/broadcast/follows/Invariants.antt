use Rattle.std.proofs.Common.{◌<◌, length}
use Rattle.pdl_tests.proofs.broadcast.follows.Given as goal

-- all arguments stay
abbrev pub invariant-loop-places : goal.invariant-loop-places
invariant-loop-places g l = 2 < length l.walk.triples
