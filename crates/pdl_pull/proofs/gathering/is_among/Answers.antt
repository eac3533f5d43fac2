use Rattle.std.proofs.Common.{arith}
use Rattle.pdl_pull.proofs.PlacedGathered.{among_here}
use Rattle.pdl_pull.proofs.gathering.is_among.Goals as goal

pub returns-then-other-at : goal.returns-then-other-at
returns-then-other-at c = among_here c.args.places.now _ c.args.at c.in-Some.other (omega arith) c.in-Some.is c.if-other-at.true
