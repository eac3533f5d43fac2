use Rattle.std.proofs.Common.{arith}
use Rattle.pdl_pull.proofs.PlacedGathered.{through_is, through_past}
use Rattle.pdl_pull.proofs.gathering.place_through.Goals as goal

pub returns-in-Some : goal.returns-in-Some
returns-in-Some c = through_is c.args.known.now c.args.shown.now c.args.position c.placed.result c.in-Some.at c.place.result c.in-Some.is (omega (arith, c.requires)) c.place.ensures.place c.placed.ensures

pub returns-in_default : goal.returns-in_default
returns-in_default c = through_past c.args.known.now c.args.shown.now c.args.position c.in-Some.at c.in-Some.is (omega (arith, c.requires))
