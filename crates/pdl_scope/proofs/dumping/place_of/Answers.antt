use Rattle.std.proofs.Common.{Ok, Err}
use Rattle.pdl_scope.proofs.DumpingPlaces.{place_searched}
use Rattle.pdl_scope.proofs.dumping.place_of.Goals as goal

pub returns-in-Ok : goal.returns-in-Ok
returns-in-Ok c = place_searched c.args.ids.now c.args.id (Ok c.in-Ok.at) c.requires c.in-Ok.ensures.position

pub returns-in-Err : goal.returns-in-Err
returns-in-Err c = place_searched c.args.ids.now c.args.id (Err c.in-Err.field-0) c.requires c.in-Err.ensures.position
