use Rattle.pdl_engine.proofs.WorkedCalls.{released_so}
use Rattle.pdl_engine.proofs.worked.release.Goals as goal

pub returns : goal.returns
returns g c = released_so c.growth_laws.ensures.live c.growth_laws.ensures.older c.sweep_laws.ensures.kept c.sweep_laws.ensures.seen c.sweep_laws.ensures.bases c.args.engine.now c.release.new.self c.args.id c.args.steps.now c.release.new.steps c.resting_law.ensures c.resting_law-2.ensures c.requires c.release.ensures.released c.release.ensures.counted
