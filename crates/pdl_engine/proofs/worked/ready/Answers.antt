use Rattle.pdl_engine.proofs.WorkedCalls.{readied_so}
use Rattle.pdl_engine.proofs.worked.ready.Goals as goal

pub returns : goal.returns
returns g c = readied_so c.growth_laws.ensures.live c.growth_laws.ensures.older c.args.engine.now c.ready.new.self c.args.id c.args.steps.now c.ready.new.steps c.resting_law.ensures c.resting_law-2.ensures c.requires c.ready.ensures.same c.ready.ensures.stay c.in_ok-ready.ensures.fresh c.ready.ensures.settled c.ready.ensures.others c.ready.ensures.counted
