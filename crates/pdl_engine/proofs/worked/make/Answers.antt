use Rattle.pdl_engine.proofs.WorkedCalls.{made_so}
use Rattle.pdl_engine.proofs.worked.make.Goals as goal

pub returns : goal.returns
returns g c = made_so c.growth_laws.ensures.live c.growth_laws.ensures.older c.growth_laws.ensures.below c.args.engine.now c.make.new.self c.in_ok-id.id c.args.steps.now c.make.new.steps c.args.dims.now c.args.elems c.resting_law.ensures c.resting_law-2.ensures c.in_ok-id.ensures.made c.in_ok-id.ensures.counted
