use Rattle.pdl_engine.proofs.WorkedCalls.{reshaped_so}
use Rattle.pdl_engine.proofs.worked.reshape.Goals as goal

pub returns : goal.returns
returns g c = reshaped_so c.growth_laws.ensures.live c.growth_laws.ensures.older c.args.engine.now c.reshape.new.self c.args.id c.args.steps.now c.reshape.new.steps c.args.dims.now c.resting_law.ensures c.resting_law-2.ensures c.requires c.in_ok-reshape.ensures.ok c.reshape.ensures.family c.in_ok-reshape.ensures.settled c.in_ok-reshape.ensures.outdated c.reshape.ensures.counted
