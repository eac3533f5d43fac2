use Rattle.pdl_engine.proofs.WorkedCalls.{viewed_so}
use Rattle.pdl_engine.proofs.worked.view.Goals as goal

pub returns : goal.returns
returns c = viewed_so c.growth_laws.ensures.live c.growth_laws.ensures.older c.growth_laws.ensures.below c.args.engine.now c.view.new.self c.in_ok-id.id c.args.parent 0 c.args.trans c.resting_law.ensures c.resting_law-2.ensures c.requires.live c.in_ok-id.ensures.made
