use Rattle.pdl_engine.proofs.WorkedCalls.{severed_so}
use Rattle.pdl_engine.proofs.worked.sever.Goals as goal

pub returns : goal.returns
returns g c = severed_so c.growth_laws.ensures.live c.growth_laws.ensures.older c.args.engine.now c.sever.new.self c.args.id c.args.steps.now c.sever.new.steps c.resting_law.ensures c.resting_law-2.ensures c.requires c.sever.ensures.root c.sever.ensures.spent c.in_ok-sever.ensures.ok c.sever.ensures.family c.sever.ensures.settled c.in_ok-sever.ensures.outdated c.sever.ensures.counted
