use Rattle.pdl_engine.proofs.WorkedCalls.{assigned_so}
use Rattle.pdl_engine.proofs.worked.assign.Goals as goal

pub returns : goal.returns
returns g c = assigned_so c.growth_laws.ensures.live c.growth_laws.ensures.older c.assignment_laws.ensures.looks c.assignment_laws.ensures.bases c.base_laws.ensures.shown c.args.engine.now c.assign.new.self c.args.id c.args.steps.now c.assign.new.steps c.args.values.now c.resting_law.ensures c.resting_law-2.ensures c.requires.live
    c.assign.ensures.world c.assign.ensures.holds c.assign.ensures.next c.assign.ensures.others c.assign.ensures.target c.assign.ensures.waits c.assign.ensures.counted
