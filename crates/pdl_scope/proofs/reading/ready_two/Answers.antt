use Rattle.pdl_scope.proofs.CostLemmas.{never_dearer, read_both}
use Rattle.pdl_scope.proofs.reading.ready_two.Goals as goal

pub returns-clause-counted : goal.returns-clause-counted
returns-clause-counted g c =
    read_both c.args.engine.now c.ready.new.engine c.args.left c.args.right c.args.steps.now c.ready.new.steps c.ready-2.new.steps c.requires.right c.ready.ensures.costs c.ready.ensures.counted c.ready-2.ensures.counted

pub returns-clause-costs : goal.returns-clause-costs
returns-clause-costs g c = never_dearer c.args.engine.now c.ready.new.engine c.ready-2.new.engine c.ready.ensures.same c.ready.ensures.costs c.ready-2.ensures.costs
