use Rattle.pdl_scope.proofs.CostLemmas.{no_dearer}
use Rattle.pdl_scope.proofs.reading.ready.Goals as goal

pub returns-clause-costs : goal.returns-clause-costs
returns-clause-costs g c = no_dearer c.args.engine.now c.ready.new.self c.args.id c.ready.ensures.same c.ready.ensures.stay c.ready.ensures.settled c.ready.ensures.others
