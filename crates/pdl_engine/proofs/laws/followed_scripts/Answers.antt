use Rattle.pdl_engine.proofs.RunLemmas.{followed}
use Rattle.pdl_engine.proofs.laws.followed_scripts.Goals as goal

pub returns : goal.returns
returns c = followed c.growth_laws.ensures.live c.growth_laws.ensures.older c.assignment_laws.ensures.looks c.sweep_laws.ensures.kept c.sweep_laws.ensures.seen
