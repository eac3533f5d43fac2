use Rattle.pdl_broadcast.proofs.WalkLemmas.{end_is, index_bound}
use Rattle.pdl_broadcast.proofs.walk.BroadcastWalk.at_end.Goals as goal

pub returns-clause-answer : goal.returns-clause-answer
returns-clause-answer c = rw (← c.self.view_is) (end_is c.shape_laws.ensures.positions c.self.inside c.self.invariant)

pub returns-clause-bound : goal.returns-clause-bound
returns-clause-bound c = rw (← c.self.view_is) (index_bound c.shape_laws.ensures.positions c.self.inside c.self.invariant)
