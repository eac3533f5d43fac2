use Rattle.std.proofs.Common.{subst}
use Rattle.pdl_engine.specs.Held.{AllHaveHolds, AreApart, holders}
use Rattle.pdl_engine.specs.State.{State}
use Rattle.pdl_engine.proofs.HoldLawLemmas.{apart, have_holds}
use Rattle.pdl_engine.proofs.engine.Engine.holds_law.Goals as goal

pub returns-clause-each : goal.returns-clause-each
returns-clause-each c = subst (λ (s : State). AllHaveHolds s) c.self.view_is (have_holds c.row_laws.ensures c.self.inside.table c.self.inside.holds c.self.inside.next c.self.invariant.0.order.still)

pub returns-clause-once : goal.returns-clause-once
returns-clause-once c = subst (λ (s : State). AreApart (holders s.holds)) c.self.view_is (apart c.row_laws.ensures c.self.inside.table c.self.inside.holds c.self.invariant.0.order.still)
