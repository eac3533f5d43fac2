use Rattle.std.proofs.Common.{subst}
use Rattle.pdl_engine.specs.Resting.{IsResting}
use Rattle.pdl_engine.specs.State.{State}
use Rattle.pdl_engine.proofs.RestingStates.{resting}
use Rattle.pdl_engine.proofs.engine.Engine.resting_law.Goals as goal

pub returns : goal.returns
returns c = subst (λ (s : State). IsResting s) c.self.view_is (resting c.row_laws.ensures c.self.inside.table c.self.inside.holds c.self.inside.next c.self.invariant.0)
