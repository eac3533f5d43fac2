use Rattle.std.proofs.Common.{subst}
use Rattle.pdl_engine.specs.State.{State, IsLazy}
use Rattle.pdl_engine.proofs.StateLazy.{is_lazy}
use Rattle.pdl_engine.proofs.engine.Engine.lazy_law.Goals as goal

pub returns : goal.returns
returns c = subst (λ (s : State). IsLazy s) c.self.view_is (is_lazy c.row_laws.ensures c.self.inside.table c.self.inside.holds c.self.inside.next c.self.invariant.0.order)
