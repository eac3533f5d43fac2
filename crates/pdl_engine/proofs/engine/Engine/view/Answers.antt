use Rattle.std.proofs.Common.{subst}
use Rattle.pdl_world.specs.Sound.{IsSound}
use Rattle.pdl_engine.specs.State.{State}
use Rattle.pdl_engine.proofs.engine.Engine.view.Goals as goal

pub returns-in_err-layout-clause-sound : goal.returns-in_err-layout-clause-sound
returns-in_err-layout-clause-sound c = subst (λ (s : State). IsSound s.world) c.self.view_is c.self.invariant.0.sound
