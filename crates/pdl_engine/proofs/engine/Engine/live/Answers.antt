use Rattle.std.proofs.Common.{length, sym, ◌∙◌, ap}
use Rattle.pdl_world.specs.World.{World}
use Rattle.pdl_engine.specs.State.{State}
use Rattle.pdl_engine.proofs.StateOfWorlds.{length_world}
use Rattle.pdl_engine.proofs.engine.Engine.live.Goals as goal

pub returns : goal.returns
returns c = c.count.ensures ∙ sym (length_world c.self.inside.table) ∙ ap (λ (w : World). length w) (ap (λ (s : State). s.world) c.self.view_is)
