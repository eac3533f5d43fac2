use Rattle.std.proofs.Common.{is_some, sym, ◌∙◌, ap}
use Rattle.pdl_world.specs.World.{look}
use Rattle.pdl_engine.specs.State.{State}
use Rattle.pdl_engine.proofs.StateOfWorlds.{look_has}
use Rattle.pdl_engine.proofs.engine.Engine.is_live.Goals as goal

pub returns : goal.returns
returns c =
    c.has.ensures ∙ c.self.invariant.0.beside.numbers c.args.id
    ∙ sym (look_has c.row_laws.ensures c.self.inside.table c.self.invariant.0.order.still c.args.id)
    ∙ ap (λ (s : State). is_some (look s.world c.args.id)) c.self.view_is
