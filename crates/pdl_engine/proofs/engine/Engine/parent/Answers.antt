use Rattle.std.proofs.Common.{sym, ◌∙◌, ap, subst}
use Rattle.pdl_world.specs.Paths.{parent_in}
use Rattle.pdl_world.specs.Sound.{IsLive}
use Rattle.pdl_world.specs.World.{World}
use Rattle.pdl_nodes.specs.Row.{parent_of}
use Rattle.pdl_nodes.specs.Worlds.{shape, latest}
use Rattle.pdl_engine.specs.State.{State}
use Rattle.pdl_engine.proofs.StateOfWorlds.{live_has, parent_with, parent_is}
use Rattle.pdl_engine.proofs.engine.Engine.parent.Goals as goal

pub node-requires : goal.node-requires
node-requires c = record { live = (live_has c.row_laws.ensures c.self.inside.table c.args.id (subst (λ (w : World). IsLive w c.args.id) (sym (ap (λ (s : State). s.world) c.self.view_is)) c.requires)) }

pub returns : goal.returns
returns c = c.parent.ensures ∙ ap parent_of c.node.ensures ∙ sym (parent_is c.self.inside.table c.args.id) ∙ sym (parent_with (latest c.self.inside.table) (shape c.self.inside.table) c.args.id) ∙ ap (λ (s : State). parent_in s.world c.args.id) c.self.view_is
