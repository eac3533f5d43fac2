use Rattle.std.proofs.Common.{sym, ◌∙◌, ap, subst}
use Rattle.pdl_world.specs.Sound.{IsLive}
use Rattle.pdl_world.specs.World.{World, ty_in}
use Rattle.pdl_nodes.specs.Row.{Row}
use Rattle.pdl_engine.specs.State.{State}
use Rattle.pdl_engine.proofs.StateOfWorlds.{live_has}
use Rattle.pdl_engine.proofs.engine.Engine.ty.Goals as goal

pub node-requires : goal.node-requires
node-requires c = record { live = (live_has c.row_laws.ensures c.self.inside.table c.args.id (subst (λ (w : World). IsLive w c.args.id) (sym (ap (λ (s : State). s.world) c.self.view_is)) c.requires)) }

pub returns : goal.returns
returns c = c.ty.ensures ∙ ap (λ (r : Row). r.ty) c.node.ensures ∙ sym (c.row_laws.ensures.seen.ty_are c.self.inside.table c.args.id c.self.invariant.0.order.still (live_has c.row_laws.ensures c.self.inside.table c.args.id (subst (λ (w : World). IsLive w c.args.id) (sym (ap (λ (s : State). s.world) c.self.view_is)) c.requires))) ∙ ap (λ w. ty_in w c.args.id) (ap (λ (s : State). s.world) c.self.view_is)
