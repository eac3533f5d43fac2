use Rattle.std.proofs.Common.{sym, ◌∙◌, ap, subst}
use Rattle.pdl_shape.specs.Triple.{Triple}
use Rattle.pdl_world.specs.Sound.{IsLive}
use Rattle.pdl_world.specs.World.{World, dims_in}
use Rattle.pdl_nodes.specs.Row.{Row}
use Rattle.pdl_engine.specs.State.{State}
use Rattle.pdl_engine.proofs.StateOfWorlds.{live_has}
use Rattle.pdl_engine.proofs.engine.Engine.dims.Goals as goal

pub node-requires : goal.node-requires
node-requires c = record { live = (live_has c.row_laws.ensures c.self.inside.table c.args.id (subst (λ (w : World). IsLive w c.args.id) (sym (ap (λ (s : State). s.world) c.self.view_is)) c.requires)) }

pub returns-clause-now : goal.returns-clause-now
returns-clause-now c = ap (λ (t : Triple). t.dims) (c.behind-node.view_is ∙ c.triple.ensures ∙ ap (λ (r : Row). r.triple) c.node.ensures) ∙ sym (c.row_laws.ensures.seen.dims_are c.self.inside.table c.args.id c.self.invariant.0.order.still (live_has c.row_laws.ensures c.self.inside.table c.args.id (subst (λ (w : World). IsLive w c.args.id) (sym (ap (λ (s : State). s.world) c.self.view_is)) c.requires))) ∙ ap (λ w. dims_in w c.args.id) (ap (λ (s : State). s.world) c.self.view_is)
