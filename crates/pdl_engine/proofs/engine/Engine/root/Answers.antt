use Rattle.std.proofs.Common.{◌≡◌, true, sym, ◌∙◌, ap, subst}
use Rattle.pdl_world.specs.Paths.{root_of}
use Rattle.pdl_world.specs.Sound.{IsLive}
use Rattle.pdl_world.specs.World.{World}
use Rattle.pdl_nodes.specs.Row.{Row}
use Rattle.pdl_nodes.specs.Rows.{has}
use Rattle.pdl_engine.specs.State.{State}
use Rattle.pdl_engine.proofs.StateOfWorlds.{live_has, root_are}
use Rattle.pdl_engine.proofs.engine.Engine.root.Goals as goal

pub node-requires : goal.node-requires
node-requires c = record { live = (live_has c.row_laws.ensures c.self.inside.table c.args.id (subst (λ (w : World). IsLive w c.args.id) (sym (ap (λ (s : State). s.world) c.self.view_is)) c.requires)) }

pub returns : goal.returns
returns c =
    let h : has c.self.inside.table c.args.id ≡ true = live_has c.row_laws.ensures c.self.inside.table c.args.id (subst (λ (w : World). IsLive w c.args.id) (sym (ap (λ (s : State). s.world) c.self.view_is)) c.requires) in
    c.root.ensures ∙ ap (λ (r : Row). r.root) c.node.ensures ∙ sym (root_are c.row_laws.ensures c.self.inside.table c.args.id c.self.invariant.0.order.still h) ∙ ap (λ (s : State). root_of s.world c.args.id) c.self.view_is
