use Rattle.std.proofs.Common.{◌≡◌, true, sym, ◌∙◌, ap, subst}
use Rattle.pdl_world.specs.Paths.{root_of}
use Rattle.pdl_world.specs.Sound.{IsLive}
use Rattle.pdl_world.specs.World.{World}
use Rattle.pdl_nodes.specs.Row.{Row}
use Rattle.pdl_nodes.specs.Rows.{has}
use Rattle.pdl_engine.specs.State.{State}
use Rattle.pdl_engine.proofs.ForesightLemmas.{roots_differ}
use Rattle.pdl_engine.proofs.StateOfWorlds.{live_has, root_are}
use Rattle.pdl_engine.proofs.engine.Engine.is_apart.Goals as goal

pub node-requires : goal.node-requires
node-requires c = record { live = (live_has c.row_laws.ensures c.self.inside.table c.args.seen (subst (λ (w : World). IsLive w c.args.seen) (sym (ap (λ (s : State). s.world) c.self.view_is)) c.requires)) }

pub returns : goal.returns
returns c =
    let h : has c.self.inside.table c.args.seen ≡ true = live_has c.row_laws.ensures c.self.inside.table c.args.seen (subst (λ (w : World). IsLive w c.args.seen) (sym (ap (λ (s : State). s.world) c.self.view_is)) c.requires) in
    roots_differ c.root.result c.root-2.result (root_of c.args.self.now.world c.args.seen) c.args.foresight.now.root
    (c.root.ensures ∙ ap (λ (r : Row). r.root) c.node.ensures ∙ sym (root_are c.row_laws.ensures c.self.inside.table c.args.seen c.self.invariant.0.order.still h) ∙ ap (λ (s : State). root_of s.world c.args.seen) c.self.view_is)
    c.root-2.ensures
