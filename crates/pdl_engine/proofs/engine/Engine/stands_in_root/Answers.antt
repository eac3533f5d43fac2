use Rattle.std.proofs.Common.{◌≡◌, true, sym, ◌∙◌, ap, subst}
use Rattle.std.proofs.lemmas.Bool.{eq-eqb, eqb-true}
use Rattle.pdl_world.specs.Paths.{root_of}
use Rattle.pdl_world.specs.Sound.{IsLive}
use Rattle.pdl_world.specs.World.{World}
use Rattle.pdl_nodes.specs.Row.{Row}
use Rattle.pdl_nodes.specs.Rows.{has, row_at}
use Rattle.pdl_engine.specs.State.{State, base}
use Rattle.pdl_engine.proofs.StateBounds.{base_are}
use Rattle.pdl_engine.proofs.StateOfWorlds.{live_has, root_are}
use Rattle.pdl_engine.proofs.engine.Engine.stands_in_root.Goals as goal

pub node-node-requires : goal.node-node-requires
node-node-requires c = record { live = (live_has c.row_laws.ensures c.self.inside.table c.args.id (subst (λ (w : World). IsLive w c.args.id) (sym (ap (λ (s : State). s.world) c.self.view_is)) c.requires)) }

pub returns : goal.returns
returns c =
    let rs = c.self.inside.table in
    let v = c.args.id in
    let h : has rs v ≡ true = (live_has c.row_laws.ensures c.self.inside.table c.args.id (subst (λ (w : World). IsLive w c.args.id) (sym (ap (λ (s : State). s.world) c.self.view_is)) c.requires)) in
    let at_base : c.base.result ≡ base c.args.self.now.world v = c.base.ensures ∙ ap (λ (r : Row). r.base) c.node-node.ensures
    ∙ sym (base_are c.row_laws.ensures rs v c.self.invariant.0.order.still h) ∙ ap (λ w. base w v) (ap (λ (s : State). s.world) c.self.view_is) in
    let at_root : c.root.result ≡ root_of c.args.self.now.world v = c.root.ensures ∙ ap (λ (r : Row). r.root) c.node-node.ensures
    ∙ sym (root_are c.row_laws.ensures rs v c.self.invariant.0.order.still h) ∙ ap (λ w. root_of w v) (ap (λ (s : State). s.world) c.self.view_is) in
    (λ e. sym at_base ∙ eqb-true c.base.result c.root.result e ∙ at_root, λ e. eq-eqb c.base.result c.root.result (at_base ∙ e ∙ sym at_root))
