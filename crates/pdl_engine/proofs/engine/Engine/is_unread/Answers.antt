use Rattle.std.proofs.Common.{◌≡◌, true, sym, ◌∙◌, ap, subst}
use Rattle.pdl_world.specs.Paths.{root_of}
use Rattle.pdl_world.specs.Sound.{IsLive}
use Rattle.pdl_world.specs.World.{World}
use Rattle.pdl_nodes.specs.Row.{Row}
use Rattle.pdl_nodes.specs.Rows.{has, row_at}
use Rattle.pdl_engine.specs.State.{State, base, is_fresh}
use Rattle.pdl_engine.proofs.StateBounds.{base_are}
use Rattle.pdl_engine.proofs.StateOfWorlds.{fresh_is, live_has, root_are}
use Rattle.pdl_engine.proofs.engine.Engine.is_unread.Goals as goal

pub node-node-requires : goal.node-node-requires
node-node-requires c = record { live = live_has c.row_laws.ensures c.self.inside.table c.args.id (subst (λ (w : World). IsLive w c.args.id) (sym (ap (λ (s : State). s.world) c.self.view_is)) c.requires) }

pub returns-clause-own : goal.returns-clause-own
returns-clause-own c = λ e.
    let h : has c.self.inside.table c.args.id ≡ true = live_has c.row_laws.ensures c.self.inside.table c.args.id (subst (λ (w : World). IsLive w c.args.id) (sym (ap (λ (s : State). s.world) c.self.view_is)) c.requires) in
    ap (λ (s : State). base s.world c.args.id) (sym c.self.view_is) ∙ base_are c.row_laws.ensures c.self.inside.table c.args.id c.self.invariant.0.order.still h
    ∙ sym (c.base.ensures ∙ ap (λ (r : Row). r.base) c.node-node.ensures) ∙ c.if-base-id.false

pub returns-clause-view : goal.returns-clause-view
returns-clause-view c = λ e own.
    let h : has c.self.inside.table c.args.id ≡ true = live_has c.row_laws.ensures c.self.inside.table c.args.id (subst (λ (w : World). IsLive w c.args.id) (sym (ap (λ (s : State). s.world) c.self.view_is)) c.requires) in
    c.if-root-id.false (c.root.ensures ∙ ap (λ (r : Row). r.root) c.node-node.ensures ∙ sym (root_are c.row_laws.ensures c.self.inside.table c.args.id c.self.invariant.0.order.still h)
    ∙ ap (λ (s : State). root_of s.world c.args.id) c.self.view_is ∙ own)

pub returns-clause-stale : goal.returns-clause-stale
returns-clause-stale c = λ e.
    let h : has c.self.inside.table c.args.id ≡ true = live_has c.row_laws.ensures c.self.inside.table c.args.id (subst (λ (w : World). IsLive w c.args.id) (sym (ap (λ (s : State). s.world) c.self.view_is)) c.requires) in
    let own : (row_at c.self.inside.table c.args.id).base ≡ c.args.id = sym (c.base.ensures ∙ ap (λ (r : Row). r.base) c.node-node.ensures) ∙ c.if-base-id.false in
    ap (λ (s : State). is_fresh s c.args.id) (sym c.self.view_is) ∙ fresh_is c.row_laws.ensures c.self.inside.table c.args.id c.self.invariant.0.order.still h
    ∙ ap (λ x. (row_at c.self.inside.table x).mark) own ∙ sym (c.mark.ensures ∙ ap (λ (r : Row). r.mark) c.node-node.ensures) ∙ c.if-mark.false
