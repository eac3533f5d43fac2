use Rattle.std.proofs.Common.{◌≡◌, true, false, Some, refl, sym, ◌∙◌, ap, subst}
use Rattle.pdl_numbers.specs.Typed.{TypedElements}
use Rattle.pdl_world.specs.Sound.{IsLive}
use Rattle.pdl_world.specs.World.{World}
use Rattle.pdl_nodes.specs.Row.{Row}
use Rattle.pdl_nodes.specs.Rows.{row_at}
use Rattle.pdl_engine.specs.State.{State, is_fresh, shown_in}
use Rattle.pdl_engine.proofs.RowsLent.{lent_reaches, lent_window}
use Rattle.pdl_engine.proofs.StateOfWorlds.{live_has, fresh_is}
use Rattle.pdl_engine.proofs.engine.Engine.try_lend.Goals as goal

pub node-node-requires : goal.node-node-requires
node-node-requires c = record { live = (live_has c.row_laws.ensures c.self.inside.table c.args.id (subst (λ (w : World). IsLive w c.args.id) (sym (ap (λ (s : State). s.world) c.self.view_is)) c.requires)) }

pub base_of-base-requires-clause-live : goal.base_of-base-requires-clause-live
base_of-base-requires-clause-live c = c.row_laws.ensures.seen.base_live c.self.inside.table c.node-node.result.now.base c.args.id c.self.invariant.0.order.still (live_has c.row_laws.ensures c.self.inside.table c.args.id (subst (λ (w : World). IsLive w c.args.id) (sym (ap (λ (s : State). s.world) c.self.view_is)) c.requires)) (sym (ap (λ (r : Row). r.base) c.node-node.ensures))

pub kept-requires : goal.kept-requires
kept-requires c = c.row_laws.ensures.seen.mark_buffered c.base_of-base.result.now (ap (λ (r : Row). r.mark) c.base_of-base.ensures ∙ ap (λ x. (row_at c.self.inside.table x).mark) (ap (λ (r : Row). r.base) c.node-node.ensures) ∙ (sym (c.mark.ensures ∙ ap (λ (r : Row). r.mark) c.base_of-base.ensures ∙ ap (λ x. (row_at c.self.inside.table x).mark) (ap (λ (r : Row). r.base) c.node-node.ensures)) ∙ c.if-not-mark.false))

pub strided-requires : goal.strided-requires
strided-requires c = lent_reaches c.row_laws.ensures c.shape_laws.ensures.positions c.self.inside.table c.args.id c.triple.result.now c.kept.result.now.elems c.self.invariant.0.order (live_has c.row_laws.ensures c.self.inside.table c.args.id (subst (λ (w : World). IsLive w c.args.id) (sym (ap (λ (s : State). s.world) c.self.view_is)) c.requires)) (sym (c.mark.ensures ∙ ap (λ (r : Row). r.mark) c.base_of-base.ensures ∙ ap (λ x. (row_at c.self.inside.table x).mark) (ap (λ (r : Row). r.base) c.node-node.ensures)) ∙ c.if-not-mark.false) (c.triple.ensures ∙ ap (λ (r : Row). r.triple) c.node-node.ensures) (ap (λ (k : TypedElements). k.elems) c.kept.ensures ∙ ap (λ (r : Row). r.kept) c.base_of-base.ensures ∙ ap (λ x. (row_at c.self.inside.table x).kept) (ap (λ (r : Row). r.base) c.node-node.ensures))

-- whether it can be lent
pub returns-then-not-mark : goal.returns-then-not-mark
returns-then-not-mark c =
    let fresh : is_fresh c.args.self.now c.args.id ≡ false = sym (ap (λ (s : State). is_fresh s c.args.id) c.self.view_is) ∙ fresh_is c.row_laws.ensures c.self.inside.table c.args.id c.self.invariant.0.order.still (live_has c.row_laws.ensures c.self.inside.table c.args.id (subst (λ (w : World). IsLive w c.args.id) (sym (ap (λ (s : State). s.world) c.self.view_is)) c.requires)) ∙ sym (c.mark.ensures ∙ ap (λ (r : Row). r.mark) c.base_of-base.ensures ∙ ap (λ x. (row_at c.self.inside.table x).mark) (ap (λ (r : Row). r.base) c.node-node.ensures)) ∙ c.if-not-mark.true in
    rw fresh refl

pub returns : goal.returns
returns c =
    let fresh : is_fresh c.args.self.now c.args.id ≡ true = sym (ap (λ (s : State). is_fresh s c.args.id) c.self.view_is) ∙ fresh_is c.row_laws.ensures c.self.inside.table c.args.id c.self.invariant.0.order.still (live_has c.row_laws.ensures c.self.inside.table c.args.id (subst (λ (w : World). IsLive w c.args.id) (sym (ap (λ (s : State). s.world) c.self.view_is)) c.requires)) ∙ sym (c.mark.ensures ∙ ap (λ (r : Row). r.mark) c.base_of-base.ensures ∙ ap (λ x. (row_at c.self.inside.table x).mark) (ap (λ (r : Row). r.base) c.node-node.ensures)) ∙ c.if-not-mark.false in
    rw fresh (ap Some (c.strided.ensures.window ∙ lent_window c.row_laws.ensures c.self.inside.table c.args.id c.triple.result.now c.kept.result.now c.self.invariant.0.order (live_has c.row_laws.ensures c.self.inside.table c.args.id (subst (λ (w : World). IsLive w c.args.id) (sym (ap (λ (s : State). s.world) c.self.view_is)) c.requires)) (sym (c.mark.ensures ∙ ap (λ (r : Row). r.mark) c.base_of-base.ensures ∙ ap (λ x. (row_at c.self.inside.table x).mark) (ap (λ (r : Row). r.base) c.node-node.ensures)) ∙ c.if-not-mark.false) (c.triple.ensures ∙ ap (λ (r : Row). r.triple) c.node-node.ensures) (ap (λ (k : TypedElements). k.ty) c.kept.ensures ∙ ap (λ (r : Row). r.ty) c.base_of-base.ensures ∙ ap (λ x. (row_at c.self.inside.table x).ty) (ap (λ (r : Row). r.base) c.node-node.ensures)) (ap (λ (k : TypedElements). k.elems) c.kept.ensures ∙ ap (λ (r : Row). r.kept) c.base_of-base.ensures ∙ ap (λ x. (row_at c.self.inside.table x).kept) (ap (λ (r : Row). r.base) c.node-node.ensures)) ∙ ap (λ (s : State). shown_in s c.args.id) c.self.view_is))
