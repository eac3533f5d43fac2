use Rattle.std.proofs.Common.{◌≡◌, true, sym, ◌∙◌, ap, subst}
use Rattle.pdl_world.specs.Sound.{IsLive}
use Rattle.pdl_world.specs.Swept.{is_listed}
use Rattle.pdl_world.specs.World.{World, has_repeats, places_in}
use Rattle.pdl_nodes.specs.Row.{Row}
use Rattle.pdl_nodes.specs.Rows.{has, row_at}
use Rattle.pdl_nodes.specs.Worlds.{world_of}
use Rattle.pdl_engine.specs.State.{State, base}
use Rattle.pdl_engine.proofs.ApartOnce.{flag_is}
use Rattle.pdl_engine.proofs.StateBounds.{base_are, places_are}
use Rattle.pdl_engine.proofs.StateOfWorlds.{live_has, fresh_is}
use Rattle.pdl_engine.proofs.engine.Engine.base_repeats.Goals as goal

pub node-node-requires : goal.node-node-requires
node-node-requires c = record { live = (live_has c.row_laws.ensures c.self.inside.table c.args.id (subst (λ (w : World). IsLive w c.args.id) (sym (ap (λ (s : State). s.world) c.self.view_is)) c.requires.live)) }

pub base_of-base-requires-clause-live : goal.base_of-base-requires-clause-live
base_of-base-requires-clause-live c = c.row_laws.ensures.seen.base_live c.self.inside.table c.node-node.result.now.base c.args.id c.self.invariant.0.order.still (live_has c.row_laws.ensures c.self.inside.table c.args.id (subst (λ (w : World). IsLive w c.args.id) (sym (ap (λ (s : State). s.world) c.self.view_is)) c.requires.live)) (sym (ap (λ (r : Row). r.base) c.node-node.ensures))

pub returns : goal.returns
returns c =
    let rs = c.self.inside.table in
    let v = c.args.id in
    let h : has rs v ≡ true = live_has c.row_laws.ensures rs v (subst (λ (w : World). IsLive w v) (sym (ap (λ (s : State). s.world) c.self.view_is)) c.requires.live) in
    let b = (row_at rs v).base in
    let m : (row_at rs b).mark ≡ true = sym (fresh_is c.row_laws.ensures rs v c.self.invariant.0.order.still h) ∙ ap (λ (s : State). is_listed s.fresh v) c.self.view_is ∙ c.requires.fresh in
    c.repeats.ensures ∙ ap (λ (r : Row). r.repeats) c.base_of-base.ensures ∙ ap (λ x. (row_at rs x).repeats) (ap (λ (r : Row). r.base) c.node-node.ensures)
    ∙ flag_is c.row_laws.ensures rs v c.self.invariant.0.order h m
    ∙ ap has_repeats (sym (places_are c.row_laws.ensures rs b))
    ∙ ap (λ x. has_repeats (places_in (world_of rs) x)) (sym (base_are c.row_laws.ensures rs v c.self.invariant.0.order.still h))
    ∙ ap (λ (s : State). has_repeats (places_in s.world (base s.world v))) c.self.view_is
