use Rattle.std.proofs.Common.{◌≡◌, true, false, sym, ◌∙◌, ap, subst}
use Rattle.pdl_shape.specs.Triple.{Triple, IsTriple}
use Rattle.pdl_world.specs.Sound.{IsLive}
use Rattle.pdl_world.specs.World.{World, has_repeats, places_in}
use Rattle.pdl_nodes.specs.Row.{Row}
use Rattle.pdl_nodes.specs.Rows.{has, row_at}
use Rattle.pdl_nodes.specs.Worlds.{places_seen, world_of}
use Rattle.pdl_engine.specs.Apart.{LiesApart}
use Rattle.pdl_engine.specs.State.{State, base}
use Rattle.pdl_engine.proofs.StateBounds.{base_are, places_are}
use Rattle.pdl_engine.proofs.ApartOnce.{once_over}
use Rattle.pdl_engine.proofs.StateOfWorlds.{live_has}
use Rattle.pdl_engine.proofs.engine.Engine.shows_once.Goals as goal

pub node-requires : goal.node-requires
node-requires c = record { live = (live_has c.row_laws.ensures c.self.inside.table c.args.id (subst (λ (w : World). IsLive w c.args.id) (sym (ap (λ (s : State). s.world) c.self.view_is)) c.requires.live)) }

pub returns : goal.returns
returns c = λ e.
    let rs = c.self.inside.table in
    let v = c.args.id in
    let facts = c.row_laws.ensures in
    let h : has rs v ≡ true = live_has facts rs v (subst (λ (w : World). IsLive w v) (sym (ap (λ (s : State). s.world) c.self.view_is)) c.requires.live) in
    let shown : c.triple.result.now ≡ (row_at rs v).triple = c.triple.ensures ∙ ap (λ (r : Row). r.triple) c.node.ensures in
    let once : has_repeats (places_seen rs (row_at rs v).base) ≡ false =
    ap has_repeats (sym (places_are facts rs (row_at rs v).base))
    ∙ ap (λ x. has_repeats (places_in (world_of rs) x)) (sym (base_are facts rs v c.self.invariant.0.order.still h))
    ∙ ap (λ (s : State). has_repeats (places_in s.world (base s.world v))) c.self.view_is ∙ sym c.base_repeats.ensures ∙ c.if-base_repeats.false in
    ap (λ (s : State). has_repeats (places_in s.world v)) (sym c.self.view_is) ∙ ap has_repeats (places_are facts rs v)
    ∙ once_over facts c.shape_laws.ensures.positions c.repeat_laws.ensures.found c.repeat_laws.ensures.repeated rs v c.self.invariant.0.order h
    (subst (λ (t : Triple). IsTriple t) shown c.lies_apart.ensures.sound) (subst (λ (t : Triple). LiesApart t) shown (c.lies_apart.ensures.apart e)) once
