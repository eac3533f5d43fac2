use Rattle.std.proofs.Common.{◌≡◌, true, sym, ◌∙◌, ap, subst}
use Rattle.std.specs.Prelude.{Some}
use Rattle.pdl_world.specs.Paths.{root_of}
use Rattle.pdl_world.specs.Sound.{IsLive}
use Rattle.pdl_world.specs.Swept.{is_listed}
use Rattle.pdl_world.specs.World.{World}
use Rattle.pdl_nodes.specs.Rows.{has}
use Rattle.pdl_engine.specs.Foresights.{Foretells, IsForeseen}
use Rattle.pdl_engine.specs.State.{State}
use Rattle.pdl_engine.proofs.StateOfWorlds.{live_has, fresh_is, root_are}
use Rattle.pdl_engine.proofs.engine.Engine.foreseen_now.Goals as goal

pub foresee-requires-clause-order : goal.foresee-requires-clause-order
foresee-requires-clause-order c = c.self.invariant.0.order

pub foresee-requires-clause-known : goal.foresee-requires-clause-known
foresee-requires-clause-known c = c.self.invariant.0.known

pub foresee-requires-clause-sound : goal.foresee-requires-clause-sound
foresee-requires-clause-sound c = c.self.invariant.0.sound

pub foresee-requires-clause-live : goal.foresee-requires-clause-live
foresee-requires-clause-live c = live_has c.row_laws.ensures c.self.inside.table c.args.seen (subst (λ (w : World). IsLive w c.args.seen) (sym (ap (λ (s : State). s.world) c.self.view_is)) c.requires.live)

pub foresee-requires-clause-fresh : goal.foresee-requires-clause-fresh
foresee-requires-clause-fresh c =
    let u : has c.self.inside.table c.args.seen ≡ true = live_has c.row_laws.ensures c.self.inside.table c.args.seen (subst (λ (w : World). IsLive w c.args.seen) (sym (ap (λ (s : State). s.world) c.self.view_is)) c.requires.live) in
    sym (fresh_is c.row_laws.ensures c.self.inside.table c.args.seen c.self.invariant.0.order.still u) ∙ ap (λ (s : State). is_listed s.fresh c.args.seen) c.self.view_is ∙ c.requires.fresh

pub foresee-requires-clause-family : goal.foresee-requires-clause-family
foresee-requires-clause-family c =
    let u : has c.self.inside.table c.args.seen ≡ true = live_has c.row_laws.ensures c.self.inside.table c.args.seen (subst (λ (w : World). IsLive w c.args.seen) (sym (ap (λ (s : State). s.world) c.self.view_is)) c.requires.live) in
    sym c.requires.family ∙ ap (λ (s : State). root_of s.world c.args.seen) (sym c.self.view_is) ∙ root_are c.row_laws.ensures c.self.inside.table c.args.seen c.self.invariant.0.order.still u

pub returns-clause-value : goal.returns-clause-value
returns-clause-value c = λ v vs told.
    subst (λ (w : World). IsForeseen w v vs c.args.seen (Some c.in_ok-found.found)) (ap (λ (s : State). s.world) c.self.view_is)
    (c.in_ok-found.ensures.value v vs (subst (λ (w : World). Foretells w v vs c.args.foresight.now) (sym (ap (λ (s : State). s.world) c.self.view_is)) told))
