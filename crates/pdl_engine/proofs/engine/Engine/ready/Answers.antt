use Rattle.std.proofs.Common.{◌≡◌, true, refl, sym, ◌∙◌, ap, subst, arith}
use Rattle.std.proofs.lemmas.Result.{on_ok_weaker}
use Rattle.pdl_world.specs.Sound.{IsLive}
use Rattle.pdl_world.specs.Swept.{is_listed}
use Rattle.pdl_world.specs.World.{World}
use Rattle.pdl_nodes.specs.Outcomes.{waiting_of}
use Rattle.pdl_pull.specs.Outdated.{outdated as rows_outdated}
use Rattle.pdl_nodes.specs.Outcomes.{waiting_size as rows_waiting_size}
use Rattle.pdl_nodes.specs.Rows.{row_at, has}
use Rattle.pdl_engine.specs.State.{State, OthersWait, waiting, waiting_size, outdated}
use Rattle.pdl_engine.specs.StateOf.{state_of}
use Rattle.pdl_engine.proofs.StateBounds.{outdated_is, waiting_is, size_is}
use Rattle.pdl_engine.proofs.StateKept.{ready_engine, stay_ready, path_state}
use Rattle.pdl_engine.proofs.StateLazy.{others_wait}
use Rattle.pdl_engine.proofs.StateOfWorlds.{live_has, fresh_is, holds_alike}
use Rattle.pdl_engine.proofs.LooseTight.{tight_alike}
use Rattle.pdl_engine.proofs.engine.Engine.ready.Goals as goal

pub ready-requires-clause-live : goal.ready-requires-clause-live
ready-requires-clause-live g c = (live_has c.row_laws.ensures c.self.inside.table c.args.id (subst (λ (w : World). IsLive w c.args.id) (sym (ap (λ (s : State). s.world) c.self.view_is)) c.requires))

pub invariant_of-self : goal.invariant_of-self
invariant_of-self g c = (
  ready_engine c.row_laws.ensures c.self.inside.table c.ready.new.table c.self.inside.holds c.self.inside.next c.self.invariant.0 c.ready.ensures.ready,
  tight_alike c.self.inside.loose.items c.self.inside.table c.ready.new.table c.self.inside.holds c.ready.ensures.ready.alike c.self.invariant.1,
)

pub returns-clause-same : goal.returns-clause-same
returns-clause-same g c = record { world = c.ready.ensures.ready.world ∙ (ap (λ (s : State). s.world) c.self.view_is); holds = holds_alike c.self.inside.table c.ready.new.table c.self.inside.holds c.ready.ensures.ready.alike.numbers_are ∙ ap (λ (s : State). s.holds) c.self.view_is; next = ap (λ (s : State). s.next) c.self.view_is }

pub returns-clause-stay : goal.returns-clause-stay
returns-clause-stay g c = λ v f. stay_ready c.row_laws.ensures c.self.inside.table c.ready.new.table c.self.inside.holds c.self.inside.next c.self.invariant.0.order.still c.ready.ensures.ready.order.still c.ready.ensures.ready.alike c.ready.ensures.ready.marks v (ap (λ (s : State). is_listed s.fresh v) c.self.view_is ∙ f)

pub returns-clause-fresh : goal.returns-clause-fresh
returns-clause-fresh g c = on_ok_weaker c.ready.result (path_state c.row_laws.ensures c.ready.new.table c.self.inside.holds c.self.inside.next c.args.id c.ready.ensures.ready.order.still (c.ready.ensures.ready.alike.has_is c.args.id ∙ (live_has c.row_laws.ensures c.self.inside.table c.args.id (subst (λ (w : World). IsLive w c.args.id) (sym (ap (λ (s : State). s.world) c.self.view_is)) c.requires)))) c.ready.ensures.fresh

pub returns-clause-itself : goal.returns-clause-itself
returns-clause-itself g c = on_ok_weaker c.ready.result (λ f. fresh_is c.row_laws.ensures c.ready.new.table c.args.id c.ready.ensures.ready.order.still (c.ready.ensures.ready.alike.has_is c.args.id ∙ (live_has c.row_laws.ensures c.self.inside.table c.args.id (subst (λ (w : World). IsLive w c.args.id) (sym (ap (λ (s : State). s.world) c.self.view_is)) c.requires))) ∙ c.row_laws.ensures.seen.path_first c.ready.new.table c.args.id c.ready.ensures.ready.order.still (c.ready.ensures.ready.alike.has_is c.args.id ∙ (live_has c.row_laws.ensures c.self.inside.table c.args.id (subst (λ (w : World). IsLive w c.args.id) (sym (ap (λ (s : State). s.world) c.self.view_is)) c.requires))) f) c.ready.ensures.fresh

pub returns-clause-settled : goal.returns-clause-settled
returns-clause-settled g c = waiting_is c.row_laws.ensures c.ready.new.table c.self.inside.holds c.self.inside.next c.args.id c.ready.ensures.ready.order.still (c.ready.ensures.ready.alike.has_is c.args.id ∙ (live_has c.row_laws.ensures c.self.inside.table c.args.id (subst (λ (w : World). IsLive w c.args.id) (sym (ap (λ (s : State). s.world) c.self.view_is)) c.requires))) ∙ c.ready.ensures.settled

pub returns-clause-counted : goal.returns-clause-counted
returns-clause-counted g c =
    let l : has c.self.inside.table c.args.id ≡ true = (live_has c.row_laws.ensures c.self.inside.table c.args.id (subst (λ (w : World). IsLive w c.args.id) (sym (ap (λ (s : State). s.world) c.self.view_is)) c.requires)) in
    let a : outdated c.args.self.now c.args.id ≡ rows_outdated c.self.inside.table c.args.id = ap (λ (s : State). outdated s c.args.id) (sym c.self.view_is) ∙ outdated_is c.row_laws.ensures c.self.inside.table c.self.inside.holds c.self.inside.next c.args.id c.self.invariant.0.order.still l in
    let w : waiting c.args.self.now c.args.id ≡ waiting_of c.self.inside.table c.args.id = ap (λ (s : State). waiting s c.args.id) (sym c.self.view_is) ∙ waiting_is c.row_laws.ensures c.self.inside.table c.self.inside.holds c.self.inside.next c.args.id c.self.invariant.0.order.still l in
    let b : waiting_size c.args.self.now (waiting c.args.self.now c.args.id) ≡ rows_waiting_size c.self.inside.table (waiting_of c.self.inside.table c.args.id) =
    ap (waiting_size c.args.self.now) w ∙ ap (λ (s : State). waiting_size s (waiting_of c.self.inside.table c.args.id)) (sym c.self.view_is)
    ∙ size_is c.row_laws.ensures c.self.inside.table c.self.inside.holds c.self.inside.next (waiting_of c.self.inside.table c.args.id) c.self.invariant.0.order.still (λ u e. ((c.self.invariant.0.order.family (row_at c.self.inside.table c.args.id).root (c.row_laws.ensures.seen.root_live c.self.inside.table (row_at c.self.inside.table c.args.id).root c.args.id c.self.invariant.0.order.still l refl)).waits u e).live) in
    omega (arith, a, b, c.ready.ensures.counted)

pub returns-clause-others : goal.returns-clause-others
returns-clause-others g c = subst (λ (s : State). OthersWait s c.args.id (state_of c.ready.new.table c.self.inside.holds c.self.inside.next)) c.self.view_is (others_wait c.row_laws.ensures c.self.inside.table c.ready.new.table c.self.inside.holds c.self.inside.holds c.self.inside.next c.self.inside.next c.args.id c.self.invariant.0.order.still c.ready.ensures.ready.order.still (live_has c.row_laws.ensures c.self.inside.table c.args.id (subst (λ (w : World). IsLive w c.args.id) (sym (ap (λ (s : State). s.world) c.self.view_is)) c.requires)) c.ready.ensures.ready.alike c.ready.ensures.others)
