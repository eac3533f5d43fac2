use Rattle.std.proofs.Common.{◌≡◌, ◌+◌, true, length, sym, ◌∙◌, ap, subst, arith}
use Rattle.std.proofs.lemmas.Result.{IfOk-weaker}
use Rattle.pdl_shape.specs.Shape.{size_of}
use Rattle.pdl_numbers.specs.Typed.{TypedElements}
use Rattle.pdl_world.specs.Paths.{root_of}
use Rattle.pdl_world.specs.Sound.{IsLive}
use Rattle.pdl_world.specs.Swept.{is_listed}
use Rattle.pdl_world.specs.World.{dims_in, elements, ty_in}
use Rattle.pdl_nodes.specs.Outcomes.{waiting_of}
use Rattle.pdl_nodes.specs.Outcomes.{waiting_size as rows_waiting_size}
use Rattle.pdl_nodes.specs.Rows.{has, row_at}
use Rattle.pdl_pull.specs.Outdated.{outdated as rows_outdated}
use Rattle.pdl_engine.specs.State.{State, OthersWait, StayFresh, base, outdated, waiting, waiting_size}
use Rattle.pdl_engine.specs.StateOf.{state_of}
use Rattle.pdl_engine.proofs.LooseTight.{tight_alike}
use Rattle.pdl_engine.proofs.SeveredRenews.{elements_count}
use Rattle.pdl_engine.proofs.SeveredStates.{steps_are}
use Rattle.pdl_engine.proofs.StateBounds.{base_are, waiting_is}
use Rattle.pdl_engine.proofs.StateKept.{ready_engine, stay_ready}
use Rattle.pdl_engine.proofs.StateLazy.{others_wait}
use Rattle.pdl_engine.proofs.StateOfWorlds.{fresh_is, holds_alike, live_has, root_are}
use Rattle.pdl_engine.proofs.TypedResults.{made_of}
use Rattle.pdl_engine.proofs.engine.Engine.gathered.Goals as goal

pub gathered-requires-clause-live : goal.gathered-requires-clause-live
gathered-requires-clause-live g c = live_has c.row_laws.ensures c.self.inside.table c.args.id (subst (λ (s : State). IsLive s.world c.args.id) (sym c.self.view_is) c.requires.live)

pub gathered-requires-clause-unmarked : goal.gathered-requires-clause-unmarked
gathered-requires-clause-unmarked g c =
    let t = c.self.inside.table in
    let v = c.args.id in
    let facts = c.row_laws.ensures in
    let h : has t v ≡ true = live_has facts t v (subst (λ (s : State). IsLive s.world v) (sym c.self.view_is) c.requires.live) in
    let own : (row_at t v).base ≡ v = sym (base_are facts t v c.self.invariant.0.order.still h) ∙ ap (λ (s : State). base s.world v) c.self.view_is ∙ c.requires.own in
    record {
      own = own;
      view = λ e. c.requires.view (ap (λ (s : State). root_of s.world v) (sym c.self.view_is) ∙ root_are facts t v c.self.invariant.0.order.still h ∙ e);
      mark = ap (λ x. (row_at t x).mark) (sym own) ∙ sym (fresh_is facts t v c.self.invariant.0.order.still h) ∙ ap (λ (s : State). is_listed s.fresh v) c.self.view_is ∙ c.requires.stale;
    }

pub invariant_of-self : goal.invariant_of-self
invariant_of-self g c = (
  ready_engine c.row_laws.ensures c.self.inside.table c.gathered.new.table c.self.inside.holds c.self.inside.next c.self.invariant.0 c.gathered.ensures.ready,
  tight_alike c.self.inside.loose.items c.self.inside.table c.gathered.new.table c.self.inside.holds c.gathered.ensures.ready.alike c.self.invariant.1,
)

pub returns-clause-value : goal.returns-clause-value
returns-clause-value g c =
    let t = c.self.inside.table in
    let v = c.args.id in
    let h : has t v ≡ true = live_has c.row_laws.ensures t v (subst (λ (s : State). IsLive s.world v) (sym c.self.view_is) c.requires.live) in
    made_of c.gathered.result _ _ _ _ (sym (c.row_laws.ensures.seen.ty_are t v c.self.invariant.0.order.still h) ∙ ap (λ (s : State). ty_in s.world v) c.self.view_is)
    (ap (λ (s : State). elements s.world v) c.self.view_is) c.gathered.ensures.value

pub returns-clause-count : goal.returns-clause-count
returns-clause-count g c =
    let t = c.self.inside.table in
    let v = c.args.id in
    let h : has t v ≡ true = live_has c.row_laws.ensures t v (subst (λ (s : State). IsLive s.world v) (sym c.self.view_is) c.requires.live) in
    IfOk-weaker c.gathered.result _ _ (λ (b : TypedElements) e. ap (λ (k : TypedElements). length k.elems) e ∙ elements_count c.row_laws.ensures t v c.self.invariant.0.order.still h
    ∙ ap size_of (sym (c.row_laws.ensures.seen.dims_are t v c.self.invariant.0.order.still h) ∙ ap (λ (s : State). dims_in s.world v) c.self.view_is)) c.gathered.ensures.value

pub returns-clause-same : goal.returns-clause-same
returns-clause-same g c = record {
  world = c.gathered.ensures.ready.world ∙ ap (λ (s : State). s.world) c.self.view_is;
  holds = holds_alike c.self.inside.table c.gathered.new.table c.self.inside.holds c.gathered.ensures.ready.alike.numbers_are ∙ ap (λ (s : State). s.holds) c.self.view_is;
  next = ap (λ (s : State). s.next) c.self.view_is;
}

pub returns-clause-stay : goal.returns-clause-stay
returns-clause-stay g c =
    subst (λ (s : State). StayFresh s (state_of c.gathered.new.table c.self.inside.holds c.self.inside.next)) c.self.view_is
    (stay_ready c.row_laws.ensures c.self.inside.table c.gathered.new.table c.self.inside.holds c.self.inside.next c.self.invariant.0.order.still c.gathered.ensures.ready.order.still c.gathered.ensures.ready.alike c.gathered.ensures.ready.marks)

pub returns-clause-settled : goal.returns-clause-settled
returns-clause-settled g c =
    waiting_is c.row_laws.ensures c.gathered.new.table c.self.inside.holds c.self.inside.next c.args.id c.gathered.ensures.ready.order.still
    (c.gathered.ensures.ready.alike.has_is c.args.id ∙ live_has c.row_laws.ensures c.self.inside.table c.args.id (subst (λ (s : State). IsLive s.world c.args.id) (sym c.self.view_is) c.requires.live)) ∙ c.gathered.ensures.settled

pub returns-clause-others : goal.returns-clause-others
returns-clause-others g c = subst (λ (s : State). OthersWait s c.args.id (state_of c.gathered.new.table c.self.inside.holds c.self.inside.next)) c.self.view_is
    (others_wait c.row_laws.ensures c.self.inside.table c.gathered.new.table c.self.inside.holds c.self.inside.holds c.self.inside.next c.self.inside.next c.args.id c.self.invariant.0.order.still c.gathered.ensures.ready.order.still
    (live_has c.row_laws.ensures c.self.inside.table c.args.id (subst (λ (s : State). IsLive s.world c.args.id) (sym c.self.view_is) c.requires.live)) c.gathered.ensures.ready.alike c.gathered.ensures.others)

pub returns-clause-counted : goal.returns-clause-counted
returns-clause-counted g c =
    let h : has c.self.inside.table c.args.id ≡ true = live_has c.row_laws.ensures c.self.inside.table c.args.id (subst (λ (s : State). IsLive s.world c.args.id) (sym c.self.view_is) c.requires.live) in
    let a : rows_outdated c.self.inside.table c.args.id + rows_waiting_size c.self.inside.table (waiting_of c.self.inside.table c.args.id) ≡ outdated c.args.self.now c.args.id + waiting_size c.args.self.now (waiting c.args.self.now c.args.id) =
    steps_are c.row_laws.ensures c.self.inside.table c.self.inside.holds c.self.inside.next c.args.id c.self.invariant.0 h ∙ ap (λ (s : State). outdated s c.args.id + waiting_size s (waiting s c.args.id)) c.self.view_is in
    omega (arith, a, c.gathered.ensures.counted)
