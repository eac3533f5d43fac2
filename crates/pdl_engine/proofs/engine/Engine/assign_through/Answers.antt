use Rattle.std.proofs.Common.{◌≡◌, ◌+◌, true, sym, ◌∙◌, ap, subst, arith}
use Rattle.std.proofs.lemmas.Result.{on_err_weaker, on_ok_weaker}
use Rattle.pdl_shape.specs.Shape.{size_of}
use Rattle.pdl_world.specs.Paths.{root_of}
use Rattle.pdl_world.specs.Sound.{IsLive}
use Rattle.pdl_world.specs.Swept.{is_listed}
use Rattle.pdl_world.specs.World.{assign, dims_in, elements, ty_in}
use Rattle.pdl_nodes.specs.Outcomes.{waiting_of}
use Rattle.pdl_nodes.specs.Outcomes.{waiting_size as rows_waiting_size}
use Rattle.pdl_nodes.specs.Rows.{has, row_at}
use Rattle.pdl_pull.specs.Outdated.{outdated as rows_outdated}
use Rattle.pdl_engine.specs.State.{State, OthersWait, StayFresh, base, outdated, waiting, waiting_size}
use Rattle.pdl_engine.specs.StateOf.{fresh_among, state_of}
use Rattle.pdl_engine.proofs.LooseTight.{tight_alike}
use Rattle.pdl_engine.proofs.SeveredStates.{steps_are}
use Rattle.pdl_engine.proofs.StateBounds.{base_are, waiting_is}
use Rattle.pdl_engine.proofs.StateKept.{below_alike, beside_alike, others_lent, stay_ready}
use Rattle.pdl_engine.proofs.StateLazy.{others_wait}
use Rattle.pdl_engine.proofs.StateOfWorlds.{fresh_is, fresh_live, holds_alike, live_has, root_are}
use Rattle.pdl_engine.proofs.engine.Engine.assign_through.Goals as goal

pub assign_through-requires-clause-can : goal.assign_through-requires-clause-can
assign_through-requires-clause-can g c =
    let t = c.self.inside.table in
    let v = c.args.id in
    let u = c.args.source in
    let facts = c.row_laws.ensures in
    let h : has t v ≡ true = live_has facts t v (subst (λ (s : State). IsLive s.world v) (sym c.self.view_is) c.requires.live) in
    let i : has t u ≡ true = live_has facts t u (subst (λ (s : State). IsLive s.world u) (sym c.self.view_is) c.requires.source) in
    record {
      order = c.self.invariant.0.order;
      known = c.self.invariant.0.known;
      sound = c.self.invariant.0.sound;
      live = h;
      source = i;
      fresh = sym (fresh_is facts t u c.self.invariant.0.order.still i) ∙ ap (λ (s : State). is_listed s.fresh u) c.self.view_is ∙ c.requires.source_fresh;
      apart = λ e. c.requires.apart (ap (λ (s : State). root_of s.world u) (sym c.self.view_is) ∙ root_are facts t u c.self.invariant.0.order.still i ∙ e
          ∙ sym (root_are facts t v c.self.invariant.0.order.still h) ∙ ap (λ (s : State). root_of s.world v) c.self.view_is);
      same_type = sym (facts.seen.ty_are t u c.self.invariant.0.order.still i) ∙ ap (λ (s : State). ty_in s.world u) c.self.view_is ∙ c.requires.same_type
          ∙ ap (λ (s : State). ty_in s.world v) (sym c.self.view_is) ∙ facts.seen.ty_are t v c.self.invariant.0.order.still h;
      count = ap size_of (sym (facts.seen.dims_are t u c.self.invariant.0.order.still i) ∙ ap (λ (s : State). dims_in s.world u) c.self.view_is ∙ c.requires.same_dims
          ∙ ap (λ (s : State). dims_in s.world v) (sym c.self.view_is) ∙ facts.seen.dims_are t v c.self.invariant.0.order.still h);
    }

pub assign_through-requires-clause-unmarked : goal.assign_through-requires-clause-unmarked
assign_through-requires-clause-unmarked g c =
    let t = c.self.inside.table in
    let v = c.args.id in
    let facts = c.row_laws.ensures in
    let h : has t v ≡ true = live_has facts t v (subst (λ (s : State). IsLive s.world v) (sym c.self.view_is) c.requires.live) in
    let own : (row_at t v).base ≡ v = sym (base_are facts t v c.self.invariant.0.order.still h) ∙ ap (λ (s : State). base s.world v) c.self.view_is ∙ c.requires.own in
    record {
      own = own;
      view = λ e. c.requires.view (ap (λ (s : State). root_of s.world v) (sym c.self.view_is) ∙ root_are facts t v c.self.invariant.0.order.still h ∙ e);
      mark = ap (λ x. (row_at t x).mark) (sym own) ∙ sym (fresh_is facts t v c.self.invariant.0.order.still h) ∙ ap (λ (s : State). is_listed s.fresh v) c.self.view_is ∙ c.requires.stale;
    }

pub invariant_of-self : goal.invariant_of-self
invariant_of-self g c = (
  record {
    order = c.assign_through.ensures.order;
    known = c.assign_through.ensures.known;
    sized = c.row_laws.ensures.kept.sized_alike c.self.inside.table c.assign_through.new.table c.self.invariant.0.order.still c.assign_through.ensures.order.still c.assign_through.ensures.alike c.self.invariant.0.sized;
    sound = c.assign_through.ensures.sound;
    beside = beside_alike c.self.inside.table c.assign_through.new.table c.self.inside.holds c.assign_through.ensures.alike c.self.invariant.0.beside;
    below = below_alike c.self.inside.table c.assign_through.new.table c.self.inside.next c.assign_through.ensures.alike.numbers_are c.self.invariant.0.below;
    room = c.self.invariant.0.room;
  },
  tight_alike c.self.inside.loose.items c.self.inside.table c.assign_through.new.table c.self.inside.holds c.assign_through.ensures.alike c.self.invariant.1,
)

pub returns-clause-world : goal.returns-clause-world
returns-clause-world g c = on_ok_weaker c.assign_through.result (λ e. e ∙ ap (λ (s : State). assign s.world c.args.id (elements s.world c.args.source)) c.self.view_is) c.assign_through.ensures.world

pub returns-clause-holds : goal.returns-clause-holds
returns-clause-holds g c = holds_alike c.self.inside.table c.assign_through.new.table c.self.inside.holds c.assign_through.ensures.alike.numbers_are ∙ ap (λ (s : State). s.holds) c.self.view_is

pub returns-clause-next : goal.returns-clause-next
returns-clause-next g c = ap (λ (s : State). s.next) c.self.view_is

pub returns-clause-same : goal.returns-clause-same
returns-clause-same g c = on_err_weaker c.assign_through.result (λ r. record { world = r.world ∙ ap (λ (s : State). s.world) c.self.view_is; holds = returns-clause-holds g c; next = returns-clause-next g c }) c.assign_through.ensures.ready

pub returns-clause-stay : goal.returns-clause-stay
returns-clause-stay g c = on_err_weaker c.assign_through.result (λ r.
    subst (λ (s : State). StayFresh s (state_of c.assign_through.new.table c.self.inside.holds c.self.inside.next)) c.self.view_is
    (stay_ready c.row_laws.ensures c.self.inside.table c.assign_through.new.table c.self.inside.holds c.self.inside.next c.self.invariant.0.order.still r.order.still r.alike r.marks)) c.assign_through.ensures.ready

pub returns-clause-others : goal.returns-clause-others
returns-clause-others g c = λ u n f.
    let t = c.self.inside.table in
    let facts = c.row_laws.ensures in
    let h : is_listed (fresh_among t t) u ≡ true = ap (λ (s : State). is_listed s.fresh u) c.self.view_is ∙ f in
    let l : has t u ≡ true = fresh_live t u h in
    let i : has t c.args.id ≡ true = live_has facts t c.args.id (subst (λ (s : State). IsLive s.world c.args.id) (sym c.self.view_is) c.requires.live) in
    fresh_is facts c.assign_through.new.table u c.assign_through.ensures.order.still (c.assign_through.ensures.alike.has_is u ∙ l)
    ∙ others_lent facts t c.assign_through.new.table c.args.id u c.self.invariant.0.order.still c.assign_through.ensures.alike c.assign_through.ensures.marks l
    (λ e. n (ap (λ (s : State). root_of s.world u) (sym c.self.view_is) ∙ root_are facts t u c.self.invariant.0.order.still l ∙ e ∙ sym (root_are facts t c.args.id c.self.invariant.0.order.still i) ∙ ap (λ (s : State). root_of s.world c.args.id) c.self.view_is))
    (sym (fresh_is facts t u c.self.invariant.0.order.still l) ∙ h)

pub returns-clause-settled : goal.returns-clause-settled
returns-clause-settled g c =
    waiting_is c.row_laws.ensures c.assign_through.new.table c.self.inside.holds c.self.inside.next c.args.id c.assign_through.ensures.order.still
    (c.assign_through.ensures.alike.has_is c.args.id ∙ live_has c.row_laws.ensures c.self.inside.table c.args.id (subst (λ (s : State). IsLive s.world c.args.id) (sym c.self.view_is) c.requires.live)) ∙ c.assign_through.ensures.settled

pub returns-clause-waits : goal.returns-clause-waits
returns-clause-waits g c = subst (λ (s : State). OthersWait s c.args.id (state_of c.assign_through.new.table c.self.inside.holds c.self.inside.next)) c.self.view_is
    (others_wait c.row_laws.ensures c.self.inside.table c.assign_through.new.table c.self.inside.holds c.self.inside.holds c.self.inside.next c.self.inside.next c.args.id c.self.invariant.0.order.still c.assign_through.ensures.order.still
    (live_has c.row_laws.ensures c.self.inside.table c.args.id (subst (λ (s : State). IsLive s.world c.args.id) (sym c.self.view_is) c.requires.live)) c.assign_through.ensures.alike c.assign_through.ensures.others)

pub returns-clause-sound : goal.returns-clause-sound
returns-clause-sound g c = c.assign_through.ensures.sound

pub returns-clause-counted : goal.returns-clause-counted
returns-clause-counted g c =
    let h : has c.self.inside.table c.args.id ≡ true = live_has c.row_laws.ensures c.self.inside.table c.args.id (subst (λ (s : State). IsLive s.world c.args.id) (sym c.self.view_is) c.requires.live) in
    let a : rows_outdated c.self.inside.table c.args.id + rows_waiting_size c.self.inside.table (waiting_of c.self.inside.table c.args.id) ≡ outdated c.args.self.now c.args.id + waiting_size c.args.self.now (waiting c.args.self.now c.args.id) =
    steps_are c.row_laws.ensures c.self.inside.table c.self.inside.holds c.self.inside.next c.args.id c.self.invariant.0 h ∙ ap (λ (s : State). outdated s c.args.id + waiting_size s (waiting s c.args.id)) c.self.view_is in
    omega (arith, a, c.assign_through.ensures.counted)
