use Rattle.std.proofs.Common.{◌≡◌, ◌+◌, true, sym, ◌∙◌, ap, subst, arith}
use Rattle.std.proofs.lemmas.Result.{on_err_weaker, on_ok_weaker}
use Rattle.pdl_shape.specs.Shape.{size_of}
use Rattle.pdl_world.specs.Cut.{sever}
use Rattle.pdl_world.specs.Paths.{root_of}
use Rattle.pdl_world.specs.Sound.{IsLive}
use Rattle.pdl_world.specs.World.{dims_in}
use Rattle.pdl_nodes.specs.Outcomes.{waiting_of}
use Rattle.pdl_pull.specs.Outdated.{outdated as rows_outdated}
use Rattle.pdl_nodes.specs.Outcomes.{waiting_size as rows_waiting_size}
use Rattle.pdl_nodes.specs.Rows.{Rows, has, row_at}
use Rattle.pdl_engine.specs.Held.{ChangesFamily, FamilyIsSettled}
use Rattle.pdl_engine.specs.State.{State, StayFresh, outdated, waiting, waiting_size}
use Rattle.pdl_engine.specs.StateOf.{state_of}
use Rattle.pdl_engine.proofs.SeveredStates.{changed_engine, changed_settled, changed_state, refused_fresh, rooted_bases, root_fresh, steps_are, severed_sound}
use Rattle.pdl_engine.proofs.StateOfWorlds.{live_has, root_are}
use Rattle.pdl_engine.proofs.LooseTight.{tight_severed}
use Rattle.pdl_engine.proofs.engine.Engine.sever.Goals as goal

pub sever-requires-clause-live : goal.sever-requires-clause-live
sever-requires-clause-live g c = live_has c.row_laws.ensures c.self.inside.table c.args.id (subst (λ (s : State). IsLive s.world c.args.id) (sym c.self.view_is) c.requires)

pub invariant_of-self : goal.invariant_of-self
invariant_of-self g c = (
  changed_engine c.self.inside.table c.sever.new.table c.self.inside.holds c.self.inside.next c.args.id c.self.invariant.0 c.sever.ensures.severed
      (severed_sound c.cut_laws.ensures.sound c.self.inside.table c.sever.new.table c.args.id c.sever.result c.self.invariant.0.sound c.sever.ensures.ok c.sever.ensures.err),
  tight_severed c.row_laws.ensures c.self.inside.table c.sever.new.table c.args.id c.self.inside.loose.items c.sever.new.loose.items c.self.inside.holds c.sever.result c.self.invariant.0.order.still
      (live_has c.row_laws.ensures c.self.inside.table c.args.id (subst (λ (s : State). IsLive s.world c.args.id) (sym c.self.view_is) c.requires))
      c.sever.ensures.severed c.sever.ensures.root c.sever.ensures.listed c.sever.ensures.unlisted c.sever.ensures.ok c.sever.ensures.err c.self.invariant.1,
)

pub returns-clause-ok : goal.returns-clause-ok
returns-clause-ok g c = on_ok_weaker c.sever.result (λ e. e ∙ ap (λ (s : State). sever s.world c.args.id) c.self.view_is) c.sever.ensures.ok

pub returns-clause-err : goal.returns-clause-err
returns-clause-err g c = on_err_weaker c.sever.result (λ e. e ∙ ap (λ (s : State). s.world) c.self.view_is) c.sever.ensures.err

pub returns-clause-family : goal.returns-clause-family
returns-clause-family g c =
    subst (λ (s : State). ChangesFamily s c.args.id (state_of c.sever.new.table c.self.inside.holds c.self.inside.next)) c.self.view_is
    (changed_state c.row_laws.ensures c.self.inside.table c.sever.new.table c.self.inside.holds c.self.inside.next c.args.id c.self.invariant.0
    (live_has c.row_laws.ensures c.self.inside.table c.args.id (subst (λ (s : State). IsLive s.world c.args.id) (sym c.self.view_is) c.requires)) c.sever.ensures.severed)

pub returns-clause-stay : goal.returns-clause-stay
returns-clause-stay g c = on_err_weaker c.sever.result (λ f. subst (λ (s : State). StayFresh s (state_of c.sever.new.table c.self.inside.holds c.self.inside.next)) c.self.view_is
    (refused_fresh c.row_laws.ensures c.self.inside.table c.sever.new.table c.self.inside.holds c.self.inside.next c.args.id c.self.invariant.0 c.sever.ensures.severed f)) c.sever.ensures.stay

pub returns-clause-fresh : goal.returns-clause-fresh
returns-clause-fresh g c = on_ok_weaker c.sever.result (λ f d. root_fresh c.row_laws.ensures c.self.inside.table c.sever.new.table c.self.inside.holds c.self.inside.next c.args.id c.self.invariant.0
    (live_has c.row_laws.ensures c.self.inside.table c.args.id (subst (λ (s : State). IsLive s.world c.args.id) (sym c.self.view_is) c.requires)) c.sever.ensures.severed f (λ q. d (ap (λ (s : State). root_of s.world c.args.id) (sym c.self.view_is) ∙ q))) c.sever.ensures.fresh

pub returns-clause-counted : goal.returns-clause-counted
returns-clause-counted g c =
    let h : has c.self.inside.table c.args.id ≡ true = live_has c.row_laws.ensures c.self.inside.table c.args.id (subst (λ (s : State). IsLive s.world c.args.id) (sym c.self.view_is) c.requires) in
    let a : rows_outdated c.self.inside.table c.args.id + rows_waiting_size c.self.inside.table (waiting_of c.self.inside.table c.args.id) ≡ outdated c.args.self.now c.args.id + waiting_size c.args.self.now (waiting c.args.self.now c.args.id) =
    steps_are c.row_laws.ensures c.self.inside.table c.self.inside.holds c.self.inside.next c.args.id c.self.invariant.0 h ∙ ap (λ (s : State). outdated s c.args.id + waiting_size s (waiting s c.args.id)) c.self.view_is in
    let b : size_of (row_at c.self.inside.table c.args.id).triple.dims ≡ size_of (dims_in c.args.self.now.world c.args.id) =
    ap size_of (sym (c.row_laws.ensures.seen.dims_are c.self.inside.table c.args.id c.self.invariant.0.order.still h)) ∙ ap (λ (s : State). size_of (dims_in s.world c.args.id)) c.self.view_is in
    omega (arith, a, b, c.sever.ensures.counted)

pub returns-clause-sound : goal.returns-clause-sound
returns-clause-sound g c = severed_sound c.cut_laws.ensures.sound c.self.inside.table c.sever.new.table c.args.id c.sever.result c.self.invariant.0.sound c.sever.ensures.ok c.sever.ensures.err

pub returns-clause-root : goal.returns-clause-root
returns-clause-root g c = λ q.
    let h : has c.self.inside.table c.args.id ≡ true = live_has c.row_laws.ensures c.self.inside.table c.args.id (subst (λ (s : State). IsLive s.world c.args.id) (sym c.self.view_is) c.requires) in
    ap (λ (t : Rows). state_of t c.self.inside.holds c.self.inside.next)
    (c.sever.ensures.root (sym (root_are c.row_laws.ensures c.self.inside.table c.args.id c.self.invariant.0.order.still h) ∙ ap (λ (s : State). root_of s.world c.args.id) c.self.view_is ∙ q))
    ∙ c.self.view_is

pub returns-clause-spent : goal.returns-clause-spent
returns-clause-spent g c = λ q.
    let h : has c.self.inside.table c.args.id ≡ true = live_has c.row_laws.ensures c.self.inside.table c.args.id (subst (λ (s : State). IsLive s.world c.args.id) (sym c.self.view_is) c.requires) in
    c.sever.ensures.spent (sym (root_are c.row_laws.ensures c.self.inside.table c.args.id c.self.invariant.0.order.still h) ∙ ap (λ (s : State). root_of s.world c.args.id) c.self.view_is ∙ q)

pub returns-clause-done : goal.returns-clause-done
returns-clause-done g c = λ q.
    let h : has c.self.inside.table c.args.id ≡ true = live_has c.row_laws.ensures c.self.inside.table c.args.id (subst (λ (s : State). IsLive s.world c.args.id) (sym c.self.view_is) c.requires) in
    c.sever.ensures.done (sym (root_are c.row_laws.ensures c.self.inside.table c.args.id c.self.invariant.0.order.still h) ∙ ap (λ (s : State). root_of s.world c.args.id) c.self.view_is ∙ q)

pub returns-clause-settled : goal.returns-clause-settled
returns-clause-settled g c = λ q.
    let h : has c.self.inside.table c.args.id ≡ true = live_has c.row_laws.ensures c.self.inside.table c.args.id (subst (λ (s : State). IsLive s.world c.args.id) (sym c.self.view_is) c.requires) in
    subst (λ (s : State). FamilyIsSettled s c.args.id (state_of c.sever.new.table c.self.inside.holds c.self.inside.next)) c.self.view_is
    (changed_settled c.row_laws.ensures c.self.inside.table c.sever.new.table c.self.inside.holds c.self.inside.next c.args.id c.self.invariant.0 h c.sever.ensures.severed
    (c.sever.ensures.settled (λ e. q (ap (λ (s : State). root_of s.world c.args.id) (sym c.self.view_is) ∙ root_are c.row_laws.ensures c.self.inside.table c.args.id c.self.invariant.0.order.still h ∙ e))))

pub returns-clause-outdated : goal.returns-clause-outdated
returns-clause-outdated g c =
    let h : has c.self.inside.table c.args.id ≡ true = live_has c.row_laws.ensures c.self.inside.table c.args.id (subst (λ (s : State). IsLive s.world c.args.id) (sym c.self.view_is) c.requires) in
    on_ok_weaker c.sever.result (λ f d u l r.
    rooted_bases c.row_laws.ensures c.self.inside.table c.sever.new.table c.self.inside.holds c.self.inside.next c.args.id c.self.invariant.0 c.sever.ensures.severed
    (f (λ e. d (ap (λ (s : State). root_of s.world c.args.id) (sym c.self.view_is) ∙ root_are c.row_laws.ensures c.self.inside.table c.args.id c.self.invariant.0.order.still h ∙ e)))
    u (subst (λ (s : State). IsLive s.world u) (sym c.self.view_is) l) r) c.sever.ensures.outdated
