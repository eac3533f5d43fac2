use Rattle.std.proofs.Common.{◌≡◌, ◌+◌, true, sym, ◌∙◌, ap, subst, arith}
use Rattle.std.proofs.lemmas.Result.{on_err_weaker, on_ok_weaker}
use Rattle.pdl_world.specs.Cut.{breaks, reshape}
use Rattle.pdl_world.specs.Sound.{IsLive}
use Rattle.pdl_nodes.specs.Outcomes.{waiting_of}
use Rattle.pdl_pull.specs.Outdated.{outdated as rows_outdated}
use Rattle.pdl_nodes.specs.Outcomes.{waiting_size as rows_waiting_size}
use Rattle.pdl_nodes.specs.Rows.{Rows, has}
use Rattle.pdl_engine.specs.Held.{ChangesFamily, FamilyIsSettled}
use Rattle.pdl_engine.specs.State.{State, StayFresh, outdated, waiting, waiting_size}
use Rattle.pdl_engine.specs.StateOf.{state_of}
use Rattle.pdl_engine.proofs.SeveredStates.{broken_by, changed_engine, changed_settled, changed_state, refused_fresh, steps_are, rooted_bases, reshaped_sound, reshaped_lent, unchanged_by}
use Rattle.pdl_engine.proofs.StateOfWorlds.{live_has}
use Rattle.pdl_engine.proofs.LooseTight.{tight_reshaped}
use Rattle.pdl_engine.proofs.engine.Engine.reshape.Goals as goal

pub reshape-requires-clause-live : goal.reshape-requires-clause-live
reshape-requires-clause-live g c = live_has c.row_laws.ensures c.self.inside.table c.args.id (subst (λ (s : State). IsLive s.world c.args.id) (sym c.self.view_is) c.requires)

pub invariant_of-self : goal.invariant_of-self
invariant_of-self g c = (
  changed_engine c.self.inside.table c.reshape.new.table c.self.inside.holds c.self.inside.next c.args.id c.self.invariant.0 c.reshape.ensures.reshaped
      (reshaped_sound c.reshape_laws.ensures.decides c.self.inside.table c.reshape.new.table c.args.id c.args.dims.now c.reshape.result c.self.invariant.0.sound c.dims_list-limits.ensures.limits c.reshape.ensures.allowed c.reshape.ensures.ok c.reshape.ensures.err),
  tight_reshaped c.row_laws.ensures c.self.inside.table c.reshape.new.table c.args.id c.self.inside.loose.items c.reshape.new.loose.items c.self.inside.holds c.args.dims.now c.reshape.result c.self.invariant.0.order.still
      (live_has c.row_laws.ensures c.self.inside.table c.args.id (subst (λ (s : State). IsLive s.world c.args.id) (sym c.self.view_is) c.requires))
      c.reshape.ensures.reshaped c.reshape.ensures.listed c.reshape.ensures.unlisted c.reshape.ensures.ok c.reshape.ensures.err c.self.invariant.1,
)

pub returns-clause-ok : goal.returns-clause-ok
returns-clause-ok g c = on_ok_weaker c.reshape.result (λ e. e ∙ ap (λ (s : State). reshape s.world c.args.id c.args.dims.now) c.self.view_is) c.reshape.ensures.ok

pub returns-clause-err : goal.returns-clause-err
returns-clause-err g c = on_err_weaker c.reshape.result (λ e. e ∙ ap (λ (s : State). s.world) c.self.view_is) c.reshape.ensures.err

pub returns-clause-family : goal.returns-clause-family
returns-clause-family g c =
    subst (λ (s : State). ChangesFamily s c.args.id (state_of c.reshape.new.table c.self.inside.holds c.self.inside.next)) c.self.view_is
    (changed_state c.row_laws.ensures c.self.inside.table c.reshape.new.table c.self.inside.holds c.self.inside.next c.args.id c.self.invariant.0
    (live_has c.row_laws.ensures c.self.inside.table c.args.id (subst (λ (s : State). IsLive s.world c.args.id) (sym c.self.view_is) c.requires)) c.reshape.ensures.reshaped)

pub returns-clause-stay : goal.returns-clause-stay
returns-clause-stay g c = on_err_weaker c.reshape.result (λ f. subst (λ (s : State). StayFresh s (state_of c.reshape.new.table c.self.inside.holds c.self.inside.next)) c.self.view_is
    (refused_fresh c.row_laws.ensures c.self.inside.table c.reshape.new.table c.self.inside.holds c.self.inside.next c.args.id c.self.invariant.0 c.reshape.ensures.reshaped f)) c.reshape.ensures.stay

pub returns-clause-fresh : goal.returns-clause-fresh
returns-clause-fresh g c = on_ok_weaker c.reshape.result (λ f. reshaped_lent c.row_laws.ensures c.self.inside.table c.reshape.new.table c.self.inside.holds c.self.inside.next c.args.id
    (live_has c.row_laws.ensures c.self.inside.table c.args.id (subst (λ (s : State). IsLive s.world c.args.id) (sym c.self.view_is) c.requires)) c.reshape.ensures.reshaped f) c.reshape.ensures.fresh

pub returns-clause-counted : goal.returns-clause-counted
returns-clause-counted g c =
    let h : has c.self.inside.table c.args.id ≡ true = live_has c.row_laws.ensures c.self.inside.table c.args.id (subst (λ (s : State). IsLive s.world c.args.id) (sym c.self.view_is) c.requires) in
    let a : rows_outdated c.self.inside.table c.args.id + rows_waiting_size c.self.inside.table (waiting_of c.self.inside.table c.args.id) ≡ outdated c.args.self.now c.args.id + waiting_size c.args.self.now (waiting c.args.self.now c.args.id) =
    steps_are c.row_laws.ensures c.self.inside.table c.self.inside.holds c.self.inside.next c.args.id c.self.invariant.0 h ∙ ap (λ (s : State). outdated s c.args.id + waiting_size s (waiting s c.args.id)) c.self.view_is in
    omega (arith, a, c.reshape.ensures.counted)

pub returns-clause-sound : goal.returns-clause-sound
returns-clause-sound g c = reshaped_sound c.reshape_laws.ensures.decides c.self.inside.table c.reshape.new.table c.args.id c.args.dims.now c.reshape.result c.self.invariant.0.sound c.dims_list-limits.ensures.limits c.reshape.ensures.allowed c.reshape.ensures.ok c.reshape.ensures.err

pub returns-clause-settled : goal.returns-clause-settled
returns-clause-settled g c = on_ok_weaker c.reshape.result (λ f.
    subst (λ (s : State). FamilyIsSettled s c.args.id (state_of c.reshape.new.table c.self.inside.holds c.self.inside.next)) c.self.view_is
    (changed_settled c.row_laws.ensures c.self.inside.table c.reshape.new.table c.self.inside.holds c.self.inside.next c.args.id c.self.invariant.0
    (live_has c.row_laws.ensures c.self.inside.table c.args.id (subst (λ (s : State). IsLive s.world c.args.id) (sym c.self.view_is) c.requires)) c.reshape.ensures.reshaped f)) c.reshape.ensures.settled

pub returns-clause-allowed : goal.returns-clause-allowed
returns-clause-allowed g c = on_ok_weaker c.reshape.result (λ e. sym (ap (λ (s : State). breaks s.world c.args.id c.args.dims.now) c.self.view_is) ∙ e) c.reshape.ensures.allowed

pub returns-clause-outdated : goal.returns-clause-outdated
returns-clause-outdated g c = on_ok_weaker c.reshape.result (λ f u l r.
    rooted_bases c.row_laws.ensures c.self.inside.table c.reshape.new.table c.self.inside.holds c.self.inside.next c.args.id c.self.invariant.0 c.reshape.ensures.reshaped f u
    (subst (λ (s : State). IsLive s.world u) (sym c.self.view_is) l) r) c.reshape.ensures.outdated

pub returns-clause-broken : goal.returns-clause-broken
returns-clause-broken g c = broken_by c.reshape.result (ap (λ (s : State). breaks s.world c.args.id c.args.dims.now) c.self.view_is) c.reshape.ensures.broken

pub returns-clause-unchanged : goal.returns-clause-unchanged
returns-clause-unchanged g c = unchanged_by (c.reshape.new.table ≡ c.self.inside.table) (state_of c.reshape.new.table c.self.inside.holds c.self.inside.next ≡ c.args.self.now) (c.reshape.new.steps ≡ c.args.steps.now) c.reshape.result
    (λ e. ap (λ (t : Rows). state_of t c.self.inside.holds c.self.inside.next) e ∙ c.self.view_is) c.reshape.ensures.unchanged
