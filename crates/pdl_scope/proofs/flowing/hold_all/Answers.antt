use Rattle.std.proofs.Common.{◌≡◌, ◌+◌, ◌<◌, ◌≤◌, ◌^◌, ℕ, List, [], ◌∷◌, length, take, get_or, true, sym, ap, subst, ◌∙◌, arith}
use Rattle.pdl_world.specs.Sound.{IsLive}
use Rattle.pdl_world.specs.Swept.{is_listed}
use Rattle.pdl_engine.specs.Held.{count_at, holders, one_more_at}
use Rattle.pdl_engine.specs.State.{State as Engine}
use Rattle.pdl_scope.specs.Scope.{times}
use Rattle.pdl_scope.proofs.ScopeFlows.{live_at, held_once_more, times_within}
use Rattle.pdl_scope.proofs.HoldingLemmas.{some_live}
use Rattle.pdl_scope.proofs.flowing.hold_all.Goals as goal

pub hold-requires-clause-live : goal.hold-requires-clause-live
hold-requires-clause-live c =
    let ids = c.args.ids.now in
    let P : Engine → Type 0 = λ e. IsLive e.world (get_or ids c.loop-id.id-index 0) in
    subst P (sym c.loop-id.invariant.same) (live_at c.args.engine.now.world ids c.loop-id.id-index c.requires.live c.loop-id-test.true)

pub hold-requires-clause-room : goal.hold-requires-clause-room
hold-requires-clause-room c =
    let v = get_or c.args.ids.now c.loop-id.id-index 0 in
    let few = times_within c.args.ids.now c.loop-id.id-index v in
    omega (arith, few, c.loop-id.invariant.counts v, c.requires.room v)

pub loop-id-preserved : goal.loop-id-preserved
loop-id-preserved c =
    let ids = c.args.ids.now in
    let i = c.loop-id.id-index in
    let v = get_or ids i 0 in
    let t = c.loop-id.engine in
    let P : Engine → Type 0 = λ e. IsLive e.world v in
    let live : IsLive t.world v = subst P (sym c.loop-id.invariant.same) (live_at c.args.engine.now.world ids i c.requires.live c.loop-id-test.true) in
    let known : is_listed (holders t.holds) v ≡ true = c.holds_law.ensures.each v ∙ some_live t.world v live in
    record {
      same = c.hold.ensures ∙ ap (λ (e : Engine). record e { holds = one_more_at t.holds v }) c.loop-id.invariant.same
          ∙ ap (λ hs. record c.args.engine.now { holds = hs }) (sym (ap (λ (e : Engine). e.holds) c.hold.ensures));
      counts = λ u. (ap (λ (e : Engine). count_at e.holds u) c.hold.ensures
          ∙ held_once_more c.hold_once_laws.ensures.counts t.holds (count_at c.args.engine.now.holds u) ids i u c.loop-id-test.true known (c.loop-id.invariant.counts u));
    }
