use Rattle.std.proofs.Common.{◌≡◌, None, sym, subst, arith}
use Rattle.pdl_world.specs.Sound.{IsLive}
use Rattle.pdl_engine.specs.Held.{one_more_at}
use Rattle.pdl_engine.specs.State.{State as Engine}
use Rattle.pdl_machine.specs.Watches.{Watches, watch_of}
use Rattle.pdl_scope.specs.Scope.{names_in, state_in, IsHeld, Scope as Seen}
use Rattle.pdl_scope.proofs.HoldingLemmas.{room_for}
use Rattle.pdl_scope.proofs.ScopeWatches.{held_attached}
use Rattle.pdl_scope.proofs.scope.Scope.watch.Goals as goal

pub hold-requires-clause-room : goal.hold-requires-clause-room
hold-requires-clause-room c =
    let r = room_for c.self.inside.names.entries c.self.inside.kernels c.self.inside.watches.items c.self.inside.flows.items c.self.inside.engine c.self.inside.leaving.items c.args.id c.self.invariant in
    omega (arith, c.self.inside.leaving.ok, c.self.invariant.reads)

pub invariant_of-self-2 : goal.invariant_of-self-2
invariant_of-self-2 c =
    let names = names_in c.self.inside.names.entries c.self.inside.kernels in
    let ws = c.self.inside.watches.items in
    let fs = c.self.inside.flows.items in
    let e = c.self.inside.engine in
    let k = c.args.slot in
    let v = c.args.id in
    let leaving = c.self.inside.leaving.items in
    let P : Seen → Type 0 = λ s. watch_of s.watches k ≡ None in
    let S : Seen → Type 0 = λ s. IsLive s.arrays.world v in
    let E : Engine → Type 0 = λ y. IsHeld (state_in names c.attach.new.watches.items fs y) y.holds leaving in
    let held = held_attached c.hold_once_laws.ensures.counts c.hold_once_laws.ensures.more names ws fs e k v leaving c.holds_law.ensures.each c.self.invariant (subst S (sym c.self.view_is) c.requires.live) c.requires.small (subst P (sym c.self.view_is) c.requires.free) in
    let X : Watches → Type 0 = λ us. IsHeld (state_in names us fs (record e { holds = one_more_at e.holds v })) (one_more_at e.holds v) leaving in
    subst E (sym c.hold.ensures) (subst X (sym c.in_ok-attach.ensures.ok) held)
