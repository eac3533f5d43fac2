use Rattle.std.proofs.Common.{ℕ, List, ◌++◌, ◌≤◌, length, sym, ap, subst, ◌∙◌, arith}
use Rattle.std.specs.Option.{option_to_list}
use Rattle.pdl_world.specs.Sound.{IsLive}
use Rattle.pdl_machine.specs.declared.fault.Fault.TheVariants.{TooManyNames}
use Rattle.pdl_machine.specs.Names.{Named, found, names_limit}
use Rattle.pdl_scope.specs.Scope.{Scope as Seen, names_in, state_in, IsHeld}
use Rattle.pdl_scope.specs.Holding.{IsHeldForName}
use Rattle.pdl_scope.proofs.ScopeNames.{bound_is}
use Rattle.pdl_scope.proofs.HoldingLemmas.{held_bound, few_bound, room_for}
use Rattle.pdl_scope.proofs.scope.Scope.bind.Goals as goal

pub hold_for_name-requires-clause-room : goal.hold_for_name-requires-clause-room
hold_for_name-requires-clause-room c =
    let r = room_for c.self.inside.names.entries c.self.inside.kernels c.self.inside.watches.items c.self.inside.flows.items c.self.inside.engine c.self.inside.leaving.items c.args.id c.self.invariant in
    omega (arith, c.self.inside.leaving.ok, c.self.invariant.reads)

pub invariant_of-self-2 : goal.invariant_of-self-2
invariant_of-self-2 c =
    let names = c.self.inside.names.entries in
    let ks = c.self.inside.kernels in
    let ws = c.self.inside.watches.items in
    let fs = c.self.inside.flows.items in
    let x = c.args.name.now in
    let v = c.args.id in
    let e = c.self.inside.engine in
    let t = c.hold_for_name.new.engine in
    let left = c.hold_for_name.new.leaving.items in
    let live : IsLive e.world v = (let P : Seen → Type 0 = λ s. IsLive s.arrays.world v in subst P (sym c.self.view_is) c.requires) in
    let after = c.in_ok-had.ensures.ok in
    let is = bound_is names_limit TooManyNames names c.bind.new.self.entries x v after in
    let F : Named ℕ → Type 0 = λ ns. length ns ≤ names_limit in
    let few = subst F is (few_bound names c.bind.new.self.entries x v after c.self.invariant.few) in
    let W : List ℕ → Type 0 = λ vs. IsHeldForName e vs v t left in
    let N : Named ℕ → Type 0 = λ ns. IsHeld (state_in (names_in ns ks) ws fs t) t.holds (left ++ option_to_list (found names x)) in
    let L : List ℕ → Type 0 = λ vs. IsHeld (state_in (names_in c.bind.new.self.entries ks) ws fs t) t.holds vs in
    subst L (sym (c.note_some.ensures.items ∙ ap (λ o. left ++ option_to_list o) c.in_ok-had.ensures.given_up))
    (subst N (sym is) (held_bound c.hold_once_laws.ensures.counts c.hold_once_laws.ensures.more names ks ws fs e t x v c.self.inside.leaving.items left c.holds_law.ensures.each c.self.invariant live few (subst W c.in_ok-reserve.ensures.items c.hold_for_name.ensures.held)))
