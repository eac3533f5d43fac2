use Rattle.std.proofs.Common.{◌≡◌, ℕ, List, [], ◌∷◌, ◌++◌, Option, inr, true, refl, sym, subst, ◌∙◌, arith}
use Rattle.std.specs.Prelude.{IfSome}
use Rattle.pdl_world.specs.Swept.{is_listed}
use Rattle.pdl_engine.specs.State.{State as Engine}
use Rattle.pdl_scope.specs.Scope.{state_in, IsHeld}
use Rattle.pdl_scope.proofs.ScopeCuts.{held_noted, noted_last, parent_lives}
use Rattle.pdl_scope.proofs.HoldingLemmas.{room_for, same_but_holds}
use Rattle.pdl_scope.proofs.holding.hold_parent.Goals as goal

pub hold-requires-clause-live : goal.hold-requires-clause-live
hold-requires-clause-live c =
    parent_lives c.hold_once_laws.ensures.parents c.args.engine.now.world c.args.id c.in-Some.parent c.requires.held.held.whole.sound (sym c.parent.ensures ∙ c.in-Some.is)

pub hold-requires-clause-room : goal.hold-requires-clause-room
hold-requires-clause-room c =
    let names = c.requires.held.names in
    let r = room_for names.arrays names.kernels c.requires.held.watches c.requires.held.flows c.args.engine.now c.args.leaving.now.items c.in-Some.parent c.requires.held.held in
    omega (arith, r, c.requires.held.held.reads)

pub returns-in-Some-clause-same : goal.returns-in-Some-clause-same
returns-in-Some-clause-same c =
    let leaving = c.args.leaving.now.items in
    same_but_holds c.args.engine.now c.hold.new.self c.in-Some.parent leaving leaving (inr (c.hold.ensures, refl))

pub returns-in-Some-clause-parent : goal.returns-in-Some-clause-parent
returns-in-Some-clause-parent c =
    let p = c.in-Some.parent in
    let left = c.note.new.list.items in
    let P : Option ℕ → Type 0 = λ o. IfSome o (λ u. is_listed left u ≡ true) in
    let L : List ℕ → Type 0 = λ vs. is_listed vs p ≡ true in
    subst P (sym (sym c.parent.ensures ∙ c.in-Some.is)) (subst L (sym c.note.ensures.items) (noted_last c.args.leaving.now.items p))

pub returns-in-Some-clause-held : goal.returns-in-Some-clause-held
returns-in-Some-clause-held c = λ names ws fs held.
    let p = c.in-Some.parent in
    let e = c.args.engine.now in
    let t = c.hold.new.self in
    let leaving = c.args.leaving.now.items in
    let live = parent_lives c.hold_once_laws.ensures.parents e.world c.args.id p held.whole.sound (sym c.parent.ensures ∙ c.in-Some.is) in
    let E : Engine → Type 0 = λ y. IsHeld (state_in names ws fs y) y.holds (leaving ++ p ∷ []) in
    let L : List ℕ → Type 0 = λ vs. IsHeld (state_in names ws fs t) t.holds vs in
    subst L (sym c.note.ensures.items)
    (subst E (sym c.hold.ensures) (held_noted c.hold_once_laws.ensures.counts c.hold_once_laws.ensures.more names ws fs e p leaving c.holds_law.ensures.each held live))
