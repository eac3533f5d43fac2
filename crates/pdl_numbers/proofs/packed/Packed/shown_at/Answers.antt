-- The number at a position is the one at its place.
use Rattle.std.proofs.Common.{◌≡◌, ℕ, pos, ◌<◌, length, get_or, refl, arith, ap, ◌∙◌, sym, subst}
use Rattle.std.proofs.lemmas.Int.{to_z-of_z}
use Rattle.std.specs.Int.{w64}
use Rattle.std.specs.Prelude.{Option, Some}
use Rattle.pdl_shape.specs.Places.{IsBelow, element_at}
use Rattle.pdl_numbers.specs.Shown.{shown_through}
use Rattle.pdl_numbers.proofs.ShownWalks.{IsShown, shown_at, shown_element}
use Rattle.pdl_numbers.proofs.packed.Packed.shown_at.Goals as goal

below : (n p : ℕ) (at : Option ℕ) → at ≡ Some p → IsBelow n at → p < n
below n p at e h = subst (IsBelow n) e h

pub get-requires : goal.get-requires
get-requires g c =
    let s : IsShown c.args.placement.now (length c.args.self.now) c.in-Some.position =
    shown_at c.shape_laws.ensures.positions c.args.placement.now (length c.args.self.now) c.in-Some.position c.place.ensures.sound c.requires.reaches (below _ _ _ c.in-Some.is c.requires.within) in
    (omega arith, omega (arith, s.below, c.place.ensures.place))

pub returns-in-Some-clause-value : goal.returns-in-Some-clause-value
returns-in-Some-clause-value g c =
    to_z-of_z w64 c.get.result (record { sfits = c.get.type_inv }) ∙ c.get.ensures.value
    ∙ ap (λ (p : ℕ). get_or c.args.self.now p (pos 0)) c.place.ensures.place
    ∙ shown_element c.args.placement.now c.args.self.now (shown_through c.args.placement.now c.args.self.now) c.in-Some.position refl (below _ _ _ c.in-Some.is c.requires.within)
    ∙ ap (element_at (shown_through c.args.placement.now c.args.self.now)) (sym c.in-Some.is)
