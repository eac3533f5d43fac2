use Rattle.std.proofs.Common.{◌≡◌, ◌-◌, arith, ◌<◌, ◌∙◌, ℕ, List, ℤ, ap, drop, get_or, length, subst, sym}
use Rattle.pdl_shape.specs.Shape.{size_of}
use Rattle.pdl_choice.specs.Rounds.{numbers_at, placed}
use Rattle.pdl_choice.proofs.ShapeBounds.{corner_fits}
use Rattle.pdl_choice.proofs.IndexInside.{inside_push}
use Rattle.pdl_choice.proofs.WhereLists.{places_added}
use Rattle.pdl_choice.proofs.RangePlaces.{length-corner}
use Rattle.pdl_choice.proofs.windows.push_corners.Goals as goal

pub corner_of-corner-requires : goal.corner_of-corner-requires
corner_of-corner-requires c = corner_fits _ _ c.args.corners _ c.loop-number-test.true c.requires.whole

pub corner_place-requires-clause-paired : goal.corner_place-requires-clause-paired
corner_place-requires-clause-paired c =
    let len : length c.corner_of-corner.result.now ≡ length c.args.at.now - 1 = ap length c.corner_of-corner.ensures ∙ length-corner c.args.ind.now _ c.loop-number.number (corner_fits _ _ c.args.corners _ c.loop-number-test.true c.requires.whole) in
    omega (arith, len, c.requires.some)

pub corner_place-requires-clause-fit : goal.corner_place-requires-clause-fit
corner_place-requires-clause-fit c =
    let len : length c.corner_of-corner.result.now ≡ length c.args.at.now - 1 = ap length c.corner_of-corner.ensures ∙ length-corner c.args.ind.now _ c.loop-number.number (corner_fits _ _ c.args.corners _ c.loop-number-test.true c.requires.whole) in
    omega (arith, len, c.requires.fit)

pub corner_place-requires-clause-within : goal.corner_place-requires-clause-within
corner_place-requires-clause-within c =
    let len : length c.corner_of-corner.result.now ≡ length c.args.at.now - 1 = ap length c.corner_of-corner.ensures ∙ length-corner c.args.ind.now _ c.loop-number.number (corner_fits _ _ c.args.corners _ c.loop-number-test.true c.requires.whole) in
    subst (λ (n : ℕ). get_or c.args.at.now n 0 < size_of (drop n c.args.parent.now)) (sym len) c.requires.within

pub loop-number-preserved : goal.loop-number-preserved
loop-number-preserved c = (
  places_added (λ q. placed c.args.edge c.args.parent.now (numbers_at c.args.ind.now (length c.args.at.now - 1) q) c.args.at.now) _ _ _ _ _ c.loop-number.invariant.0 c.in_ok-push.ensures.items
      (c.corner_place.ensures.place ∙ ap (λ (corner : List ℤ). placed c.args.edge c.args.parent.now corner c.args.at.now) c.corner_of-corner.ensures),
  λ before. inside_push (size_of c.args.parent.now) _ _ _ (c.loop-number.invariant.1 before) c.corner_place.ensures.bound c.in_ok-push.ensures.items,
)
