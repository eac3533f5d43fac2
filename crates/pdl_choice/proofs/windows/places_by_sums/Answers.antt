-- Each round adds the places of one position of the windows.
use Rattle.std.proofs.Common.{◌≡◌, ◌⊎◌, ◌∙◌, ◌++◌, ◌+◌, ◌*◌, ◌/◌, ◌%◌, ◌<◌, ℕ, zero, suc, List, ℤ, ap, sym, subst, arith, length, map, pos, refl, replicate, get_or, None, Some}
use Rattle.std.specs.List.{Any, range_with_len}
use Rattle.std.specs.Prelude.{vec_len}
use Rattle.std.specs.Option.{unwrap_or}
use Rattle.std.proofs.lemmas.List.{with_items_is}
use Rattle.pdl_shape.specs.Shape.{coordinates_of, size_of}
use Rattle.pdl_choice.specs.declared.corners.Corners.{Corners}
use Rattle.pdl_choice.specs.declared.edges.Edge.TheVariants.{Zero}
use Rattle.pdl_choice.specs.Range.{inner_dims}
use Rattle.pdl_choice.specs.Rounds.{CanPlaceAll, numbers_at, placed}
use Rattle.pdl_choice.proofs.InsidePlaces.{many_zeros, round_each, round_left, window_inside}
use Rattle.pdl_choice.proofs.WhereLists.{rounds_grow, rounds_none}
use Rattle.pdl_choice.proofs.ShapeSteps.{rounds_all, rounds_below}
use Rattle.pdl_choice.proofs.RangePlaces.{rounds, window_position}
use Rattle.pdl_choice.proofs.RoundsWindows.{AtWindow, all_placed, at_long, at_round, first_round, round_moved, round_places, round_within, rounds_are}
use Rattle.pdl_choice.proofs.windows.places_by_sums.Goals as goal

some_each : (count a b : ℕ) → count ≡ a * b → 0 < count → (0 < a) × (0 < b)
some_each count zero b is h = absurd (omega arith)
some_each count (suc a) zero is h = absurd (omega arith)
some_each count (suc a) (suc b) is h = (omega arith, omega arith)

-- as many bases as corners
corners_known : (known : Corners) (corners : ℕ) → vec_len known.bases ≡ corners → length known.bases.items ≡ corners
corners_known known corners long = omega (arith, known.bases.ok, long)

pub loop-round-init : goal.loop-round-init
loop-round-init c = record {
  at = first_round c.args.parent.now c.args.windows.now c.in_ok-sizes.sizes.items c.in_ok-at.at.items _ (rounds_are c.shape_laws.ensures.sizes c.args.parent.now c.args.windows.now _ c.requires.inner_bounded c.in_ok-sizes.ensures) (omega (arith, c.len.ensures, c.in_ok-sizes.sizes.ok)) (c.in_ok-at.ensures.items_if_clones_equal (λ y e. e));
  places = rounds_none (λ p. window_position c.args.edge c.args.parent.now c.args.windows.now (numbers_at c.args.ind.now (length c.args.windows.now) (p % c.args.corners)) (p / c.args.corners)) c.in_ok-places.places.items c.args.corners c.in_ok-places.ensures.items;
}

pub push_round-requires-clause-paired : goal.push_round-requires-clause-paired
push_round-requires-clause-paired c =
    let progress = rounds_below c.args.count c.args.corners (size_of (inner_dims c.args.parent.now c.args.windows.now)) _ c.loop-round._round c.requires.counts c.rounds_of-round-end.ensures.none c.rounds_of-round-end.ensures.some c.loop-round-test.true in
    let at : List ℕ = c.deref-in-loop-round.result.now in
    let at_is : at ≡ coordinates_of (rounds c.args.parent.now c.args.windows.now) c.loop-round._round = c.deref-in-loop-round.ensures.value ∙ c.loop-round.invariant.at in
    let long : length at ≡ length c.args.windows.now + 1 = at_long c.args.parent.now c.args.windows.now at c.loop-round._round at_is in
    let here : AtWindow c.args.parent.now c.args.windows.now at (length c.args.windows.now) = at_round c.shape_laws.ensures.positions c.args.parent.now c.args.windows.now at c.loop-round._round (length c.args.windows.now) c.requires.fit progress.1 at_is (omega (arith, long)) in
    let zeros : List ℤ = c.deref.result.now in
    let zeros_are : zeros ≡ replicate (length c.args.windows.now) (pos 0) = c.deref.ensures.value ∙ c.in_ok-zeros.ensures.items_if_clones_equal (λ y e. e) in
    let zeros_long : length zeros ≡ length c.args.windows.now = many_zeros zeros (length c.args.windows.now) zeros_are in
    omega (arith, long, zeros_long)

pub push_round-requires-clause-fit : goal.push_round-requires-clause-fit
push_round-requires-clause-fit c =
    let zeros : List ℤ = c.deref.result.now in
    let zeros_are : zeros ≡ replicate (length c.args.windows.now) (pos 0) = c.deref.ensures.value ∙ c.in_ok-zeros.ensures.items_if_clones_equal (λ y e. e) in
    let zeros_long : length zeros ≡ length c.args.windows.now = many_zeros zeros (length c.args.windows.now) zeros_are in
    omega (arith, zeros_long, c.requires.fit)

pub push_round-requires-clause-whole : goal.push_round-requires-clause-whole
push_round-requires-clause-whole c =
    let zeros : List ℤ = c.deref.result.now in
    let zeros_are : zeros ≡ replicate (length c.args.windows.now) (pos 0) = c.deref.ensures.value ∙ c.in_ok-zeros.ensures.items_if_clones_equal (λ y e. e) in
    let zeros_long : length zeros ≡ length c.args.windows.now = many_zeros zeros (length c.args.windows.now) zeros_are in
    c.requires.whole ∙ ap (λ n. n * c.args.corners) (sym zeros_long) ∙ ap (λ n. length zeros * n) (sym (corners_known c.args.known.now c.args.corners c.requires.long))

pub push_round-requires-clause-numbers : goal.push_round-requires-clause-numbers
push_round-requires-clause-numbers c =
    c.requires.known.numbers

pub push_round-requires-clause-allowed : goal.push_round-requires-clause-allowed
push_round-requires-clause-allowed c =
    let progress = rounds_below c.args.count c.args.corners (size_of (inner_dims c.args.parent.now c.args.windows.now)) _ c.loop-round._round c.requires.counts c.rounds_of-round-end.ensures.none c.rounds_of-round-end.ensures.some c.loop-round-test.true in
    let at : List ℕ = c.deref-in-loop-round.result.now in
    let at_is : at ≡ coordinates_of (rounds c.args.parent.now c.args.windows.now) c.loop-round._round = c.deref-in-loop-round.ensures.value ∙ c.loop-round.invariant.at in
    let long : length at ≡ length c.args.windows.now + 1 = at_long c.args.parent.now c.args.windows.now at c.loop-round._round at_is in
    let here : AtWindow c.args.parent.now c.args.windows.now at (length c.args.windows.now) = at_round c.shape_laws.ensures.positions c.args.parent.now c.args.windows.now at c.loop-round._round (length c.args.windows.now) c.requires.fit progress.1 at_is (omega (arith, long)) in
    let zeros : List ℤ = c.deref.result.now in
    let zeros_are : zeros ≡ replicate (length c.args.windows.now) (pos 0) = c.deref.ensures.value ∙ c.in_ok-zeros.ensures.items_if_clones_equal (λ y e. e) in
    let zeros_long : length zeros ≡ length c.args.windows.now = many_zeros zeros (length c.args.windows.now) zeros_are in
    subst (λ (n : ℕ). CanPlaceAll c.args.edge c.args.parent.now c.args.ind.now n at) (sym zeros_long)
    (all_placed c.args.edge c.args.parent.now c.args.windows.now c.args.ind.now at (length c.args.windows.now) here c.requires.allowed)

pub push_round-requires-clause-within : goal.push_round-requires-clause-within
push_round-requires-clause-within c =
    let progress = rounds_below c.args.count c.args.corners (size_of (inner_dims c.args.parent.now c.args.windows.now)) _ c.loop-round._round c.requires.counts c.rounds_of-round-end.ensures.none c.rounds_of-round-end.ensures.some c.loop-round-test.true in
    let at : List ℕ = c.deref-in-loop-round.result.now in
    let at_is : at ≡ coordinates_of (rounds c.args.parent.now c.args.windows.now) c.loop-round._round = c.deref-in-loop-round.ensures.value ∙ c.loop-round.invariant.at in
    let long : length at ≡ length c.args.windows.now + 1 = at_long c.args.parent.now c.args.windows.now at c.loop-round._round at_is in
    let here : AtWindow c.args.parent.now c.args.windows.now at (length c.args.windows.now) = at_round c.shape_laws.ensures.positions c.args.parent.now c.args.windows.now at c.loop-round._round (length c.args.windows.now) c.requires.fit progress.1 at_is (omega (arith, long)) in
    let zeros : List ℤ = c.deref.result.now in
    let zeros_are : zeros ≡ replicate (length c.args.windows.now) (pos 0) = c.deref.ensures.value ∙ c.in_ok-zeros.ensures.items_if_clones_equal (λ y e. e) in
    let zeros_long : length zeros ≡ length c.args.windows.now = many_zeros zeros (length c.args.windows.now) zeros_are in
    round_left c.args.parent.now c.args.windows.now zeros at (length c.args.windows.now) here zeros_are

pub push_round-requires-clause-small : goal.push_round-requires-clause-small
push_round-requires-clause-small c =
    c.requires.known.small

pub push_round-requires-clause-inside : goal.push_round-requires-clause-inside
push_round-requires-clause-inside c q h =
    let progress = rounds_below c.args.count c.args.corners (size_of (inner_dims c.args.parent.now c.args.windows.now)) _ c.loop-round._round c.requires.counts c.rounds_of-round-end.ensures.none c.rounds_of-round-end.ensures.some c.loop-round-test.true in
    let at : List ℕ = c.deref-in-loop-round.result.now in
    let at_is : at ≡ coordinates_of (rounds c.args.parent.now c.args.windows.now) c.loop-round._round = c.deref-in-loop-round.ensures.value ∙ c.loop-round.invariant.at in
    let long : length at ≡ length c.args.windows.now + 1 = at_long c.args.parent.now c.args.windows.now at c.loop-round._round at_is in
    let here : AtWindow c.args.parent.now c.args.windows.now at (length c.args.windows.now) = at_round c.shape_laws.ensures.positions c.args.parent.now c.args.windows.now at c.loop-round._round (length c.args.windows.now) c.requires.fit progress.1 at_is (omega (arith, long)) in
    let zeros : List ℤ = c.deref.result.now in
    let zeros_are : zeros ≡ replicate (length c.args.windows.now) (pos 0) = c.deref.ensures.value ∙ c.in_ok-zeros.ensures.items_if_clones_equal (λ y e. e) in
    let zeros_long : length zeros ≡ length c.args.windows.now = many_zeros zeros (length c.args.windows.now) zeros_are in
    subst (λ (n : ℕ). Any (λ b. b ≡ q) c.args.known.now.beyond.items ⊎ Some (get_or c.args.known.now.bases.items q 0 + unwrap_or (placed Zero c.args.parent.now zeros at) 0) ≡ placed c.args.edge c.args.parent.now (numbers_at c.args.ind.now n q) at) (sym zeros_long)
    (round_each c.args.edge c.args.parent.now c.args.windows.now c.args.ind.now zeros at c.args.known.now.bases.items c.args.known.now.beyond.items (length c.args.windows.now) here
    (c.requires.whole ∙ ap (λ n. length c.args.windows.now * n) (sym (corners_known c.args.known.now c.args.corners c.requires.long))) zeros_are c.requires.known q h)

pub move_on-requires : goal.move_on-requires
move_on-requires c =
    let progress = rounds_below c.args.count c.args.corners (size_of (inner_dims c.args.parent.now c.args.windows.now)) _ c.loop-round._round c.requires.counts c.rounds_of-round-end.ensures.none c.rounds_of-round-end.ensures.some c.loop-round-test.true in
    round_within c.shape_laws.ensures.positions c.args.parent.now c.args.windows.now _ _ c.loop-round._round c.requires.fit
    (c.deref-in-loop-round-2.ensures.value ∙ rounds_are c.shape_laws.ensures.sizes c.args.parent.now c.args.windows.now _ c.requires.inner_bounded c.in_ok-sizes.ensures) progress.1 (c.deref_mut.ensures.value ∙ c.loop-round.invariant.at)

pub loop-round-preserved : goal.loop-round-preserved
loop-round-preserved c =
    let progress = rounds_below c.args.count c.args.corners (size_of (inner_dims c.args.parent.now c.args.windows.now)) _ c.loop-round._round c.requires.counts c.rounds_of-round-end.ensures.none c.rounds_of-round-end.ensures.some c.loop-round-test.true in
    let at : List ℕ = c.deref-in-loop-round.result.now in
    let at_is : at ≡ coordinates_of (rounds c.args.parent.now c.args.windows.now) c.loop-round._round = c.deref-in-loop-round.ensures.value ∙ c.loop-round.invariant.at in
    let long : length at ≡ length c.args.windows.now + 1 = at_long c.args.parent.now c.args.windows.now at c.loop-round._round at_is in
    let here : AtWindow c.args.parent.now c.args.windows.now at (length c.args.windows.now) = at_round c.shape_laws.ensures.positions c.args.parent.now c.args.windows.now at c.loop-round._round (length c.args.windows.now) c.requires.fit progress.1 at_is (omega (arith, long)) in
    let zeros : List ℤ = c.deref.result.now in
    let zeros_are : zeros ≡ replicate (length c.args.windows.now) (pos 0) = c.deref.ensures.value ∙ c.in_ok-zeros.ensures.items_if_clones_equal (λ y e. e) in
    let zeros_long : length zeros ≡ length c.args.windows.now = many_zeros zeros (length c.args.windows.now) zeros_are in
    let added : c.push_round.new.places.items ≡ c.loop-round.places.items ++ map (λ q. placed c.args.edge c.args.parent.now (numbers_at c.args.ind.now (length c.args.windows.now) q) at) (range_with_len 0 c.args.corners) =
    c.in_ok-push_round.ensures
    ∙ ap (λ (n : ℕ). c.loop-round.places.items ++ map (λ q. placed c.args.edge c.args.parent.now (numbers_at c.args.ind.now n q) at) (range_with_len 0 (length c.args.known.now.bases.items))) zeros_long
    ∙ ap (λ (n : ℕ). c.loop-round.places.items ++ map (λ q. placed c.args.edge c.args.parent.now (numbers_at c.args.ind.now (length c.args.windows.now) q) at) (range_with_len 0 n)) (corners_known c.args.known.now c.args.corners c.requires.long) in
    record {
      at = with_items_is c.loop-round.at c.move_on.new.coordinates (c.move_on.auto.coordinates ∙ c.deref_mut.ensures.len)
          ∙ round_moved c.shape_laws.ensures.positions c.args.parent.now c.args.windows.now c.deref-in-loop-round-2.result.now c.deref_mut.result.now c.move_on.new.coordinates c.loop-round._round c.requires.fit
          (c.deref-in-loop-round-2.ensures.value ∙ rounds_are c.shape_laws.ensures.sizes c.args.parent.now c.args.windows.now _ c.requires.inner_bounded c.in_ok-sizes.ensures) progress.1 (c.deref_mut.ensures.value ∙ c.loop-round.invariant.at) c.move_on.ensures;
      places = rounds_grow (λ p. window_position c.args.edge c.args.parent.now c.args.windows.now (numbers_at c.args.ind.now (length c.args.windows.now) (p % c.args.corners)) (p / c.args.corners))
          (λ q. placed c.args.edge c.args.parent.now (numbers_at c.args.ind.now (length c.args.windows.now) q) at)
          c.loop-round.places.items c.push_round.new.places.items c.args.corners c.loop-round._round None c.loop-round.invariant.places added
          (round_places c.shape_laws.ensures.positions c.args.edge c.args.parent.now c.args.windows.now c.args.ind.now at (length c.args.windows.now) c.args.corners c.loop-round._round c.requires.fit c.requires.whole progress.1 at_is refl);
    }

pub returns-clause-inside : goal.returns-clause-inside
returns-clause-inside c =
    let some = some_each c.args.count c.args.corners (size_of (inner_dims c.args.parent.now c.args.windows.now)) c.requires.counts c.requires.some in
    let all = rounds_all c.args.count c.args.corners (size_of (inner_dims c.args.parent.now c.args.windows.now)) _ c.loop-round._round c.requires.counts c.rounds_of-round-end.ensures.none c.rounds_of-round-end.ensures.some c.loop-round-test.false c.loop-round.auto._round-end in
    window_inside c.shape_laws.ensures.positions c.args.edge c.args.parent.now c.args.windows.now c.args.ind.now c.args.corners c.loop-round.places.items c.requires.fit c.requires.whole c.requires.allowed some.0
    (c.loop-round.invariant.places ∙ ap (λ n. map (λ p. window_position c.args.edge c.args.parent.now c.args.windows.now (numbers_at c.args.ind.now (length c.args.windows.now) (p % c.args.corners)) (p / c.args.corners)) (range_with_len 0 n)) (all ∙ c.requires.counts))

pub returns-clause-places : goal.returns-clause-places
returns-clause-places c =
    let all = rounds_all c.args.count c.args.corners (size_of (inner_dims c.args.parent.now c.args.windows.now)) _ c.loop-round._round c.requires.counts c.rounds_of-round-end.ensures.none c.rounds_of-round-end.ensures.some c.loop-round-test.false c.loop-round.auto._round-end in
    c.loop-round.invariant.places ∙ ap (λ n. map (λ p. window_position c.args.edge c.args.parent.now c.args.windows.now (numbers_at c.args.ind.now (length c.args.windows.now) (p % c.args.corners)) (p / c.args.corners)) (range_with_len 0 n)) all
