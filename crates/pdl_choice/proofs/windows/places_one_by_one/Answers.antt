use Rattle.std.proofs.Common.{◌∙◌, ◌-◌, ◌*◌, ◌/◌, ◌%◌, ap, arith, length, map, None}
use Rattle.std.specs.List.{range_with_len}
use Rattle.std.proofs.lemmas.List.{with_items_is}
use Rattle.pdl_shape.specs.Shape.{size_of}
use Rattle.pdl_choice.specs.Range.{inner_dims}
use Rattle.pdl_choice.specs.Rounds.{numbers_at, placed}
use Rattle.pdl_choice.proofs.IndexInside.{none_inside}
use Rattle.pdl_choice.proofs.WhereLists.{rounds_grow, rounds_none}
use Rattle.pdl_choice.proofs.ShapeSteps.{rounds_all, rounds_below}
use Rattle.pdl_choice.proofs.RangePlaces.{window_position}
use Rattle.pdl_choice.proofs.RoundsWindows.{all_placed, at_long, at_round, first_round, round_moved, round_places, round_within, rounds_are}
use Rattle.pdl_choice.proofs.windows.places_one_by_one.Goals as goal

pub loop-round-init : goal.loop-round-init
loop-round-init c = (
  first_round c.args.parent.now c.args.windows.now c.in_ok-sizes.sizes.items c.in_ok-at.at.items _ (rounds_are c.shape_laws.ensures.sizes c.args.parent.now c.args.windows.now _ c.requires.inner_bounded c.in_ok-sizes.ensures) (omega (arith, c.len.ensures, c.in_ok-sizes.sizes.ok)) (c.in_ok-at.ensures.items_if_clones_equal (λ y e. e)),
  rounds_none _ c.in_ok-places.places.items c.args.corners c.in_ok-places.ensures.items,
  none_inside (size_of c.args.parent.now) c.in_ok-places.places.items c.in_ok-places.ensures.items,
)

pub push_corners-requires-clause-some : goal.push_corners-requires-clause-some
push_corners-requires-clause-some c =
    omega (arith, at_long c.args.parent.now c.args.windows.now c.deref.result.now c.loop-round._round (c.deref.ensures.value ∙ c.loop-round.invariant.0))

pub push_corners-requires-clause-fit : goal.push_corners-requires-clause-fit
push_corners-requires-clause-fit c =
    omega (arith, at_long c.args.parent.now c.args.windows.now c.deref.result.now c.loop-round._round (c.deref.ensures.value ∙ c.loop-round.invariant.0), c.requires.fit)

pub push_corners-requires-clause-whole : goal.push_corners-requires-clause-whole
push_corners-requires-clause-whole c =
    let long = at_long c.args.parent.now c.args.windows.now c.deref.result.now c.loop-round._round (c.deref.ensures.value ∙ c.loop-round.invariant.0) in
    c.requires.whole ∙ ap (λ n. n * c.args.corners) (omega (arith, long))

pub push_corners-requires-clause-allowed : goal.push_corners-requires-clause-allowed
push_corners-requires-clause-allowed c =
    let progress = rounds_below c.args.count c.args.corners (size_of (inner_dims c.args.parent.now c.args.windows.now)) _ c.loop-round._round c.requires.counts c.rounds_of-round-end.ensures.none c.rounds_of-round-end.ensures.some c.loop-round-test.true in
    all_placed c.args.edge c.args.parent.now c.args.windows.now c.args.ind.now c.deref.result.now _
    (at_round c.shape_laws.ensures.positions c.args.parent.now c.args.windows.now c.deref.result.now c.loop-round._round (length c.deref.result.now - 1) c.requires.fit progress.1 (c.deref.ensures.value ∙ c.loop-round.invariant.0) (omega arith))
    c.requires.allowed

pub push_corners-requires-clause-within : goal.push_corners-requires-clause-within
push_corners-requires-clause-within c =
    let progress = rounds_below c.args.count c.args.corners (size_of (inner_dims c.args.parent.now c.args.windows.now)) _ c.loop-round._round c.requires.counts c.rounds_of-round-end.ensures.none c.rounds_of-round-end.ensures.some c.loop-round-test.true in
    (at_round c.shape_laws.ensures.positions c.args.parent.now c.args.windows.now c.deref.result.now c.loop-round._round (length c.deref.result.now - 1) c.requires.fit progress.1 (c.deref.ensures.value ∙ c.loop-round.invariant.0) (omega arith)).left

pub move_on-requires : goal.move_on-requires
move_on-requires c =
    let progress = rounds_below c.args.count c.args.corners (size_of (inner_dims c.args.parent.now c.args.windows.now)) _ c.loop-round._round c.requires.counts c.rounds_of-round-end.ensures.none c.rounds_of-round-end.ensures.some c.loop-round-test.true in
    round_within c.shape_laws.ensures.positions c.args.parent.now c.args.windows.now _ _ c.loop-round._round c.requires.fit
    (c.deref-in-loop-round.ensures.value ∙ rounds_are c.shape_laws.ensures.sizes c.args.parent.now c.args.windows.now _ c.requires.inner_bounded c.in_ok-sizes.ensures) progress.1 (c.deref_mut.ensures.value ∙ c.loop-round.invariant.0)

pub loop-round-preserved : goal.loop-round-preserved
loop-round-preserved c =
    let progress = rounds_below c.args.count c.args.corners (size_of (inner_dims c.args.parent.now c.args.windows.now)) _ c.loop-round._round c.requires.counts c.rounds_of-round-end.ensures.none c.rounds_of-round-end.ensures.some c.loop-round-test.true in
    let here = at_round c.shape_laws.ensures.positions c.args.parent.now c.args.windows.now c.deref.result.now c.loop-round._round (length c.deref.result.now - 1) c.requires.fit progress.1 (c.deref.ensures.value ∙ c.loop-round.invariant.0) (omega arith) in (
      with_items_is c.loop-round.at c.move_on.new.coordinates (c.move_on.auto.coordinates ∙ c.deref_mut.ensures.len)
          ∙ round_moved c.shape_laws.ensures.positions c.args.parent.now c.args.windows.now c.deref-in-loop-round.result.now c.deref_mut.result.now c.move_on.new.coordinates c.loop-round._round c.requires.fit
          (c.deref-in-loop-round.ensures.value ∙ rounds_are c.shape_laws.ensures.sizes c.args.parent.now c.args.windows.now _ c.requires.inner_bounded c.in_ok-sizes.ensures) progress.1 (c.deref_mut.ensures.value ∙ c.loop-round.invariant.0) c.move_on.ensures,
      rounds_grow (λ p. window_position c.args.edge c.args.parent.now c.args.windows.now (numbers_at c.args.ind.now (length c.args.windows.now) (p % c.args.corners)) (p / c.args.corners))
          (λ q. placed c.args.edge c.args.parent.now (numbers_at c.args.ind.now (length c.deref.result.now - 1) q) c.deref.result.now)
          c.loop-round.places.items c.push_corners.new.places.items c.args.corners c.loop-round._round None c.loop-round.invariant.1 c.in_ok-push_corners.ensures.added
          (round_places c.shape_laws.ensures.positions c.args.edge c.args.parent.now c.args.windows.now c.args.ind.now c.deref.result.now (length c.deref.result.now - 1) c.args.corners c.loop-round._round c.requires.fit c.requires.whole progress.1 (c.deref.ensures.value ∙ c.loop-round.invariant.0) here.len_is),
      c.in_ok-push_corners.ensures.inside c.loop-round.invariant.2,
    )

pub returns-clause-places : goal.returns-clause-places
returns-clause-places c =
    let all = rounds_all c.args.count c.args.corners (size_of (inner_dims c.args.parent.now c.args.windows.now)) _ c.loop-round._round c.requires.counts c.rounds_of-round-end.ensures.none c.rounds_of-round-end.ensures.some c.loop-round-test.false c.loop-round.auto._round-end in
    c.loop-round.invariant.1 ∙ ap (λ n. map (λ p. window_position c.args.edge c.args.parent.now c.args.windows.now (numbers_at c.args.ind.now (length c.args.windows.now) (p % c.args.corners)) (p / c.args.corners)) (range_with_len 0 n)) all
