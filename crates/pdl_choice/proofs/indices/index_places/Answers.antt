use Rattle.std.proofs.Common.{◌∙◌, ◌+◌, ◌*◌, ◌≤◌, ◌++◌, ap, refl, sym, subst, arith, drop, get_or, length, map, replicate, All, IsSome, None, Some, ℕ, List}
use Rattle.std.specs.List.{range_with_len}
use Rattle.std.proofs.lemmas.List.{with_items_is}
use Rattle.pdl_shape.specs.Broadcast.{cut_to}
use Rattle.pdl_shape.specs.Shape.{IsWithin, coordinates_of, extent_limit, position_of}
use Rattle.pdl_shape.specs.Counting.{from_end}
use Rattle.pdl_choice.specs.Index.{index_source}
use Rattle.pdl_choice.specs.Rounds.{line_at, row_place}
use Rattle.pdl_choice.proofs.IndexInside.{index_inside}
use Rattle.pdl_choice.proofs.WhereLists.{rounds_grow, rounds_none}
use Rattle.pdl_choice.proofs.RoundsRows.{at_row, first_size, line_inside, moved_row, row_below, row_places, row_within, rows_all, rows_fit, same_line}
use Rattle.pdl_choice.proofs.RoundsWindows.{zeros}
use Rattle.pdl_choice.proofs.indices.index_places.Goals as goal

pub loop-round-init : goal.loop-round-init
loop-round-init c = (
  c.in_ok-at.ensures.items_if_clones_equal (λ y e. e) ∙ ap (λ n. replicate n 0) (ap length c.first_size-row.ensures.rest) ∙ zeros (drop 1 c.args.joined.now),
  rounds_none _ c.in_ok-places.places.items (get_or c.args.joined.now 0 1) c.in_ok-places.ensures.items,
)

pub line_of-ind_line-requires-clause-within : goal.line_of-ind_line-requires-clause-within
line_of-ind_line-requires-clause-within c =
    let below = row_below c.args.joined.now c.args.count _ _ c.loop-round._round c.first_size-row.ensures.first c.requires.counts c.rounds_of-round-end.ensures.none c.rounds_of-round-end.ensures.some c.loop-round-test.true in
    (at_row c.shape_laws.ensures.positions c.shape_laws.ensures.cuts c.args.ind_dims.now c.args.joined.now _ c.loop-round._round c.requires.ind_fits below (c.deref.ensures.value ∙ c.loop-round.invariant.0)).rest

pub line_of-rest_line-requires-clause-within : goal.line_of-rest_line-requires-clause-within
line_of-rest_line-requires-clause-within c =
    let below = row_below c.args.joined.now c.args.count _ _ c.loop-round._round c.first_size-row.ensures.first c.requires.counts c.rounds_of-round-end.ensures.none c.rounds_of-round-end.ensures.some c.loop-round-test.true in
    subst (λ (dims : List ℕ). IsWithin (drop 1 dims) (cut_to (drop 1 dims) c.deref-in-loop-round.result.now)) (sym c.first_size-size.ensures.rest)
    (at_row c.shape_laws.ensures.positions c.shape_laws.ensures.cuts (drop 1 c.args.parent.now) c.args.joined.now _ c.loop-round._round c.requires.parent_fits below (c.deref-in-loop-round.ensures.value ∙ c.loop-round.invariant.0)).rest

pub push_row-requires-clause-inside : goal.push_row-requires-clause-inside
push_row-requires-clause-inside c column h =
    let below = row_below c.args.joined.now c.args.count _ _ c.loop-round._round c.first_size-row.ensures.first c.requires.counts c.rounds_of-round-end.ensures.none c.rounds_of-round-end.ensures.some c.loop-round-test.true in
    let row = at_row c.shape_laws.ensures.positions c.shape_laws.ensures.cuts c.args.ind_dims.now c.args.joined.now c.deref.result.now c.loop-round._round c.requires.ind_fits below (c.deref.ensures.value ∙ c.loop-round.invariant.0) in
    omega (arith, c.requires.whole, line_inside c.args.ind_dims.now c.args.joined.now c.deref.result.now c.line_of-ind_line.result row c.line_of-ind_line.ensures column (omega (arith, c.first_size-row.ensures.first)))

pub push_row-requires-clause-bounded : goal.push_row-requires-clause-bounded
push_row-requires-clause-bounded c column h =
    let below = row_below c.args.joined.now c.args.count _ _ c.loop-round._round c.first_size-row.ensures.first c.requires.counts c.rounds_of-round-end.ensures.none c.rounds_of-round-end.ensures.some c.loop-round-test.true in
    let row = at_row c.shape_laws.ensures.positions c.shape_laws.ensures.cuts (drop 1 c.args.parent.now) c.args.joined.now c.deref-in-loop-round.result.now c.loop-round._round c.requires.parent_fits below (c.deref-in-loop-round.ensures.value ∙ c.loop-round.invariant.0) in
    let line = same_line c.first_size-size.result.1.now (drop 1 c.args.parent.now) c.deref-in-loop-round.result.now c.deref-in-loop-round.result.now c.line_of-rest_line.result c.first_size-size.ensures.rest refl c.line_of-rest_line.ensures in
    subst (λ (n : ℕ). n * line_at c.line_of-rest_line.result column + n ≤ extent_limit) (sym c.first_size-size.ensures.first)
    (rows_fit c.shape_laws.ensures.sizes c.args.parent.now (line_at c.line_of-rest_line.result column) c.requires.parent_bounded (line_inside (drop 1 c.args.parent.now) c.args.joined.now c.deref-in-loop-round.result.now c.line_of-rest_line.result row line column (omega (arith, c.first_size-row.ensures.first))))

pub push_row-requires-clause-small : goal.push_row-requires-clause-small
push_row-requires-clause-small c column h =
    let below = row_below c.args.joined.now c.args.count _ _ c.loop-round._round c.first_size-row.ensures.first c.requires.counts c.rounds_of-round-end.ensures.none c.rounds_of-round-end.ensures.some c.loop-round-test.true in
    let row = at_row c.shape_laws.ensures.positions c.shape_laws.ensures.cuts (drop 1 c.args.parent.now) c.args.joined.now c.deref-in-loop-round.result.now c.loop-round._round c.requires.parent_fits below (c.deref-in-loop-round.ensures.value ∙ c.loop-round.invariant.0) in
    let line = same_line c.first_size-size.result.1.now (drop 1 c.args.parent.now) c.deref-in-loop-round.result.now c.deref-in-loop-round.result.now c.line_of-rest_line.result c.first_size-size.ensures.rest refl c.line_of-rest_line.ensures in
    omega (arith, line_inside (drop 1 c.args.parent.now) c.args.joined.now c.deref-in-loop-round.result.now c.line_of-rest_line.result row line column (omega (arith, c.first_size-row.ensures.first)), c.shape_laws.ensures.sizes.size_within (drop 1 c.args.parent.now), c.shape_laws.ensures.sizes.rest_within c.args.parent.now 1, c.requires.parent_bounded)

pub push_row-requires-clause-ind_small : goal.push_row-requires-clause-ind_small
push_row-requires-clause-ind_small c = omega (arith, c.requires.whole, c.shape_laws.ensures.sizes.size_within c.args.ind_dims.now, c.requires.ind_bounded)

pub push_row-requires-clause-counted : goal.push_row-requires-clause-counted
push_row-requires-clause-counted c =
    subst (λ (n : ℕ). All (λ value. IsSome (from_end value n)) c.args.ind.now) (sym (c.first_size-size.ensures.first ∙ first_size c.args.parent.now c.requires.some)) c.requires.counted

pub move_on-requires : goal.move_on-requires
move_on-requires c =
    let below = row_below c.args.joined.now c.args.count _ _ c.loop-round._round c.first_size-row.ensures.first c.requires.counts c.rounds_of-round-end.ensures.none c.rounds_of-round-end.ensures.some c.loop-round-test.true in
    row_within c.shape_laws.ensures.positions c.args.joined.now _ _ c.loop-round._round c.first_size-row.ensures.rest below (c.deref_mut.ensures.value ∙ c.loop-round.invariant.0)

pub loop-round-preserved : goal.loop-round-preserved
loop-round-preserved c =
    let below = row_below c.args.joined.now c.args.count _ _ c.loop-round._round c.first_size-row.ensures.first c.requires.counts c.rounds_of-round-end.ensures.none c.rounds_of-round-end.ensures.some c.loop-round-test.true in
    let rest_line = same_line c.first_size-size.result.1.now (drop 1 c.args.parent.now) c.deref-in-loop-round.result.now c.loop-round.at.items c.line_of-rest_line.result c.first_size-size.ensures.rest c.deref-in-loop-round.ensures.value c.line_of-rest_line.ensures in
    let ind_line = same_line c.args.ind_dims.now c.args.ind_dims.now c.deref.result.now c.loop-round.at.items c.line_of-ind_line.result refl c.deref.ensures.value c.line_of-ind_line.ensures in (
      with_items_is c.loop-round.at c.move_on.new.coordinates (c.move_on.auto.coordinates ∙ c.deref_mut.ensures.len)
          ∙ moved_row c.shape_laws.ensures.positions c.args.joined.now c.first_size-row.result.1.now c.deref_mut.result.now c.move_on.new.coordinates c.loop-round._round c.first_size-row.ensures.rest below (c.deref_mut.ensures.value ∙ c.loop-round.invariant.0) c.move_on.ensures,
      rounds_grow (λ p. Some (position_of c.args.parent.now (index_source c.args.parent.now c.args.ind_dims.now c.args.ind.now (coordinates_of c.args.joined.now p))))
          (λ column. Some (row_place (get_or c.args.parent.now 0 1) c.args.ind.now c.line_of-ind_line.result c.line_of-rest_line.result column))
          c.loop-round.places.items c.push_row.new.places.items (get_or c.args.joined.now 0 1) c.loop-round._round None c.loop-round.invariant.1
          (c.in_ok-push_row.ensures
          ∙ ap (λ (n : ℕ). c.loop-round.places.items ++ map (λ column. Some (row_place n c.args.ind.now c.line_of-ind_line.result c.line_of-rest_line.result column)) (range_with_len 0 c.first_size-row.result.0)) c.first_size-size.ensures.first
          ∙ ap (λ (n : ℕ). c.loop-round.places.items ++ map (λ column. Some (row_place (get_or c.args.parent.now 0 1) c.args.ind.now c.line_of-ind_line.result c.line_of-rest_line.result column)) (range_with_len 0 n)) c.first_size-row.ensures.first)
          (row_places c.args.parent.now c.args.ind_dims.now c.args.joined.now c.loop-round.at.items c.args.ind.now c.line_of-ind_line.result c.line_of-rest_line.result c.loop-round._round c.requires.some c.requires.ind_fits c.requires.parent_fits c.loop-round.invariant.0 ind_line rest_line),
    )

pub returns-clause-places : goal.returns-clause-places
returns-clause-places c =
    let all = rows_all c.args.joined.now c.args.count _ _ c.loop-round._round c.first_size-row.ensures.first c.requires.counts c.rounds_of-round-end.ensures.none c.rounds_of-round-end.ensures.some c.loop-round-test.false c.loop-round.auto._round-end in
    c.loop-round.invariant.1 ∙ ap (λ n. map (λ p. Some (position_of c.args.parent.now (index_source c.args.parent.now c.args.ind_dims.now c.args.ind.now (coordinates_of c.args.joined.now p)))) (range_with_len 0 n)) all

pub returns-clause-inside : goal.returns-clause-inside
returns-clause-inside c =
    index_inside c.shape_laws.ensures.positions c.shape_laws.ensures.cuts c.args.parent.now c.args.ind_dims.now c.args.joined.now c.args.ind.now c.loop-round.places.items
    c.requires.some c.requires.whole c.requires.ind_fits c.requires.parent_fits c.requires.counted (returns-clause-places c)
