use Rattle.std.proofs.Common.{rules, arith, SFits, w64, ◌+◌, get_or, pos, to_z-of_z}
use Rattle.pdl_lemmas.specs.Numbers.{row_place_below}
use Rattle.pdl_choice.proofs.RoundsStrides.{placing_more, placing_ended, stride_more, stride_fits}
use Rattle.pdl_choice.proofs.windows.corner_place.Goals as goal

pub overflow_mul-place : goal.overflow_mul-place
overflow_mul-place c =
    omega (arith, row_place_below c.loop-number.stride _ c.loop-number.place c.in_ok-place.field-0 c.loop-number.invariant.below c.in_ok-place.ensures.bound, stride_fits c.shape_laws.ensures.sizes (c.loop-number.number + 1) _ c.args.parent.now c.requires.bounded (stride_more c.loop-number.number c.loop-number.stride c.args.parent.now (omega arith) c.loop-number.invariant.stride_is))

pub overflow_add-place : goal.overflow_add-place
overflow_add-place c =
    omega (arith, row_place_below c.loop-number.stride _ c.loop-number.place c.in_ok-place.field-0 c.loop-number.invariant.below c.in_ok-place.ensures.bound, stride_fits c.shape_laws.ensures.sizes (c.loop-number.number + 1) _ c.args.parent.now c.requires.bounded (stride_more c.loop-number.number c.loop-number.stride c.args.parent.now (omega arith) c.loop-number.invariant.stride_is))

pub overflow_mul-stride : goal.overflow_mul-stride
overflow_mul-stride c =
    omega (arith, stride_fits c.shape_laws.ensures.sizes (c.loop-number.number + 1) _ c.args.parent.now c.requires.bounded (stride_more c.loop-number.number c.loop-number.stride c.args.parent.now (omega arith) c.loop-number.invariant.stride_is))

pub loop-number-preserved : goal.loop-number-preserved
loop-number-preserved c =
    let fits : SFits w64 (get_or c.args.corner.now c.loop-number.number (pos 0)) = search rules in
    placing_more _ _ _ _ _ _ _ _ c.requires.fit c.requires.paired c.loop-number-test.true (simp to_z-of_z at c.in_ok-place.ensures.value) c.in_ok-place.ensures.bound c.loop-number.invariant

pub overflow_mul-result : goal.overflow_mul-result
overflow_mul-result c =
    omega (arith, placing_ended _ _ _ _ _ _ _ c.loop-number-test.false c.loop-number.auto.number-end c.requires.within c.loop-number.invariant, c.shape_laws.ensures.sizes.size_within c.args.parent.now, c.requires.bounded)

pub overflow_add-result : goal.overflow_add-result
overflow_add-result c =
    omega (arith, placing_ended _ _ _ _ _ _ _ c.loop-number-test.false c.loop-number.auto.number-end c.requires.within c.loop-number.invariant, c.shape_laws.ensures.sizes.size_within c.args.parent.now, c.requires.bounded)

pub returns-clause-bound : goal.returns-clause-bound
returns-clause-bound c = placing_ended _ _ _ _ _ _ _ c.loop-number-test.false c.loop-number.auto.number-end c.requires.within c.loop-number.invariant
