use Rattle.std.proofs.Common.{arith, refl, w32}
use Rattle.std.proofs.lemmas.Int.{to_z-of_z}
use Rattle.pdl_broadcast.proofs.CursorJumps.{fitting, jumped_all, jumped_more, jumped_none}
use Rattle.pdl_broadcast.proofs.cursors.jumps_of.Goals as goal

pub loop-dimension-init : goal.loop-dimension-init
loop-dimension-init c = jumped_none _ _ _ refl

pub overflow_sub-jumps : goal.overflow_sub-jumps
overflow_sub-jumps c =
    let fits = fitting c.shape_laws.ensures.sizes _ _ _ _ _ _ _ c.requires.paired c.requires.small c.requires.narrow c.step_along-step.ensures refl c.loop-dimension.invariant in
    rw (to_z-of_z w32 c.step_along-step.result fits.step_fits) fits.jump_fits

pub overflow_mul-turned : goal.overflow_mul-turned
overflow_mul-turned c =
    let fits = fitting c.shape_laws.ensures.sizes _ _ _ _ _ _ _ c.requires.paired c.requires.small c.requires.narrow c.step_along-step.ensures c.last_along.ensures c.loop-dimension.invariant in
    rw (to_z-of_z w32 c.step_along-step.result fits.step_fits, to_z-of_z w32 c.last_along.result fits.last_fits) fits.turn_fits

pub overflow_add-turned : goal.overflow_add-turned
overflow_add-turned c =
    let fits = fitting c.shape_laws.ensures.sizes _ _ _ _ _ _ _ c.requires.paired c.requires.small c.requires.narrow c.step_along-step.ensures c.last_along.ensures c.loop-dimension.invariant in
    rw (to_z-of_z w32 c.step_along-step.result fits.step_fits, to_z-of_z w32 c.last_along.result fits.last_fits, to_z-of_z w32 _ fits.turn_fits) fits.sum_fits

pub loop-dimension-preserved : goal.loop-dimension-preserved
loop-dimension-preserved c =
    let fits = fitting c.shape_laws.ensures.sizes _ _ _ _ _ _ _ c.requires.paired c.requires.small c.requires.narrow c.step_along-step.ensures c.last_along.ensures c.loop-dimension.invariant in
    rw (to_z-of_z w32 c.step_along-step.result fits.step_fits, to_z-of_z w32 c.last_along.result fits.last_fits, to_z-of_z w32 _ fits.jump_fits, to_z-of_z w32 _ fits.turn_fits, to_z-of_z w32 _ fits.sum_fits)
    (jumped_more _ _ _ _ _ _ _ (omega (arith, c.requires.count)) c.step_along-step.ensures c.last_along.ensures c.loop-dimension.invariant)

pub returns : goal.returns
returns c = jumped_all _ _ _ _ _ _ c.requires.paired c.requires.stretched c.loop-dimension-test.false c.loop-dimension.invariant
