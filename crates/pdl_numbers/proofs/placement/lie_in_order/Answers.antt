-- One dimension more that lies in order.
use Rattle.std.proofs.Common.{◌≡◌, ℤ, pos, ◌<◌, get_or, rules, arith, sym, ◌∙◌}
use Rattle.std.proofs.lemmas.Int.{to_z-of_z}
use Rattle.std.specs.Int.{w32}
use Rattle.std.specs.Int.RustNames.{FitsSigned}
use Rattle.pdl_numbers.proofs.ShownInOrder.{ordering_start, ordering_next, ordering_end, step_small}
use Rattle.pdl_numbers.proofs.placement.lie_in_order.Goals as goal

pub loop-i-init : goal.loop-i-init
loop-i-init c = ordering_start c.args.incs.now c.args.sizes.now c.requires.dims.within

pub overflow_mul-step : goal.overflow_mul-step
overflow_mul-step c =
    let z : ℤ = get_or c.args.incs.now c.loop-i.i (pos 0) in
    let fits : FitsSigned w32 z = search rules in
    let f : 1 < get_or c.args.sizes.now c.loop-i.i 0 → z ≡ pos c.loop-i.step = λ more. sym (to_z-of_z w32 z fits) ∙ c.goes_so_far.ensures c.if-not-goes_so_far.false more in
    let w = ordering_next c.args.incs.now c.args.sizes.now c.loop-i.i c.loop-i.step (omega (arith, c.requires.paired, c.loop-i-test.true)) c.loop-i-test.true f c.loop-i.invariant in
    record { fits = omega (arith, step_small c.shape_laws.ensures.sizes _ _ _ _ w) }

pub loop-i-preserved : goal.loop-i-preserved
loop-i-preserved c =
    let z : ℤ = get_or c.args.incs.now c.loop-i.i (pos 0) in
    let fits : FitsSigned w32 z = search rules in
    let f : 1 < get_or c.args.sizes.now c.loop-i.i 0 → z ≡ pos c.loop-i.step = λ more. sym (to_z-of_z w32 z fits) ∙ c.goes_so_far.ensures c.if-not-goes_so_far.false more in
    ordering_next c.args.incs.now c.args.sizes.now c.loop-i.i c.loop-i.step (omega (arith, c.requires.paired, c.loop-i-test.true)) c.loop-i-test.true f c.loop-i.invariant

pub returns : goal.returns
returns c = λ _. ordering_end c.args.incs.now c.args.sizes.now c.loop-i.i c.loop-i.step (omega (arith, c.requires.paired, c.loop-i-test.false)) c.loop-i-test.false c.loop-i.invariant
