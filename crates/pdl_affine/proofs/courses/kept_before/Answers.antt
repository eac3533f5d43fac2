use Rattle.std.proofs.Common.{arith, ◌∙◌, sym}
use Rattle.pdl_affine.proofs.ViewSizes.{kept_more, kept_same}
use Rattle.pdl_affine.proofs.courses.kept_before.Goals as goal
use Rattle.pdl_affine.proofs.courses.kept_before.Goals.{then-is_kept, else-is_kept}

pub loop-place-preserved : goal.loop-place-preserved
loop-place-preserved c = elim c.if-is_kept.branch [
  | then-is_kept w ↦ record {
    within = omega (arith, w.count-is);
    counted = w.count-is ∙ kept_more c.args.listed.now c.loop-place.place c.loop-place.count c.loop-place.invariant.counted (sym w.if-is_kept.true ∙ c.is_kept.ensures);
  }
  | else-is_kept w ↦ record {
    within = omega (arith, w.count-is);
    counted = w.count-is ∙ kept_same c.args.listed.now c.loop-place.place c.loop-place.count c.loop-place.invariant.counted (sym w.if-is_kept.false ∙ c.is_kept.ensures);
  }
]
