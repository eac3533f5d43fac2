use Rattle.std.proofs.Common.{◌*◌, min, get_or, refl, ap, ◌∙◌, arith}
use Rattle.pdl_sig.proofs.ShapeWork.{work_more}
use Rattle.pdl_sig.proofs.shapes.is_too_much.Goals as goal

pub loop-size-preserved : goal.loop-size-preserved
loop-size-preserved c = record {
  bound = omega (arith, c.min-work.ensures);
  cut = work_more c.loop-size.work c.min-work.result c.max.result c.args.sizes.now c.loop-size.size-index (get_or c.args.sizes.now c.loop-size.size-index 0) 16777217 _
      c.loop-size-test.true refl c.max.ensures (c.min-work.ensures ∙ ap (λ m. min (c.loop-size.work * m) 16777217) c.from.ensures) c.loop-size.invariant.cut;
}
