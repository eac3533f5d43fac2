use Rattle.std.proofs.Common.{length, ap, sym, ◌∙◌}
use Rattle.std.proofs.lemmas.List.{take_more}
use Rattle.pdl_image.specs.Adding.{mask_part}
use Rattle.pdl_image.proofs.DumpMasks.{part_none, part_step}
use Rattle.pdl_image.proofs.masks.mark_each.Goals as goal

pub loop-place-init : goal.loop-place-init
loop-place-init c = c.fill.ensures.after (λ y e. e) ∙ part_none c.args.first (length c.args.part.now)

pub loop-place-preserved : goal.loop-place-preserved
loop-place-preserved c =
    part_step c.args.first (length c.args.part.now) _ _ _ _ c.loop-place.invariant c.mark.ensures.before c.mark.ensures.inside c.mark.ensures.past
    ∙ ap (mask_part c.args.first (length c.args.part.now)) (sym (take_more c.args.places.now c.loop-place.place-index 0 c.loop-place-test.true))
