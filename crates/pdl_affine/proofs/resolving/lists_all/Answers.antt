use Rattle.std.proofs.Common.{ap, sym, ◌∙◌, ◌&&◌, ◌+◌}
use Rattle.pdl_affine.proofs.CoursePlaces.{left, left_step}
use Rattle.pdl_affine.proofs.resolving.lists_all.Goals as goal

pub loop-place-preserved : goal.loop-place-preserved
loop-place-preserved c =
    c.loop-place.invariant ∙ left_step c.args.places.now c.loop-place.place c.args.count c.loop-place-test.true
    ∙ ap (λ b. b && left c.args.places.now (c.loop-place.place + 1) c.args.count) (sym c.if-not-lists.ensures)
