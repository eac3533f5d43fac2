use Rattle.std.proofs.Common.{length, ◌∙◌}
use Rattle.pdl_image.proofs.DumpMasks.{parts_agree}
use Rattle.pdl_image.proofs.masks.read_mask.Goals as goal

pub returns : goal.returns
returns c =
    c.mark_each.ensures
    ∙ parts_agree c.args.first (length c.args.part.now) c.places_within-within.result.now c.args.places.now c.places_within-within.ensures
