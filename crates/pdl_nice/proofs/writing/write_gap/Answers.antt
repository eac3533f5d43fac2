use Rattle.std.proofs.Common.{◌++◌, ◌∙◌, ap}
use Rattle.pdl_nice.proofs.WritingPlaces.{gap_is}
use Rattle.pdl_nice.proofs.writing.write_gap.Goals as goal

pub returns : goal.returns
returns c =
    c.in_ok-extend_from_slice.ensures.items
    ∙ ap (λ bs. c.args.into.now.items ++ bs)
    (gap_is c.args.text.now c.between.result.now c.args.tokens.now c.args.at c.end_before-start.result _ c.requires c.end_before-start.ensures c.between.ensures)
