use Rattle.std.proofs.Common.{◌++◌, ◌∙◌, ap}
use Rattle.pdl_nice.proofs.PlainWhole.{rest_is}
use Rattle.pdl_nice.proofs.rewriting.write_end.Goals as goal

pub returns : goal.returns
returns c =
    c.in_ok-extend_from_slice.ensures.items
    ∙ ap (λ bs. c.args.into.now.items ++ bs)
    (rest_is c.args.text.now c.args.tokens.now c.between.result.now c.end_before-end.result c.end_before-end.ensures c.between.ensures)
