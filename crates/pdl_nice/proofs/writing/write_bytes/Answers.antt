use Rattle.std.proofs.Common.{◌++◌, sym, ◌∙◌, ap}
use Rattle.pdl_nice.proofs.WritingPlaces.{bytes_there}
use Rattle.pdl_nice.proofs.writing.write_bytes.Goals as goal

pub returns : goal.returns
returns c =
    c.in_ok-extend_from_slice.ensures.items
    ∙ ap (λ bs. c.args.into.now.items ++ bs) (c.between.ensures ∙ sym (bytes_there c.args.text.now c.args.tokens.now c.args.at _ c.requires))
