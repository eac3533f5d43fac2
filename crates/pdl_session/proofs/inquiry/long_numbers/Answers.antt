use Rattle.std.proofs.Common.{rules, ◌≡◌, [], ◌∷◌, length, ◌∙◌}
use Rattle.pdl_session.proofs.ShapeSizes.{numbers_made}
use Rattle.pdl_session.proofs.inquiry.long_numbers.Goals as goal

pub returns-clause-made : goal.returns-clause-made
returns-clause-made c =
    let dims : c.in-Ok.dims ≡ length c.args.numbers.now ∷ [] = search rules in
    numbers_made c.args.numbers.now c.in-Ok.dims c.new.result dims (c.new.ensures ∙ c.in_ok-elems.ensures) c.requires.small
