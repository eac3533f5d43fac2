-- A word's bits flipped are, at the type's width, the pattern's flipped.
use Rattle.std.proofs.Common.{w64, ◌∙◌}
use Rattle.std.proofs.lemmas.Int.{to_z-of_z}
use Rattle.pdl_elem.proofs.OperatorWords.{wrapped_not}
use Rattle.pdl_elem.proofs.words.complement.Goals as goal

pub returns : goal.returns
returns c =
    to_z-of_z w64 c.wrap_word.result (record { sfits = c.wrap_word.type_inv }) ∙ c.wrap_word.ensures
    ∙ wrapped_not c.args.ty c.args.a c.ranges.a
