-- The wrapped sum of two words is the sum wrapped.
use Rattle.std.proofs.Common.{w64, ◌∙◌}
use Rattle.std.proofs.lemmas.Int.{to_z-of_z}
use Rattle.pdl_elem.proofs.OperatorWords.{wrapped_sum}
use Rattle.pdl_elem.proofs.words.sum.Goals as goal

pub returns : goal.returns
returns c =
    to_z-of_z w64 c.wrap_word.result (record { sfits = c.wrap_word.type_inv }) ∙ c.wrap_word.ensures
    ∙ wrapped_sum c.args.ty c.args.a c.args.b c.ranges.a c.ranges.b
