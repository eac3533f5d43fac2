-- A word turned round and wrapped is the number turned round and wrapped.
use Rattle.std.proofs.Common.{ap, neg_ℤ, w64, ◌∙◌}
use Rattle.std.proofs.lemmas.Int.{to_z-of_z, wrapping_neg_is}
use Rattle.std.specs.Int.{int_wrapping_neg}
use Rattle.pdl_elem.specs.Numbers.{wrapped}
use Rattle.pdl_elem.proofs.NumbersWrapped.{wrapped_int_wrap}
use Rattle.pdl_elem.proofs.words.negative.Goals as goal

pub returns : goal.returns
returns c =
    to_z-of_z w64 c.wrap_word.result (record { sfits = c.wrap_word.type_inv }) ∙ c.wrap_word.ensures
    ∙ ap (wrapped c.args.ty) (to_z-of_z w64 c.wrapping_neg.result (record { sfits = c.wrapping_neg.type_inv }) ∙ c.wrapping_neg.ensures
    ∙ ap (int_wrapping_neg w64) (to_z-of_z w64 c.args.a c.ranges.a) ∙ wrapping_neg_is w64 c.args.a c.ranges.a)
    ∙ wrapped_int_wrap c.args.ty (neg_ℤ c.args.a)
