-- Of the word's bits those of the type are kept.
use Rattle.std.proofs.Common.{pos, ap, w64, ◌∙◌}
use Rattle.std.proofs.lemmas.Int.{to_z-of_z}
use Rattle.std.specs.Int.{cast_unsigned}
use Rattle.pdl_elem.specs.Numbers.{wrapped}
use Rattle.pdl_elem.proofs.NumbersWrapped.{wrapped_unsigned}
use Rattle.pdl_elem.proofs.words.wrap_word.Goals as goal

pub returns-in_default : goal.returns-in_default
returns-in_default c =
    to_z-of_z w64 c.narrow.result (record { sfits = c.narrow.type_inv }) ∙ c.narrow.ensures
    ∙ ap (λ m. wrapped c.args.ty (pos m)) (c.cast_unsigned-word.ensures ∙ ap (cast_unsigned w64) (to_z-of_z w64 c.args.n c.ranges.n))
    ∙ wrapped_unsigned c.args.ty c.args.n c.ranges.n
