-- The rest is a number of the type, so to wrap it changes nothing.
use Rattle.std.proofs.Common.{◌∙◌, sym}
use Rattle.pdl_elem.specs.Operators.{modulo}
use Rattle.pdl_elem.proofs.OperatorWords.{told}
use Rattle.pdl_elem.proofs.NumbersUnwrapped.{wrapped_same, modulo_in_range}
use Rattle.pdl_elem.proofs.words.remainder.Goals as goal

pub returns : goal.returns
returns c =
    told modulo _ _ _ (record { sfits = c.rest_of.type_inv }) c.ranges.a c.ranges.b c.rest_of.ensures
    ∙ sym (wrapped_same c.args.ty (modulo c.args.a c.args.b) (modulo_in_range c.args.ty c.args.a c.args.b c.requires.right c.requires.divisor))
