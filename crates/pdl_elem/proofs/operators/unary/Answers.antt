-- The value is that of the operator's function, which is in the result's range.
use Rattle.std.proofs.Common.{neg_ℤ, w64, ap, subst, sym, ◌∙◌}
use Rattle.std.proofs.lemmas.Int.{to_z-of_z}
use Rattle.pdl_elem.specs.Numbers.{wrapped}
use Rattle.pdl_elem.specs.Operators.{unary_value, unary_whole}
use Rattle.pdl_elem.specs.Types.{InRange, unary_result}
use Rattle.pdl_elem.specs.declared.UnaryOp.TheVariants.{Complement}
use Rattle.pdl_elem.proofs.OperatorRanges.{unary_in_range}
use Rattle.pdl_elem.proofs.operators.unary.Goals as goal

pub returns-in-Neg-clause-value : goal.returns-in-Neg-clause-value
returns-in-Neg-clause-value c =
    to_z-of_z w64 c.negative.result (record { sfits = c.negative.type_inv }) ∙ c.negative.ensures
    ∙ ap (λ z. wrapped c.args.ty (neg_ℤ z)) (to_z-of_z w64 c.args.a c.ranges.a)
    ∙ sym (ap (λ op. unary_value op c.args.ty c.args.a) c.in-Neg.is)

pub returns-in-Neg-clause-in_range : goal.returns-in-Neg-clause-in_range
returns-in-Neg-clause-in_range c =
    subst (InRange (unary_result c.args.op c.args.ty)) (sym (returns-in-Neg-clause-value c)) (unary_in_range c.args.op c.args.ty c.args.a)

pub returns-in-Complement-clause-value : goal.returns-in-Complement-clause-value
returns-in-Complement-clause-value c =
    to_z-of_z w64 c.complement.result (record { sfits = c.complement.type_inv }) ∙ c.complement.ensures
    ∙ ap (λ z. wrapped c.args.ty (unary_whole Complement c.args.ty z)) (to_z-of_z w64 c.args.a c.ranges.a)
    ∙ sym (ap (λ op. unary_value op c.args.ty c.args.a) c.in-Complement.is)

pub returns-in-Complement-clause-in_range : goal.returns-in-Complement-clause-in_range
returns-in-Complement-clause-in_range c =
    subst (InRange (unary_result c.args.op c.args.ty)) (sym (returns-in-Complement-clause-value c)) (unary_in_range c.args.op c.args.ty c.args.a)
