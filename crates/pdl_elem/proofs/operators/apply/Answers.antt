-- What each operator's function gives is the operator's value.
use Rattle.std.proofs.Common.{ap, sym, ◌∙◌}
use Rattle.pdl_elem.specs.Operators.{value_of}
use Rattle.pdl_elem.specs.declared.BinaryOp.TheVariants.{And, Or, Xor}
use Rattle.pdl_elem.proofs.OperatorWords.{told}
use Rattle.pdl_elem.proofs.operators.apply.Goals as goal

pub returns-in-And : goal.returns-in-And
returns-in-And c =
    told (value_of And c.args.ty) _ _ _ (record { sfits = c.bitwise_and.type_inv }) c.ranges.a c.ranges.b c.bitwise_and.ensures
    ∙ sym (ap (λ op. value_of op c.args.ty c.args.a c.args.b) c.in-And.is)

pub returns-in-Or : goal.returns-in-Or
returns-in-Or c =
    told (value_of Or c.args.ty) _ _ _ (record { sfits = c.bitwise_or.type_inv }) c.ranges.a c.ranges.b c.bitwise_or.ensures
    ∙ sym (ap (λ op. value_of op c.args.ty c.args.a c.args.b) c.in-Or.is)

pub returns-in-Xor : goal.returns-in-Xor
returns-in-Xor c =
    told (value_of Xor c.args.ty) _ _ _ (record { sfits = c.bitwise_xor.type_inv }) c.ranges.a c.ranges.b c.bitwise_xor.ensures
    ∙ sym (ap (λ op. value_of op c.args.ty c.args.a c.args.b) c.in-Xor.is)
