-- What the operator gives is a number of its result type.
use Rattle.std.proofs.Common.{◌≡◌, arith, rules, sym, subst, to_z, of_z}
use Rattle.std.proofs.lemmas.Int.{to_z-of_z}
use Rattle.std.specs.Int.{w64}
use Rattle.pdl_elem.specs.Types.{InRange, binary_result}
use Rattle.pdl_elem.specs.Numbers.{wrapped}
use Rattle.pdl_elem.specs.Operators.{binary_whole}
use Rattle.pdl_elem.proofs.OperatorRanges.{binary_in_range}
use Rattle.pdl_elem.proofs.operators.binary.Goals as goal
use Rattle.pdl_elem.proofs.operators.binary.Goals.{in-Div, in_default}

pub returns-clause-in_range : goal.returns-clause-in_range
returns-clause-in_range c =
    let e : to_z w64 (of_z w64 c.apply.result) ≡ wrapped c.args.ty (binary_whole c.args.op c.args.ty c.args.a c.args.b) = grind (arith, to_z-of_z, c.apply.ensures) in
    subst (λ r. InRange (binary_result c.args.op c.args.ty c.args.ty) r) (sym e) (binary_in_range c.args.op c.args.ty c.args.a c.args.b)

pub returns-clause-value : goal.returns-clause-value
returns-clause-value c = elim c.match-matches.branch [
  | in-Div w ↦ search rules
  | in_default w ↦ search rules
]
