use Rattle.pdl_elem.proofs.OperatorRanges.{binary_in_range, unary_in_range}
use Rattle.pdl_elem.proofs.laws.operator_laws.Goals as goal

pub returns : goal.returns
returns c = record { unary = unary_in_range; binary = binary_in_range }
