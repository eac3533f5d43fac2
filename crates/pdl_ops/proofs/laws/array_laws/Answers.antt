use Rattle.pdl_ops.proofs.ElementwiseForms.{converted_array, elementwise_array, forms_alike, never_divides, unary_array}
use Rattle.pdl_ops.proofs.laws.array_laws.Goals as goal

pub returns-clause-form : goal.returns-clause-form
returns-clause-form c = record { undivided = never_divides; alike = forms_alike }

pub returns-clause-arrays : goal.returns-clause-arrays
returns-clause-arrays c =
    record {
      unary = unary_array c.operator_laws.ensures;
      convert = converted_array c.wrapping_laws.ensures;
      binary = elementwise_array c.operator_laws.ensures;
    }
