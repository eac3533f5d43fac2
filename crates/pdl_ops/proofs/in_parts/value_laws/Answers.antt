use Rattle.pdl_ops.proofs.ValueCuts.{length_values, values_cut}
use Rattle.pdl_ops.proofs.ValueFitting.{stretched_itself}
use Rattle.pdl_ops.proofs.in_parts.value_laws.Goals as goal

pub returns-clause-parts : goal.returns-clause-parts
returns-clause-parts c = values_cut

pub returns-clause-as_many : goal.returns-clause-as_many
returns-clause-as_many c = length_values

pub returns-clause-itself : goal.returns-clause-itself
returns-clause-itself c = stretched_itself c.shape_laws.ensures.positions
