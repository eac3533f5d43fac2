use Rattle.pdl_elem.proofs.NumbersUnwrapped.{wrapped_in_sum, wrapped_in_product}
use Rattle.pdl_elem.proofs.laws.congruence_laws.Goals as goal

pub returns : goal.returns
returns c = record { sum = wrapped_in_sum; product = wrapped_in_product }
