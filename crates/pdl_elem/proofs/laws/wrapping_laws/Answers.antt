use Rattle.pdl_elem.proofs.OperatorRanges.{in_longlong, only_longlong}
use Rattle.pdl_elem.proofs.NumbersUnwrapped.{wrapped_same, zero_in_range}
use Rattle.pdl_elem.proofs.NumbersWrapped.{wraps, wrapped_int_wrap}
use Rattle.pdl_elem.proofs.laws.wrapping_laws.Goals as goal

pub returns : goal.returns
returns c = record { in_range = λ t n. (wraps t n).in_range; same = wrapped_same; late = wrapped_int_wrap; zero = zero_in_range; widest = in_longlong; least = only_longlong }
