use Rattle.pdl_sig.proofs.KnownReadings.{inner_signs, outer_signs, matmult_signs}
use Rattle.pdl_sig.proofs.laws.pairings_are_signed.Goals as goal

pub returns : goal.returns
returns c = record { inner = inner_signs; outer = outer_signs; matmult = matmult_signs }
