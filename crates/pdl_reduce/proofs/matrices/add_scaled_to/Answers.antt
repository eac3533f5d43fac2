-- The product may wrap before the sum does.
use Rattle.std.proofs.Common.{rules}
use Rattle.std.proofs.lemmas.Int.{wraps, wrapping_add-bits}
use Rattle.std.specs.Int.{w64}
use Rattle.pdl_reduce.proofs.matrices.add_scaled_to.Goals as goal

pub returns : goal.returns
returns c = search (rules, wraps, wrapping_add-bits w64)
