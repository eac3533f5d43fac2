use Rattle.std.proofs.Common.{rules}
use Rattle.std.proofs.lemmas.Int.{wraps}
use Rattle.pdl_numbers.proofs.sums.add.Goals as goal

pub returns : goal.returns
returns c = search (rules, wraps)
