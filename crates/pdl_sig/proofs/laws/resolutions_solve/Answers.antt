use Rattle.pdl_sig.proofs.SolutionLemmas.{solves}
use Rattle.pdl_sig.proofs.laws.resolutions_solve.Goals as goal

pub returns : goal.returns
returns c = solves
