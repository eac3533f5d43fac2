use Rattle.pdl_numbers.proofs.ShownLemmas.{shown}
use Rattle.pdl_numbers.proofs.laws.shown_laws.Goals as goal

pub returns : goal.returns
returns c = shown c.shape_laws.ensures.positions
