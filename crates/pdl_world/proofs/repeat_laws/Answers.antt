use Rattle.pdl_world.proofs.WindowLawRepeats.{repeats_have_positions, positions_repeat}
use Rattle.pdl_world.proofs.repeat_laws.Goals as goal

pub returns-clause-found : goal.returns-clause-found
returns-clause-found c = repeats_have_positions

pub returns-clause-repeated : goal.returns-clause-repeated
returns-clause-repeated c = positions_repeat
