use Rattle.pdl_affine.proofs.ViewPlaces.{sources_lie_within}
use Rattle.pdl_affine.proofs.laws.view_laws.Goals as goal

pub returns : goal.returns
returns c = record { sources = sources_lie_within c.shape_laws.ensures.positions }
