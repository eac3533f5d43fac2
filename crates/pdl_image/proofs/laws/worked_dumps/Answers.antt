-- They compute.
use Rattle.std.proofs.Common.{refl}
use Rattle.std.specs.Fmt.{digits}
use Rattle.pdl_image.proofs.laws.worked_dumps.Goals as goal

pub returns-clause-indexed : goal.returns-clause-indexed
unfolding digits
returns-clause-indexed c = refl

pub returns-clause-least : goal.returns-clause-least
unfolding digits
returns-clause-least c = refl

pub returns-clause-viewed : goal.returns-clause-viewed
unfolding digits
returns-clause-viewed c = refl

pub returns-clause-arranged : goal.returns-clause-arranged
unfolding digits
returns-clause-arranged c = refl

pub returns-clause-edged : goal.returns-clause-edged
unfolding digits
returns-clause-edged c = refl
