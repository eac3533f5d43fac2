use Rattle.std.proofs.Common.{refl}
use Rattle.pdl_world.proofs.worked_reshapes.Goals as goal

pub returns : goal.returns
returns c = record { runs_over = refl; runs_further = refl; no_break = refl; mask_breaks = refl; slice_breaks = refl; view_cut = refl; view_breaks = refl; slice_short = refl }
