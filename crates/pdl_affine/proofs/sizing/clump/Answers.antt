use Rattle.std.proofs.Common.{le_trans}
use Rattle.pdl_affine.proofs.ViewSizes.{extent_take, no_size}
use Rattle.pdl_affine.proofs.sizing.clump.Goals as goal

pub unreachable-requires : goal.unreachable-requires
unreachable-requires c = no_size _ _ _ (le_trans (extent_take c.args.count c.args.parent.now) c.requires.limits.within) c.in-None.ensures
