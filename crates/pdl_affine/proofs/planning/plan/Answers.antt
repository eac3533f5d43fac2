use Rattle.std.proofs.Common.{sym, subst}
use Rattle.pdl_affine.specs.Courses.{AreSmall}
use Rattle.pdl_affine.proofs.ViewSizes.{dims_small}
use Rattle.pdl_affine.proofs.planning.plan.Goals as goal

pub resolve-requires-clause-small : goal.resolve-requires-clause-small
resolve-requires-clause-small c = subst AreSmall (sym c.dims_list-sizes.ensures.list) (dims_small c.args.parent.now c.dims_list-sizes.ensures.limits)
