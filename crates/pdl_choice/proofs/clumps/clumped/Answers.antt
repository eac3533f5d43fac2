use Rattle.std.proofs.Common.{◌∙◌, ap}
use Rattle.pdl_shape.specs.Limits.{checked_dims}
use Rattle.pdl_choice.proofs.ChoiceLimits.{checked_dims-fits, clumped_limits}
use Rattle.pdl_choice.proofs.clumps.clumped.Goals as goal

pub unreachable-requires : goal.unreachable-requires
unreachable-requires c =
    let fits = checked_dims-fits _ (clumped_limits c.shape_laws.ensures.sizes c.args.parent.now c.args.joined c.requires.limits c.requires.some c.requires.enough) in
    let same = ap checked_dims (c.deref.ensures.value ∙ c.in_ok-sizes.ensures) in
    cc (c.in-Err.ensures, same, fits)
