use Rattle.std.proofs.Common.{ap, ◌∙◌, length, drop}
use Rattle.std.specs.List.{filter}
use Rattle.pdl_shape.specs.Limits.{checked_dims}
use Rattle.pdl_choice.specs.Range.{is_positive}
use Rattle.pdl_choice.proofs.ChoiceLimits.{checked_dims-capped, ok_of, err_of}
use Rattle.pdl_choice.proofs.windows.windowed.Goals as goal

pub returns-clause-dims : goal.returns-clause-dims
returns-clause-dims c =
    ok_of _ _ _ c.limited.ensures.dims (ap checked_dims (c.deref.ensures.value ∙ c.in_ok-sizes.ensures) ∙ checked_dims-capped c.shape_laws.ensures.sizes c.args.outer.now (filter is_positive c.args.windows.now) (drop (length c.args.windows.now) c.args.parent.now))

pub returns-clause-refusal : goal.returns-clause-refusal
returns-clause-refusal c =
    err_of _ _ _ c.limited.ensures.dims (ap checked_dims (c.deref.ensures.value ∙ c.in_ok-sizes.ensures) ∙ checked_dims-capped c.shape_laws.ensures.sizes c.args.outer.now (filter is_positive c.args.windows.now) (drop (length c.args.windows.now) c.args.parent.now))
