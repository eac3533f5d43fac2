use Rattle.std.proofs.Common.{◌-◌, arith, drop, length}
use Rattle.pdl_choice.proofs.ChoiceLimits.{extent-take}
use Rattle.pdl_choice.proofs.windows.window_rounds.Goals as goal

pub count_of-rest-requires : goal.count_of-rest-requires
count_of-rest-requires c =
    omega (arith, extent-take c.shape_laws.ensures.sizes (length c.args.parent.now - length c.args.windows.now) (drop (length c.args.windows.now) c.args.parent.now), c.shape_laws.ensures.sizes.rest_within c.args.parent.now (length c.args.windows.now), c.requires.bounded)
