use Rattle.std.proofs.Common.{arith, ℕ, List, ◌≤◌, take, subst, sym}
use Rattle.pdl_shape.specs.Shape.{extent, extent_limit}
use Rattle.pdl_choice.proofs.ChoiceLimits.{extent-take}
use Rattle.pdl_choice.proofs.clumps.clumped_sizes.Goals as goal

pub count_of-product-requires : goal.count_of-product-requires
count_of-product-requires c =
    let front : extent (take c.args.joined c.args.parent.now) ≤ extent_limit = omega (arith, extent-take c.shape_laws.ensures.sizes c.args.joined c.args.parent.now, c.requires.limits.within) in
    subst (λ (ds : List ℕ). extent ds ≤ extent_limit) (sym c.split_at.ensures.front) front
