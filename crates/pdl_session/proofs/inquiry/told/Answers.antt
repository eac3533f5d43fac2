use Rattle.std.proofs.Common.{◌≡◌, ◌≤◌, ℕ, List, All, length, sym, ap, subst, ◌∙◌, arith}
use Rattle.pdl_shape.specs.Shape.{size_of}
use Rattle.pdl_world.specs.World.{dims_in}
use Rattle.pdl_session.proofs.ShapeSizes.{sizes_small, below_small}
use Rattle.pdl_session.proofs.inquiry.told.Goals as goal

pub long_numbers-requires-clause-small : goal.long_numbers-requires-clause-small
long_numbers-requires-clause-small g c =
    subst (λ (ds : List ℕ). All (λ n. n ≤ 1048576) ds) (sym c.dims_list-in-Shape.ensures.list)
    (sizes_small c.shape_laws.ensures.sizes.extent_above c.dims-in-Shape.result.now 1048576 c.dims-in-Shape.ensures.limits.within)

pub long_numbers-requires-in-Which-clause-few : goal.long_numbers-requires-in-Which-clause-few
long_numbers-requires-in-Which-clause-few g c =
    let same : c.as_slice.result.now ≡ c.in_ok-places-in-Which.places = c.as_slice.ensures in
    let n : c.elements_of-count.result ≡ size_of (dims_in c.args.scope.now.arrays.world c.args.id) = c.elements_of-count.ensures.count ∙ ap size_of c.dims.ensures.now in
    omega (arith, ap length same, n, c.elements_of-count.ensures.bound, c.in_ok-places-in-Which.ensures.few)

pub long_numbers-requires-in-Which-clause-small : goal.long_numbers-requires-in-Which-clause-small
long_numbers-requires-in-Which-clause-small g c =
    let count = size_of (dims_in c.args.scope.now.arrays.world c.args.id) in
    let n : c.elements_of-count.result ≡ count = c.elements_of-count.ensures.count ∙ ap size_of c.dims.ensures.now in
    subst (λ (ps : List ℕ). All (λ p. p ≤ 1048576) ps) (sym c.as_slice.ensures)
    (below_small c.in_ok-places-in-Which.places count 1048576 (omega (arith, n, c.elements_of-count.ensures.bound)) c.in_ok-places-in-Which.ensures.below)
