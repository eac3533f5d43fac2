use Rattle.std.proofs.Common.{◌≤◌, ℕ, List, All, sym, subst}
use Rattle.pdl_session.proofs.ShapeSizes.{sizes_small}
use Rattle.pdl_session.proofs.inquiry.size_at.Goals as goal

pub long_number-requires : goal.long_number-requires
long_number-requires c =
    let P : List ℕ → Type 0 = λ ds. All (λ n. n ≤ 1048576) ds in
    let small : P c.dims_list-sizes.result.now =
    subst P (sym c.dims_list-sizes.ensures.list) (sizes_small c.shape_laws.ensures.sizes.extent_above c.dims.result.now 1048576 c.dims.ensures.limits.within) in
    small c.in-Some.place 0 c.in-Some.ensures.bound
