-- The blocks of both arrays are ready, and their products are the elements.
use Rattle.std.proofs.Common.{◌≡◌, ℕ, List, drop, ap, ap₂, ◌∙◌}
use Rattle.std.specs.Prelude.{slice_index_or}
use Rattle.pdl_buf.specs.Made.{array_of}
use Rattle.pdl_reduce.specs.Blocks.{core_count}
use Rattle.pdl_reduce.proofs.BlockReadiness.{Prepared, elements_for, if_ok_as, joins_for, kept, joins_ok, prepared_by, ready_for}
use Rattle.pdl_reduce.proofs.products.elements.Goals as goal

pub broadcast_dims-joined-requires : goal.broadcast_dims-joined-requires
broadcast_dims-joined-requires c =
    let n : ℕ = core_count c.args.kind in
    let xs : c.dims_after-xs.result ≡ drop n c.args.a.now.dims = c.dims_after-xs.ensures ∙ ap₂ (λ (k : ℕ) (ds : List ℕ). drop k ds) c.core_count.ensures c.strided_dims-first.ensures.dims in
    let ys : c.dims_after-ys.result ≡ drop n c.args.b.now.dims = c.dims_after-ys.ensures ∙ ap₂ (λ (k : ℕ) (ds : List ℕ). drop k ds) c.core_count-2.ensures c.strided_dims-second.ensures.dims in
    joins_ok c.dims_after-xs.result c.dims_after-ys.result c.args.resolved.now.broadcast (joins_for c.args.kind c.args.resolved.now (array_of c.args.a.now) (array_of c.args.b.now) _ _ c.requires xs ys)

pub block_products-requires : goal.block_products-requires
block_products-requires c =
    let ready : Prepared c.args.kind c.args.resolved.now (array_of c.args.a.now) (array_of c.args.b.now) c.dims_after-xs.result c.dims_after-ys.result c.broadcast_dims-joined.result c.sizes_of-sizes.result =
    prepared_by c.args.kind c.args.resolved.now (array_of c.args.a.now) (array_of c.args.b.now) _ _ _ _ _ _ _ _ _ _ _ c.shape_laws.ensures.sizes (record { laws = c.shape_laws.ensures.positions; cuts = c.shape_laws.ensures.cuts })
    c.core_count.ensures c.core_count-2.ensures c.strided_dims-first.ensures.dims c.strided_dims-second.ensures.dims c.dims_list.ensures.list c.dims_list-2.ensures.list
    c.dims_list.ensures.limits c.dims_list-2.ensures.limits
    c.strided_dims-first.ensures.count c.strided_dims-second.ensures.count c.requires c.dims_after-xs.ensures c.dims_after-ys.ensures c.broadcast_dims-joined.ensures.joined
    c.broadcast_dims-joined.ensures.stretched.0 c.broadcast_dims-joined.ensures.stretched.1 (c.size_at-depth.ensures ∙ ap (λ (ns : List ℕ). slice_index_or ns 0 1) c.as_slice.ensures) c.sizes_of-sizes.ensures in
    ready_for c.args.kind c.args.resolved.now (array_of c.args.a.now) (array_of c.args.b.now) _ _ _ _ ready

pub returns : goal.returns
returns c =
    let ready : Prepared c.args.kind c.args.resolved.now (array_of c.args.a.now) (array_of c.args.b.now) c.dims_after-xs.result c.dims_after-ys.result c.broadcast_dims-joined.result c.sizes_of-sizes.result =
    prepared_by c.args.kind c.args.resolved.now (array_of c.args.a.now) (array_of c.args.b.now) _ _ _ _ _ _ _ _ _ _ _ c.shape_laws.ensures.sizes (record { laws = c.shape_laws.ensures.positions; cuts = c.shape_laws.ensures.cuts })
    c.core_count.ensures c.core_count-2.ensures c.strided_dims-first.ensures.dims c.strided_dims-second.ensures.dims c.dims_list.ensures.list c.dims_list-2.ensures.list
    c.dims_list.ensures.limits c.dims_list-2.ensures.limits
    c.strided_dims-first.ensures.count c.strided_dims-second.ensures.count c.requires c.dims_after-xs.ensures c.dims_after-ys.ensures c.broadcast_dims-joined.ensures.joined
    c.broadcast_dims-joined.ensures.stretched.0 c.broadcast_dims-joined.ensures.stretched.1 (c.size_at-depth.ensures ∙ ap (λ (ns : List ℕ). slice_index_or ns 0 1) c.as_slice.ensures) c.sizes_of-sizes.ensures in
    if_ok_as c.block_products.result _ _ c.block_products.ensures
    (ap (kept c.args.resolved.now.generic) (elements_for c.args.kind c.args.resolved.now (array_of c.args.a.now) (array_of c.args.b.now) _ _ _ _ ready))
