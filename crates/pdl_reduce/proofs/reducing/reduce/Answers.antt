-- The lists are those along dimension 0, and the result has as many numbers as its dimensions say.
use Rattle.std.proofs.Common.{◌≡◌, ◌*◌, ℕ, ℤ, List, All, length, arith, ap, ap₂, sym, subst, ◌∙◌, drop}
use Rattle.std.specs.List.{flat_map}
use Rattle.pdl_numbers.specs.Typed.{TypedElements}
use Rattle.pdl_elem.specs.declared.Ty.{Ty}
use Rattle.pdl_elem.specs.Types.{InRange}
use Rattle.pdl_shape.specs.Shape.{IsDims, size_of}
use Rattle.pdl_reduce.specs.Reductions.{lists, reduced_dims, reduced_row, reduced_type, width}
use Rattle.pdl_reduce.proofs.ReductionResults.{size_split, result_length}
use Rattle.pdl_reduce.proofs.reducing.reduce.Goals as goal

pub reduced_window-requires-clause-whole : goal.reduced_window-requires-clause-whole
reduced_window-requires-clause-whole c =
    let ds : List ℕ = c.args.a.now.dims in
    let count : c.count_lists.result ≡ size_of (drop 1 ds) = c.count_lists.ensures ∙ ap (λ (xs : List ℕ). size_of (drop 1 xs)) c.strided_dims-dims.ensures.dims in
    let size : c.width-size.result ≡ width ds = c.width-size.ensures ∙ ap width (c.dims_list.ensures.list ∙ c.strided_dims-dims.ensures.dims) in
    ap₂ (λ (n m : ℕ). n * m) count size ∙ size_split ds ∙ sym c.strided_dims-dims.ensures.count

pub reduced_window-requires-clause-small : goal.reduced_window-requires-clause-small
reduced_window-requires-clause-small c =
    let limits : IsDims c.args.a.now.dims = subst IsDims c.strided_dims-dims.ensures.dims c.dims_list.ensures.limits in
    omega (arith, c.strided_dims-dims.ensures.count, c.shape_laws.ensures.sizes.size_within c.args.a.now.dims, limits.within)

pub returns-clause-made : goal.returns-clause-made
returns-clause-made c =
    let ds : List ℕ = c.args.a.now.dims in
    let ty : Ty = c.args.a.now.ty in
    let count : c.count_lists.result ≡ size_of (drop 1 ds) = c.count_lists.ensures ∙ ap (λ (xs : List ℕ). size_of (drop 1 xs)) c.strided_dims-dims.ensures.dims in
    let size : c.width-size.result ≡ width ds = c.width-size.ensures ∙ ap width (c.dims_list.ensures.list ∙ c.strided_dims-dims.ensures.dims) in
    let elems : c.packed.result ≡ flat_map (reduced_row c.args.kind ty) (lists (size_of (drop 1 ds)) (width ds) c.args.a.now.elems) =
    c.packed.ensures ∙ ap (λ (p : TypedElements). p.elems) c.in_ok-made.ensures ∙ ap₂ (λ (n m : ℕ). flat_map (reduced_row c.args.kind ty) (lists n m c.args.a.now.elems)) count size in
    let dims : c.reduced_dims.result ≡ reduced_dims c.args.kind ds = c.reduced_dims.ensures ∙ ap (reduced_dims c.args.kind) c.strided_dims-dims.ensures.dims in
    let same : reduced_type c.args.kind ty ≡ c.reduced_type.result = sym (c.reduced_type.ensures ∙ ap (reduced_type c.args.kind) c.strided_type.ensures) in
    record {
      count = ap (λ (xs : List ℤ). length xs) elems ∙ result_length c.args.kind ty ds c.args.a.now.elems c.strided_dims-dims.ensures.count ∙ ap size_of (sym dims);
      in_range = subst (λ (t : Ty). All (InRange t) c.packed.result) (ap (λ (p : TypedElements). p.ty) c.in_ok-made.ensures ∙ same) (subst (All (InRange c.in_ok-made.made.ty)) (sym c.packed.ensures) c.are_in_range.ensures);
    }
