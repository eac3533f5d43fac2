-- One number is made.
use Rattle.std.proofs.Common.{◌≡◌, ◌*◌, ℕ, ℤ, List, [], ◌∷◌, All, length, arith, ap, sym, subst, ◌∙◌}
use Rattle.std.specs.List.{flat_map}
use Rattle.pdl_numbers.specs.Typed.{TypedElements}
use Rattle.pdl_elem.specs.declared.Ty.{Ty}
use Rattle.pdl_elem.specs.Types.{InRange}
use Rattle.pdl_shape.specs.Shape.{size_of}
use Rattle.pdl_reduce.specs.Reductions.{lists, reduced_row, reduced_type}
use Rattle.pdl_reduce.proofs.ReductionResults.{result_length}
use Rattle.pdl_reduce.proofs.reducing.reduce_flat.Goals as goal

pub returns-clause-made : goal.returns-clause-made
returns-clause-made c =
    let n : ℕ = c.elements_of-count.result in
    let ty : Ty = c.args.a.now.ty in
    let elems : c.packed.result ≡ flat_map (reduced_row c.args.kind ty) (lists 1 n c.args.a.now.elems) = c.packed.ensures ∙ ap (λ (p : TypedElements). p.elems) c.in_ok-made.ensures in
    let all : length c.args.a.now.elems ≡ n = c.strided_dims.ensures.count ∙ sym (c.elements_of-count.ensures.count ∙ ap size_of c.strided_dims.ensures.dims) in
    let whole : length c.args.a.now.elems ≡ n * 1 = omega (arith, all) in
    let none : size_of [] ≡ size_of c.dims_within.result = ap size_of (sym c.dims_within.ensures) in
    let same : reduced_type c.args.kind ty ≡ c.reduced_type.result = sym (c.reduced_type.ensures ∙ ap (reduced_type c.args.kind) c.strided_type.ensures) in
    record {
      count = ap (λ (xs : List ℤ). length xs) elems ∙ result_length c.args.kind ty (n ∷ []) c.args.a.now.elems whole ∙ ap size_of (c.requires.drops n) ∙ none;
      in_range = subst (λ (t : Ty). All (InRange t) c.packed.result) (ap (λ (p : TypedElements). p.ty) c.in_ok-made.ensures ∙ same) (subst (All (InRange c.in_ok-made.made.ty)) (sym c.packed.ensures) c.are_in_range.ensures);
    }
