use Rattle.std.proofs.Common.{◌≡◌, ◌++◌, ◌-◌, ◌∙◌, ℤ, pos, List, All, length, take, min, replicate, ap, sym, subst}
use Rattle.pdl_numbers.specs.Typed.{TypedElements}
use Rattle.pdl_elem.specs.Types.{InRange}
use Rattle.pdl_elem.specs.declared.Ty.{Ty}
use Rattle.pdl_shape.specs.Shape.{size_of}
use Rattle.pdl_engine.proofs.CutPacks.{fitted_parts}
use Rattle.pdl_engine.proofs.severing.first_shown.Goals as goal

pub returns-clause-items : goal.returns-clause-items
returns-clause-items c =
    let shown : c.min-shown.result ≡ min (length c.args.window.now.elems) c.args.count =
    c.min-shown.ensures ∙ ap (λ k. min k c.args.count) (c.elements_of.ensures.count ∙ ap size_of c.strided_dims.ensures.dims ∙ sym c.strided_dims.ensures.count) in
    c.packed.ensures ∙ c.in_ok-pack_zeros.ensures.ok
    ∙ ap (λ (x : List ℤ). x ++ replicate (c.args.count - c.min-shown.result) (pos 0)) (c.in_ok-pack_shown.ensures.ok ∙ ap (λ (p : TypedElements). p.elems ++ take c.min-shown.result c.args.window.now.elems) c.in_ok-packing.ensures)
    ∙ fitted_parts c.args.count c.min-shown.result c.args.window.now.elems shown

pub returns-clause-in_range : goal.returns-clause-in_range
returns-clause-in_range c =
    let ty : c.pack_zeros.new.packing.ty ≡ c.args.window.now.ty =
    c.in_ok-pack_zeros.ensures.same_type ∙ c.in_ok-pack_shown.ensures.same_type ∙ ap (λ (p : TypedElements). p.ty) c.in_ok-packing.ensures ∙ c.strided_type.ensures in
    subst (λ (es : List ℤ). All (InRange c.args.window.now.ty) es) (sym c.packed.ensures)
    (subst (λ (t : Ty). All (InRange t) c.pack_zeros.new.packing.elems) ty c.are_in_range.ensures)
