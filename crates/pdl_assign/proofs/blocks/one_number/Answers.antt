-- The number is the window's one, wrapped.
use Rattle.std.proofs.Common.{arith, ◌≡◌, ◌≢◌, ℤ, pos, get_or, to_z, of_z, w64, sym, ◌∙◌, ap, subst}
use Rattle.std.specs.Int.{w128}
use Rattle.std.proofs.lemmas.Int.{ints, to_z-of_z}
use Rattle.pdl_elem.specs.Numbers.{wrapped}
use Rattle.pdl_elem.specs.Types.{promoted}
use Rattle.pdl_elem.specs.declared.Ty.{Ty}
use Rattle.pdl_shape.specs.Shape.{size_of}
use Rattle.pdl_assign.specs.Blocks.{number_at}
use Rattle.pdl_assign.proofs.blocks.one_number.Goals as goal

pub returns-else-is_zero : goal.returns-else-is_zero
returns-else-is_zero c =
    let first : to_z w128 (of_z w128 c.from.result) ≡ get_or c.args.from.now.elems 0 (pos 0) =
    to_z-of_z w128 c.from.result (record { sfits = c.from.type_inv }) ∙ c.from.ensures ∙ to_z-of_z w64 c.strided_get.result (record { sfits = c.strided_get.type_inv })
    ∙ c.strided_get.ensures.value in
    let number : to_z w64 (of_z w64 c.wrap-number.result) ≡ number_at c.args.ty c.args.from.now =
    to_z-of_z w64 c.wrap-number.result (record { sfits = c.wrap-number.type_inv }) ∙ c.wrap-number.ensures.value ∙ ap (wrapped c.args.ty) first in (
      record {
        one = sym (c.elements_of-is_one.ensures.count ∙ ap size_of c.strided_dims.ensures.dims) ∙ c.if-not-is_one.false;
        works_at = ap (λ (y : Ty). promoted c.args.ty y) (sym c.strided_type.ensures) ∙ c.works_at.ensures.0 c.if-not-works_at.false;
        some = subst (λ (z : ℤ). z ≢ pos 0) number (omega (arith, ints, c.if-is_zero.false));
      },
      number,
    )
