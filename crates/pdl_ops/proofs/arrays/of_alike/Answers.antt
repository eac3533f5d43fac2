-- The answer from its parts.
use Rattle.std.proofs.Common.{ap, ap₂, ◌∙◌}
use Rattle.pdl_elem.specs.declared.Ty.{Ty}
use Rattle.pdl_elem.specs.Types.{promoted, binary_result}
use Rattle.pdl_ops.proofs.ElementwiseResults.{of_alike_ok, result_at}
use Rattle.pdl_ops.proofs.arrays.of_alike.Goals as goal

pub returns-clause-value : goal.returns-clause-value
returns-clause-value c =
    of_alike_ok c.args.op c.args.a.now c.args.b.now c.copy_dims.result c.promote-both.result c.binary_type-ty.result c.in_ok-elems.elems.elems c.packed.result
    (c.promote-both.ensures ∙ ap₂ promoted c.strided_type.ensures c.strided_type-2.ensures)
    (c.copy_dims.ensures ∙ c.strided_dims-2.ensures.dims)
    c.in_ok-elems.ensures.value
    (c.binary_type-ty.ensures ∙ ap (λ (t : Ty). binary_result c.args.op t t) c.promote-both.ensures ∙ result_at c.args.op c.strided_type.result c.strided_type-2.result ∙ ap₂ (binary_result c.args.op) c.strided_type.ensures c.strided_type-2.ensures)
    c.packed.ensures
