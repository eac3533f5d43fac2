-- The product may wrap on the way.
use Rattle.std.proofs.Common.{◌≡◌, ℤ, pos, List, take, drop, fold, to_z, of_z, FitsSigned, ap, ◌∙◌}
use Rattle.std.proofs.lemmas.Int.{to_z-of_z}
use Rattle.std.specs.Int.{w64, w128}
use Rattle.pdl_elem.specs.declared.Ty.{Ty}
use Rattle.pdl_elem.specs.Numbers.{wrapped}
use Rattle.pdl_reduce.specs.Reductions.{sum_type}
use Rattle.pdl_reduce.proofs.FoldNumbers.{multiplying, wrapped_product}
use Rattle.pdl_reduce.proofs.rows.product_of.Goals as goal

pub returns-clause-value : goal.returns-clause-value
returns-clause-value c =
    let xs : List ℤ = take c.args.count (drop c.args.first c.args.a.now.elems) in
    let fits : FitsSigned w64 c.wrap.result = record { sfits = c.wrap.type_inv } in
    let wide : FitsSigned w128 c.from.result = record { sfits = c.from.type_inv } in
    let folded : FitsSigned w64 c.fold_window-product.result = record { sfits = c.fold_window-product.type_inv } in
    let number : to_z w128 (of_z w128 c.from.result) ≡ fold multiplying (pos 1) xs =
    to_z-of_z w128 c.from.result wide ∙ c.from.ensures ∙ to_z-of_z w64 c.fold_window-product.result folded ∙ c.fold_window-product.ensures.value in
    let ty : c.sum_type.result ≡ sum_type c.args.a.now.ty = c.sum_type.ensures ∙ ap sum_type c.strided_type.ensures in
    to_z-of_z w64 c.wrap.result fits ∙ c.wrap.ensures.value
    ∙ ap (wrapped c.sum_type.result) number
    ∙ ap (λ (t : Ty). wrapped t (fold multiplying (pos 1) xs)) ty
    ∙ wrapped_product c.wrapping_laws.ensures (sum_type c.args.a.now.ty) xs
