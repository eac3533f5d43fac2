-- The sum may wrap on the way.
use Rattle.std.proofs.Common.{◌≡◌, ℤ, pos, List, take, drop, fold, to_z, of_z, FitsSigned, ap, ap₂, ◌∙◌}
use Rattle.std.proofs.lemmas.Int.{SFits-int_wrap, to_z-of_z}
use Rattle.std.specs.Int.{int_wrap, w64, w128}
use Rattle.pdl_elem.specs.Numbers.{wrapped}
use Rattle.pdl_reduce.specs.Folds.{total}
use Rattle.pdl_reduce.specs.Reductions.{sum_type}
use Rattle.pdl_reduce.proofs.FoldNumbers.{adding, wrapped_sum}
use Rattle.pdl_reduce.proofs.rows.sum_of.Goals as goal

pub returns-in-None-clause-value : goal.returns-in-None-clause-value
returns-in-None-clause-value c =
    let xs : List ℤ = take c.args.count (drop c.args.first c.args.a.now.elems) in
    let fits : FitsSigned w64 c.wrap-in-None.result = record { sfits = c.wrap-in-None.type_inv } in
    let wide : FitsSigned w128 c.from-in-None.result = record { sfits = c.from-in-None.type_inv } in
    let folded : FitsSigned w64 c.fold_window.result = record { sfits = c.fold_window.type_inv } in
    let number : to_z w128 (of_z w128 c.from-in-None.result) ≡ fold adding (pos 0) xs =
    to_z-of_z w128 c.from-in-None.result wide ∙ c.from-in-None.ensures ∙ to_z-of_z w64 c.fold_window.result folded ∙ c.fold_window.ensures.value in
    let ty : c.sum_type-ty.result ≡ sum_type c.args.a.now.ty = c.sum_type-ty.ensures ∙ ap sum_type c.strided_type.ensures in
    to_z-of_z w64 c.wrap-in-None.result fits ∙ c.wrap-in-None.ensures.value
    ∙ ap₂ wrapped ty number
    ∙ wrapped_sum c.wrapping_laws.ensures (sum_type c.args.a.now.ty) xs

pub returns-in-Some-clause-value : goal.returns-in-Some-clause-value
returns-in-Some-clause-value c =
    let sum : ℤ = total (take c.args.count (drop c.args.first c.args.a.now.elems)) in
    let fits : FitsSigned w64 c.wrap.result = record { sfits = c.wrap.type_inv } in
    let wide : FitsSigned w128 c.from.result = record { sfits = c.from.type_inv } in
    let number : to_z w128 (of_z w128 c.from.result) ≡ int_wrap w64 sum =
    to_z-of_z w128 c.from.result wide ∙ c.from.ensures ∙ ap (λ (z : ℤ). to_z w64 (of_z w64 z)) c.in-Some.ensures
    ∙ to_z-of_z w64 (int_wrap w64 sum) (SFits-int_wrap w64 sum) in
    let ty : c.sum_type-ty.result ≡ sum_type c.args.a.now.ty = c.sum_type-ty.ensures ∙ ap sum_type c.strided_type.ensures in
    to_z-of_z w64 c.wrap.result fits ∙ c.wrap.ensures.value ∙ ap₂ wrapped ty number ∙ c.wrapping_laws.ensures.late (sum_type c.args.a.now.ty) sum
