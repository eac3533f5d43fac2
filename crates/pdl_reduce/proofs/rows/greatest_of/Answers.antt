-- The fold starts at the first element.
use Rattle.std.proofs.Common.{◌≡◌, ◌<◌, ℤ, List, take, drop, length, fold, to_z, of_z, FitsSigned, arith, sym, subst, ◌∙◌}
use Rattle.std.proofs.lemmas.Int.{to_z-of_z}
use Rattle.std.proofs.lemmas.List.{length-take-le, length-drop}
use Rattle.std.specs.Int.{w64, int_max}
use Rattle.pdl_elem.specs.Types.{InRange}
use Rattle.pdl_reduce.proofs.FoldNumbers.{greatest_is, greatest_in, first_of}
use Rattle.pdl_reduce.proofs.rows.greatest_of.Goals as goal

pub returns-clause-value : goal.returns-clause-value
returns-clause-value c =
    let xs : List ℤ = take c.args.count (drop c.args.first c.args.a.now.elems) in
    let fits : FitsSigned w64 c.fold_window.result = record { sfits = c.fold_window.type_inv } in
    let start : FitsSigned w64 c.strided_get-start.result = record { sfits = c.strided_get-start.type_inv } in
    let some : 0 < length xs = omega (arith, length-take-le c.args.count (drop c.args.first c.args.a.now.elems) (omega (arith, length-drop c.args.first c.args.a.now.elems))) in
    to_z-of_z w64 c.fold_window.result fits ∙ c.fold_window.ensures.value
    ∙ greatest_is xs (to_z w64 (of_z w64 c.strided_get-start.result)) some
    (to_z-of_z w64 c.strided_get-start.result start ∙ c.strided_get-start.ensures.value ∙ sym (first_of c.args.a.now.elems c.args.first c.args.count c.requires.some))

pub returns-clause-in_range : goal.returns-clause-in_range
returns-clause-in_range c =
    let P : ℤ → Type 0 = InRange c.args.a.now.ty in
    let xs : List ℤ = take c.args.count (drop c.args.first c.args.a.now.elems) in
    let fits : FitsSigned w64 c.fold_window.result = record { sfits = c.fold_window.type_inv } in
    let start : FitsSigned w64 c.strided_get-start.result = record { sfits = c.strided_get-start.type_inv } in
    let value : to_z w64 (of_z w64 c.fold_window.result) ≡ fold int_max (to_z w64 (of_z w64 c.strided_get-start.result)) xs =
    to_z-of_z w64 c.fold_window.result fits ∙ c.fold_window.ensures.value in
    subst P (sym value)
    (greatest_in P (to_z w64 (of_z w64 c.strided_get-start.result)) xs (subst P (sym (to_z-of_z w64 c.strided_get-start.result start)) c.strided_get-start.ensures.in_range) c.fold_window.ensures.in_range)
