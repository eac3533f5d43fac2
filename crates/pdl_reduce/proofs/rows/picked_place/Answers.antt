-- The place is looked for from the last change on.
use Rattle.std.proofs.Common.{rules, ◌≡◌, ◌≢◌, ◌+◌, ◌-◌, ◌<◌, ◌≤◌, ℕ, ℤ, pos, List, take, drop, length, get_or, fold, to_z, of_z, FitsSigned, arith, ap, sym, subst, ◌∙◌}
use Rattle.std.proofs.lemmas.Int.{to_z-of_z}
use Rattle.std.proofs.lemmas.List.{length-take-le, length-drop, drop-take, drop-drop, take-take}
use Rattle.std.specs.Int.{w64}
use Rattle.pdl_elem.specs.declared.Ty.TheVariants.{Long}
use Rattle.pdl_elem.specs.Types.{InRange}
use Rattle.pdl_reduce.specs.Folds.{first_place}
use Rattle.pdl_reduce.proofs.FoldExtremes.{picked_behind}
use Rattle.pdl_reduce.proofs.FoldNumbers.{place_in, first_of}
use Rattle.pdl_reduce.proofs.rows.picked_place.Goals as goal

pub returns-clause-value : goal.returns-clause-value
returns-clause-value g c =
    let f : ℤ → ℤ → ℤ = g.F.Folding.taken in
    let es : List ℤ = c.args.a.now.elems in
    let ds : List ℤ = drop c.args.first es in
    let xs : List ℤ = take c.args.count ds in
    let n : ℕ = c.fold_changes-folded.result.changed in
    let v : ℤ = c.fold_changes-folded.result.value in
    let a : ℤ = c.strided_get-start.result in
    let start : to_z w64 (of_z w64 a) ≡ a = to_z-of_z w64 a (record { sfits = c.strided_get-start.type_inv }) in
    let long : length xs ≡ c.args.count = length-take-le c.args.count ds (omega (arith, length-drop c.args.first es)) in
    let first : to_z w64 (of_z w64 a) ≡ get_or xs 0 (pos 0) =
    start ∙ c.strided_get-start.ensures.value ∙ sym (first_of es c.args.first c.args.count c.requires.some) in
    let number : to_z w64 (of_z w64 v) ≡ v = to_z-of_z w64 v (search rules) in
    let is : v ≡ fold f (to_z w64 (of_z w64 a)) xs = c.fold_changes-folded.ensures.value in
    let rest : take (c.args.count - n) (drop (c.args.first + n) es) ≡ drop n xs =
    ap (take (c.args.count - n)) (sym (drop-drop n c.args.first es))
    ∙ sym (drop-take n (c.args.count - n) ds)
    ∙ ap (λ (m : ℕ). drop n (take m ds)) (omega arith) in
    let before : 0 < n → fold f (to_z w64 (of_z w64 a)) (take n xs) ≢ v = λ some.
    subst (λ (ys : List ℤ). fold f (to_z w64 (of_z w64 a)) ys ≢ v) (sym (take-take n c.args.count ds c.fold_changes-folded.ensures.bound)) (c.fold_changes-folded.ensures.changed some) in
    let place : n + first_place v (drop n xs) ≡ first_place v xs =
    picked_behind f c.requires.picks xs (to_z w64 (of_z w64 a)) v n (omega arith) first (omega arith) is before in
    to_z-of_z w64 c.from.result (record { sfits = c.from.type_inv }) ∙ c.from.ensures
    ∙ ap (λ (m : ℕ). pos (n + m)) (c.find_in_window-place.ensures.place ∙ ap (λ (z : ℤ). first_place z (take (c.args.count - n) (drop (c.args.first + n) es))) number ∙ ap (first_place v) rest)
    ∙ ap pos place
    ∙ ap (λ (z : ℤ). pos (first_place z xs)) (is ∙ ap (λ (s : ℤ). fold f s xs) first)

pub returns-clause-in_range : goal.returns-clause-in_range
returns-clause-in_range g c =
    let small : c.fold_changes-folded.result.changed + c.find_in_window-place.result ≤ 1048576 = omega (arith, c.find_in_window-place.ensures.bound, c.fold_changes-folded.ensures.bound) in
    let fits : FitsSigned w64 c.from.result = record { sfits = c.from.type_inv } in
    subst (InRange Long) (sym (to_z-of_z w64 c.from.result fits ∙ c.from.ensures)) (place_in (c.fold_changes-folded.result.changed + c.find_in_window-place.result) small)
