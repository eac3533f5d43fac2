-- The fold starts at the first element, and picks the least.
use Rattle.std.proofs.Common.{◌<◌, ℤ, pos, List, take, drop, length, get_or, arith, refl, ap, ◌∙◌}
use Rattle.std.proofs.lemmas.Int.{to_z-of_z}
use Rattle.std.proofs.lemmas.List.{length-take-le, length-drop}
use Rattle.std.specs.Int.{w64}
use Rattle.pdl_reduce.specs.Folds.{first_place}
use Rattle.pdl_reduce.proofs.FoldExtremes.{least_picks}
use Rattle.pdl_reduce.proofs.FoldNumbers.{least_is}
use Rattle.pdl_reduce.proofs.rows.least_place.Goals as goal

pub picked_place-requires-clause-picks : goal.picked_place-requires-clause-picks
picked_place-requires-clause-picks c = least_picks

pub returns-clause-value : goal.returns-clause-value
returns-clause-value c =
    let xs : List ℤ = take c.args.count (drop c.args.first c.args.a.now.elems) in
    let some : 0 < length xs = omega (arith, length-take-le c.args.count (drop c.args.first c.args.a.now.elems) (omega (arith, length-drop c.args.first c.args.a.now.elems))) in
    to_z-of_z w64 c.picked_place.result (record { sfits = c.picked_place.type_inv }) ∙ c.picked_place.ensures.value ∙ ap (λ (z : ℤ). pos (first_place z xs)) (least_is xs (get_or xs 0 (pos 0)) some refl)
