-- Neighbours are a part of the buffer.
use Rattle.std.proofs.Common.{◌≡◌, ℕ, ◌+ℤ◌, ℤ, pos, List, get_or, arith, length, take, drop, fold, ap, ◌∙◌, FitsSigned}
use Rattle.std.proofs.lemmas.Int.{to_z-of_z}
use Rattle.std.proofs.lemmas.List.{get_or-drop, get_or-take, length-drop, length-take-le}
use Rattle.std.specs.Int.{int_wrap, w64}
use Rattle.pdl_shape.specs.Triple.{Triple}
use Rattle.pdl_numbers.proofs.ReadRuns.{Neighbours, neighbours}
use Rattle.pdl_numbers.proofs.ShownLemmas.{block}
use Rattle.pdl_numbers.proofs.sums.sum_in_order.Goals as goal

pub sum_from-requires : goal.sum_from-requires
sum_from-requires g c =
    let n : Neighbours c.args.placement.now c.args.numbers.now c.args.first c.place-start.result c.args.count =
    neighbours c.shape_laws.ensures.positions _ _ _ _ _ c.place-start.ensures.sound c.requires.reaches c.requires.ordered c.requires.within (omega arith) c.place-start.ensures.place in
    omega (arith, n.inside)

pub returns : goal.returns
returns g c =
    let t : Triple = c.args.placement.now in
    let es : List ℤ = c.args.numbers.now in
    let start : ℕ = c.place-start.result in
    let first : ℕ = c.args.first in
    let count : ℕ = c.args.count in
    let n : Neighbours t es first start count =
    neighbours c.shape_laws.ensures.positions _ _ _ _ _ c.place-start.ensures.sound c.requires.reaches c.requires.ordered c.requires.within (omega arith) c.place-start.ensures.place in
    let long : length (take count (drop start es)) ≡ count = length-take-le count (drop start es) (omega (arith, length-drop start es, n.inside)) in
    let word : FitsSigned w64 c.sum_from.result = record { sfits = c.sum_from.type_inv } in
    to_z-of_z w64 c.sum_from.result word ∙ c.sum_from.ensures
    ∙ ap (λ (xs : List ℤ). int_wrap w64 (fold (λ sum x. sum +ℤ x) (pos 0) xs))
    (block t es (take count (drop start es)) first count long c.requires.within
    (λ k h. get_or-take count (drop start es) k (pos 0) h ∙ get_or-drop start es k (pos 0) ∙ ap (λ (p : ℕ). get_or es p (pos 0)) (n.here k h)))
