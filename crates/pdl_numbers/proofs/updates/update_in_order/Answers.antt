use Rattle.std.proofs.Common.{◌≡◌, ℕ, List, length, arith, ap, ◌∙◌}
use Rattle.std.proofs.lemmas.Int.{ints}
use Rattle.std.specs.Prelude.{Option}
use Rattle.pdl_shape.specs.Shape.{size_of}
use Rattle.pdl_shape.specs.Triple.{Triple}
use Rattle.pdl_numbers.specs.Updates.{change, updated}
use Rattle.pdl_numbers.specs.Writes.{placed_from}
use Rattle.pdl_numbers.proofs.ReadRuns.{Neighbours, neighbours}
use Rattle.pdl_numbers.proofs.WriteRuns.{order_run}
use Rattle.pdl_numbers.proofs.updates.update_in_order.Goals as goal

pub update_run-requires : goal.update_run-requires
update_run-requires g c =
    let count : ℕ = c.elements_of-count.result in
    let all : count ≡ size_of c.args.triple.now.dims = c.elements_of-count.ensures.count ∙ ap (λ (t : Triple). size_of t.dims) c.triple.view_is in
    let r = order_run c.shape_laws.ensures.positions c.args.triple.now c.place_in_order-place.result 0 count c.place_in_order-place.ensures.sound c.requires.ordered c.place_in_order-place.ensures.place (omega arith) (omega (arith, all)) in
    let n : Neighbours c.args.triple.now c.args.numbers.now 0 c.place_in_order-place.result count =
    neighbours c.shape_laws.ensures.positions _ _ _ _ _ c.place_in_order-place.ensures.sound c.requires.reaches c.requires.ordered (omega (arith, all)) (omega arith) c.place_in_order-place.ensures.place in (
      omega arith,
      (c.requires.suits, (omega arith, (omega (arith, all, c.size_along-width.ensures.small), λ j h. record { place = r.places j h; high = omega (arith, ints, n.inside) }))),
    )

pub returns-then-count-gt0 : goal.returns-then-count-gt0
returns-then-count-gt0 g c =
    let count : ℕ = c.elements_of-count.result in
    let all : count ≡ size_of c.args.triple.now.dims = c.elements_of-count.ensures.count ∙ ap (λ (t : Triple). size_of t.dims) c.triple.view_is in
    let r = order_run c.shape_laws.ensures.positions c.args.triple.now c.place_in_order-place.result 0 count c.place_in_order-place.ensures.sound c.requires.ordered c.place_in_order-place.ensures.place (omega arith) (omega (arith, all)) in
    c.update_run.ensures ∙ ap (λ (ps : List (Option ℕ)). change (updated g.T.PackedType.ty c.args.update) ps c.args.numbers.now) r.same
    ∙ ap (λ (k : ℕ). change (updated g.T.PackedType.ty c.args.update) (placed_from c.args.triple.now 0 k) c.args.numbers.now) all
