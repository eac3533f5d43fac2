-- The places in order are those of a run, on both sides.
use Rattle.std.proofs.Common.{◌≡◌, ℕ, List, arith, ap, ap₂, ◌∙◌}
use Rattle.std.proofs.lemmas.Int.{ints}
use Rattle.std.specs.Prelude.{Option}
use Rattle.pdl_shape.specs.Places.{read, write}
use Rattle.pdl_shape.specs.Shape.{size_of}
use Rattle.pdl_shape.specs.Triple.{Triple}
use Rattle.pdl_numbers.specs.Writes.{placed_from}
use Rattle.pdl_numbers.proofs.ReadRuns.{Neighbours, neighbours}
use Rattle.pdl_numbers.proofs.WriteRuns.{order_run}
use Rattle.pdl_numbers.proofs.copies.copy_in_order.Goals as goal

pub copy_run-requires : goal.copy_run-requires
copy_run-requires g c =
    let to : Triple = c.args.to.now in
    let shown : Triple = c.args.shown.now in
    let count : ℕ = c.elements_of-count.result in
    let all : count ≡ size_of to.dims = c.elements_of-count.ensures.count ∙ ap (λ (t : Triple). size_of t.dims) c.to.view_is in
    let many : size_of to.dims ≡ size_of shown.dims = ap size_of c.requires.same_dims in
    let r = order_run c.shape_laws.ensures.positions to c.place_in_order-place.result 0 count c.place_in_order-place.ensures.sound c.requires.ordered c.place_in_order-place.ensures.place (omega arith) (omega (arith, all)) in
    let s = order_run c.shape_laws.ensures.positions shown c.place_in_order-first.result 0 count c.place_in_order-first.ensures.sound c.requires.from_ordered c.place_in_order-first.ensures.place (omega arith) (omega (arith, all, many)) in
    let n : Neighbours to c.args.numbers.now 0 c.place_in_order-place.result count =
    neighbours c.shape_laws.ensures.positions _ _ _ _ _ c.place_in_order-place.ensures.sound c.requires.reaches c.requires.ordered (omega (arith, all)) (omega arith) c.place_in_order-place.ensures.place in
    let m : Neighbours shown c.args.from.now 0 c.place_in_order-first.result count =
    neighbours c.shape_laws.ensures.positions _ _ _ _ _ c.place_in_order-first.ensures.sound c.requires.from_reaches c.requires.from_ordered (omega (arith, all, many)) (omega arith) c.place_in_order-first.ensures.place in (
      omega arith,
      (
        omega arith,
        (
          omega (arith, all, c.size_along-width.ensures.small),
          (
            λ j h. record { place = r.places j h; high = omega (arith, ints, n.inside) },
            λ j h. record { place = s.places j h; high = omega (arith, ints, m.inside) },
          ),
        ),
      ),
    )

pub returns-then-count-gt0 : goal.returns-then-count-gt0
returns-then-count-gt0 g c =
    let to : Triple = c.args.to.now in
    let shown : Triple = c.args.shown.now in
    let count : ℕ = c.elements_of-count.result in
    let all : count ≡ size_of to.dims = c.elements_of-count.ensures.count ∙ ap (λ (t : Triple). size_of t.dims) c.to.view_is in
    let many : size_of to.dims ≡ size_of shown.dims = ap size_of c.requires.same_dims in
    let r = order_run c.shape_laws.ensures.positions to c.place_in_order-place.result 0 count c.place_in_order-place.ensures.sound c.requires.ordered c.place_in_order-place.ensures.place (omega arith) (omega (arith, all)) in
    let s = order_run c.shape_laws.ensures.positions shown c.place_in_order-first.result 0 count c.place_in_order-first.ensures.sound c.requires.from_ordered c.place_in_order-first.ensures.place (omega arith) (omega (arith, all, many)) in
    c.copy_run.ensures ∙ ap₂ (λ (ps qs : List (Option ℕ)). write ps (read qs c.args.from.now) c.args.numbers.now) r.same s.same
    ∙ ap (λ (k : ℕ). write (placed_from to 0 k) (read (placed_from shown 0 k) c.args.from.now) c.args.numbers.now) all
