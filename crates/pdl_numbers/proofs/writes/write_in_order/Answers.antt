use Rattle.std.proofs.Common.{ℕ, List, length, arith, ap, ◌∙◌}
use Rattle.std.specs.Prelude.{Option}
use Rattle.pdl_shape.specs.Places.{write}
use Rattle.pdl_numbers.proofs.WriteRuns.{order_run}
use Rattle.pdl_numbers.proofs.writes.write_in_order.Goals as goal

pub write_run-requires : goal.write_run-requires
write_run-requires g c =
    let r = order_run c.shape_laws.ensures.positions c.args.triple.now c.place_in_order-place.result c.args.first (length c.args.values.now) c.place_in_order-place.ensures.sound c.requires.ordered c.place_in_order-place.ensures.place (omega arith) (omega arith) in
    (omega arith, (omega (arith, c.size_along-width.ensures.small), (r.places, c.requires.in_range)))

pub returns-then-values-gt0 : goal.returns-then-values-gt0
returns-then-values-gt0 g c =
    let r = order_run c.shape_laws.ensures.positions c.args.triple.now c.place_in_order-place.result c.args.first (length c.args.values.now) c.place_in_order-place.ensures.sound c.requires.ordered c.place_in_order-place.ensures.place (omega arith) (omega arith) in
    c.write_run.ensures ∙ ap (λ (ps : List (Option ℕ)). write ps c.args.values.now c.args.numbers.now) r.same
