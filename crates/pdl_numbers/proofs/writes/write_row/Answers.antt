use Rattle.std.proofs.Common.{◌≡◌, List, ℕ, pos, get_or, length, arith, ap, ◌∙◌, to_z, of_z}
use Rattle.std.proofs.lemmas.Int.{to_z-of_z}
use Rattle.std.specs.Int.{w32}
use Rattle.std.specs.Prelude.{Option}
use Rattle.pdl_shape.specs.Places.{write}
use Rattle.pdl_numbers.proofs.WriteRuns.{row_run}
use Rattle.pdl_numbers.proofs.writes.write_row.Goals as goal

pub write_run-requires : goal.write_run-requires
write_run-requires g c =
    let inc : to_z w32 (of_z w32 c.inc_along.result) ≡ get_or c.args.triple.now.incs 0 (pos 0) = to_z-of_z w32 c.inc_along.result (record { sfits = c.inc_along.type_inv }) ∙ c.inc_along.ensures in
    let r = row_run c.shape_laws.ensures.positions c.args.triple.now c.place_of-place.result (to_z w32 (of_z w32 c.inc_along.result)) c.args.position (length c.args.values.now) c.place_of-place.ensures.sound c.place_of-place.ensures.place inc (omega arith) (omega arith) in
    (omega arith, (omega arith, (r.places, c.requires.in_range)))

pub returns : goal.returns
returns g c =
    let inc : to_z w32 (of_z w32 c.inc_along.result) ≡ get_or c.args.triple.now.incs 0 (pos 0) = to_z-of_z w32 c.inc_along.result (record { sfits = c.inc_along.type_inv }) ∙ c.inc_along.ensures in
    let r = row_run c.shape_laws.ensures.positions c.args.triple.now c.place_of-place.result (to_z w32 (of_z w32 c.inc_along.result)) c.args.position (length c.args.values.now) c.place_of-place.ensures.sound c.place_of-place.ensures.place inc (omega arith) (omega arith) in
    c.write_run.ensures ∙ ap (λ (ps : List (Option ℕ)). write ps c.args.values.now c.args.numbers.now) r.same
