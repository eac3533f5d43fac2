-- In order and in a row, each place is so far from the first as its position.
use Rattle.std.proofs.Common.{◌≡◌, ◌+◌, ◌<◌, pos, get_or, arith, ap, sym, subst, ◌∙◌, to_z}
use Rattle.std.proofs.lemmas.Int.{to_z-of_z}
use Rattle.std.specs.Int.{w32}
use Rattle.pdl_shape.specs.Shape.{size_of}
use Rattle.pdl_shape.specs.Triple.{Triple, IsTriple}
use Rattle.pdl_numbers.proofs.ReadRuns.{beside_in_row}
use Rattle.pdl_numbers.proofs.runs.neighbours.Goals as goal

pub returns-then-inc_along-eq1-clause-beside : goal.returns-then-inc_along-eq1-clause-beside
returns-then-inc_along-eq1-clause-beside c = λ k h.
    let t : Triple = c.args.placement.now in
    let same : c.triple-triple.result.now ≡ t = c.triple-triple.ensures in
    let one : get_or t.incs 0 (pos 0) ≡ pos 1 =
    ap (λ (u : Triple). get_or u.incs 0 (pos 0)) (sym same) ∙ sym c.inc_along.ensures ∙ sym (to_z-of_z w32 c.inc_along.result (record { sfits = c.inc_along.type_inv })) ∙ ap (to_z w32) c.if-inc_along-eq1.true in
    let inside : c.args.first + k < size_of t.dims =
    omega (arith, h, c.run_length.ensures.few, c.elements_of.ensures.count, ap (λ (u : Triple). size_of u.dims) c.triple.view_is, ap (λ (u : Triple). size_of u.dims) same) in
    beside_in_row c.shape_laws.ensures.positions t c.args.first k c.size_along.result (subst IsTriple same c.size_along.ensures.sound) inside (c.size_along.ensures.size ∙ ap (λ (u : Triple). get_or u.dims 0 1) same) (omega (arith, h, c.run_length.ensures.row)) one
