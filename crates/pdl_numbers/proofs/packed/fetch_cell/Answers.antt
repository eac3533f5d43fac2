-- The cell at a place is the bytes of the number there.
use Rattle.std.proofs.Common.{ℕ, map, arith, ap, sym, ◌∙◌}
use Rattle.std.specs.Prelude.{Option}
use Rattle.pdl_elem.specs.declared.Ty.{Ty}
use Rattle.pdl_shape.specs.Places.{element_at}
use Rattle.pdl_numbers.specs.Bytes.{bytes_of, number_of}
use Rattle.pdl_numbers.proofs.PlacedCells.{cell_here}
use Rattle.pdl_numbers.proofs.packed.fetch_cell.Goals as goal

pub returns-in-Some : goal.returns-in-Some
returns-in-Some g c =
    let t : Ty = g.T.PackedType.ty in
    cell_here t c.args.from.now c.in-Some.place c.index-from-place.result (omega arith) c.index-from-place.is c.requires.packed
    ∙ ap (λ (o : Option ℕ). bytes_of t (element_at (map (number_of t) c.args.from.now) o)) (sym c.in-Some.is)
