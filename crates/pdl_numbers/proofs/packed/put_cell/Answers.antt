-- One cell is another, and all are packed.
use Rattle.std.proofs.Common.{ℕ, map, ap, sym, ◌∙◌}
use Rattle.std.specs.Prelude.{Option}
use Rattle.std.proofs.lemmas.List.{map-set}
use Rattle.std.proofs.lemmas.List.Elements.{All-set}
use Rattle.pdl_elem.specs.declared.Ty.{Ty}
use Rattle.pdl_shape.specs.Places.{put}
use Rattle.pdl_numbers.specs.Bytes.{IsPacked, number_of}
use Rattle.pdl_numbers.proofs.packed.put_cell.Goals as goal

pub returns-in-Some-clause-packed : goal.returns-in-Some-clause-packed
returns-in-Some-clause-packed g c = All-set (IsPacked g.T.PackedType.ty) c.args.cells.now c.in-Some.place c.args.cell.now c.requires.cell c.requires.packed

pub returns-in-Some-clause-value : goal.returns-in-Some-clause-value
returns-in-Some-clause-value g c =
    let t : Ty = g.T.PackedType.ty in
    map-set (number_of t) c.args.cells.now c.in-Some.place c.args.cell.now
    ∙ ap (λ (o : Option ℕ). put o (number_of t c.args.cell.now) (map (number_of t) c.args.cells.now)) (sym c.in-Some.is)
