-- One more cell is changed, and all are at the end.
use Rattle.std.proofs.Common.{◌≡◌, ℤ, [], map, arith, ap, ◌∙◌, to_z, of_z}
use Rattle.std.proofs.lemmas.Int.{to_z-of_z}
use Rattle.std.specs.Int.{w64}
use Rattle.pdl_numbers.specs.Updates.{cell_with}
use Rattle.pdl_numbers.proofs.UpdateLemmas.{over_more, over_all}
use Rattle.pdl_numbers.proofs.packed.update_all.Goals as goal

pub loop-cell-preserved : goal.loop-cell-preserved
loop-cell-preserved g c =
    over_more (cell_with g.O.KnownOp.op g.T.PackedType.ty (to_z w64 (of_z w64 c.args.number))) c.args.cells.now c.loop-cell.cell-items c.loop-cell.cell-index [] c.update_cell.new.cell (omega arith) c.loop-cell.invariant (omega arith) c.update_cell.ensures

pub returns : goal.returns
returns g c =
    over_all (cell_with g.O.KnownOp.op g.T.PackedType.ty (to_z w64 (of_z w64 c.args.number))) c.args.cells.now c.loop-cell.cell-items c.loop-cell.cell-index (omega arith) (omega arith) c.loop-cell.invariant
    ∙ ap (λ (n : ℤ). map (cell_with g.O.KnownOp.op g.T.PackedType.ty n) c.args.cells.now) (to_z-of_z w64 c.args.number c.ranges.number)
