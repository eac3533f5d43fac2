-- The cells before this one are changed, and the others still stand.
use Rattle.std.proofs.Common.{◌≡◌, take, drop, map, ◌++◌}
use Rattle.pdl_numbers.specs.Updates.{cell_with}
use Rattle.pdl_numbers.proofs.packed.update_all.Given as goal

abbrev pub invariant-loop-cell : goal.invariant-loop-cell
invariant-loop-cell g l =
    l.cell-items ≡ map (cell_with g.O.KnownOp.op g.T.PackedType.ty l.number) (take l.cell-index l.initial.cell-items) ++ drop l.cell-index l.initial.cell-items
