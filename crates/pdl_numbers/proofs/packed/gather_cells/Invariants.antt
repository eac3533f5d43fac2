use Rattle.std.proofs.Common.{◌≡◌, ◌≤◌, ◌-◌, length, map, take, drop}
use Rattle.pdl_shape.specs.Places.{read}
use Rattle.pdl_numbers.specs.Bytes.{bytes_of, number_of}
use Rattle.pdl_numbers.proofs.packed.gather_cells.Given as goal

-- the cells before the next part are those at their places, and the others still stand
abbrev pub invariant-loop-cells : goal.invariant-loop-cells
invariant-loop-cells g l = record {
  kept : length l.cells ≡ length l.fn.cells;
  inside : l.done ≤ length l.fn.cells;
  gathered : take l.done l.cells ≡ map (bytes_of g.T.PackedType.ty) (take l.done (read l.places (map (number_of g.T.PackedType.ty) l.from)));
  left : drop l.done l.cells ≡ drop l.done l.fn.cells;
}

abbrev pub decreases-loop-cells : goal.decreases-loop-cells
decreases-loop-cells g l = length l.fn.cells - l.done
