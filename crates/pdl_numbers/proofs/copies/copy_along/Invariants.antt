-- What is left to be copied gives what the whole run does, and all cells are packed.
use Rattle.std.proofs.Common.{◌≡◌, length, drop, map}
use Rattle.pdl_shape.specs.Places.{read, write}
use Rattle.pdl_numbers.specs.Bytes.{ArePacked, number_of}
use Rattle.pdl_numbers.specs.Writes.{stepped}
use Rattle.pdl_numbers.proofs.copies.copy_along.Given as goal

abbrev pub invariant-loop-j : goal.invariant-loop-j
invariant-loop-j g l = record {
  count : length l.cells ≡ length l.fn.cells;
  packed : ArePacked g.T.PackedType.ty l.cells;
  left : write (drop l.j (stepped l.place l.inc l.count)) (drop l.j (read (stepped l.first l.step l.count) (map (number_of g.T.PackedType.ty) l.from))) (map (number_of g.T.PackedType.ty) l.cells)
      ≡ write (stepped l.place l.inc l.count) (read (stepped l.first l.step l.count) (map (number_of g.T.PackedType.ty) l.from)) (map (number_of g.T.PackedType.ty) l.fn.cells);
}
