-- What is left to be put gives what the whole list does, and all cells are packed.
use Rattle.std.proofs.Common.{◌≡◌, drop, map}
use Rattle.pdl_shape.specs.Places.{write}
use Rattle.pdl_numbers.specs.Bytes.{ArePacked, number_of}
use Rattle.pdl_numbers.proofs.packed.pack_at.Given as goal

abbrev pub invariant-loop-i : goal.invariant-loop-i
invariant-loop-i g l = record {
  packed : ArePacked g.T.PackedType.ty l.cells;
  left : write (drop l.i l.places) (drop l.i l.values) (map (number_of g.T.PackedType.ty) l.cells)
      ≡ write l.places l.values (map (number_of g.T.PackedType.ty) l.fn.cells);
}
