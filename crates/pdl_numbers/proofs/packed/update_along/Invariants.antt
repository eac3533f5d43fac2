-- The place is the next one, what is left to be changed gives what the whole run does, and all
-- cells are packed.
use Rattle.std.proofs.Common.{◌≡◌, ◌+ℤ◌, ◌*ℤ◌, pos, length, drop, map}
use Rattle.pdl_numbers.specs.Bytes.{ArePacked, number_of}
use Rattle.pdl_numbers.specs.Updates.{change, value_with}
use Rattle.pdl_numbers.specs.Writes.{stepped}
use Rattle.pdl_numbers.proofs.packed.update_along.Given as goal

abbrev pub invariant-loop-j : goal.invariant-loop-j
invariant-loop-j g l = record {
  here : l.at ≡ pos l.place +ℤ l.inc *ℤ pos l.j;
  many : length l.cells ≡ length l.fn.cells;
  packed : ArePacked g.T.PackedType.ty l.cells;
  left : change (value_with g.O.KnownOp.op g.T.PackedType.ty l.number) (drop l.j (stepped l.place l.inc l.count)) (map (number_of g.T.PackedType.ty) l.cells)
      ≡ change (value_with g.O.KnownOp.op g.T.PackedType.ty l.number) (stepped l.place l.inc l.count) (map (number_of g.T.PackedType.ty) l.fn.cells);
}
