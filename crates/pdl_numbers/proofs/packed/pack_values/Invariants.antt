use Rattle.std.proofs.Common.{◌≡◌, length, map, take}
use Rattle.pdl_elem.specs.Blocks.{pairwise}
use Rattle.pdl_elem.specs.Operators.{value_of}
use Rattle.pdl_numbers.specs.Bytes.{bytes_of}
use Rattle.pdl_numbers.proofs.packed.pack_values.Given as goal

-- the values before i are packed
abbrev pub invariant-loop-i : goal.invariant-loop-i
invariant-loop-i g l = record {
  count : length l.cells ≡ length l.left;
  packed : take l.i l.cells ≡ map (bytes_of g.T.PackedType.ty) (take l.i (pairwise (value_of g.O.KnownOp.op g.T.PackedType.ty) l.left l.right));
}
