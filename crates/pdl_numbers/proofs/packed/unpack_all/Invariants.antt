use Rattle.std.proofs.Common.{◌≡◌, length, map, take}
use Rattle.pdl_numbers.specs.Bytes.{number_of}
use Rattle.pdl_numbers.proofs.packed.unpack_all.Given as goal

-- the numbers before i are unpacked
abbrev pub invariant-loop-i : goal.invariant-loop-i
invariant-loop-i g l = record {
  count : length l.numbers ≡ length l.cells;
  unpacked : take l.i l.numbers ≡ map (number_of g.T.PackedType.ty) (take l.i l.cells);
}
