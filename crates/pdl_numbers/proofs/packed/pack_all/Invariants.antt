use Rattle.std.proofs.Common.{◌≡◌, length, map, take}
use Rattle.pdl_numbers.specs.Bytes.{bytes_of}
use Rattle.pdl_numbers.proofs.packed.pack_all.Given as goal

-- the numbers before i are packed
abbrev pub invariant-loop-i : goal.invariant-loop-i
invariant-loop-i g l = record {
  count : length l.cells ≡ length l.numbers;
  packed : take l.i l.cells ≡ map (bytes_of g.T.PackedType.ty) (take l.i l.numbers);
}
