use Rattle.std.proofs.Common.{◌≡◌, length, fold, map, take}
use Rattle.pdl_numbers.specs.Bytes.{bytes_of}
use Rattle.pdl_numbers.specs.Prefixes.{wrapped_prefixes}
use Rattle.pdl_numbers.proofs.prefixes.pack_prefixes.Given as goal

-- what the numbers before i come to; the prefixes up to them are packed
abbrev pub invariant-loop-i : goal.invariant-loop-i
invariant-loop-i g l = record {
  so_far : l.so_far ≡ fold g.F.Folding.taken l.start (take l.i l.numbers);
  count : length l.cells ≡ length l.numbers;
  packed : take l.i l.cells ≡ map (bytes_of g.T.PackedType.ty) (take l.i (wrapped_prefixes g.T.PackedType.ty g.F.Folding.taken l.start l.numbers));
}
