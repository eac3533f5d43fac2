use Rattle.std.proofs.Common.{◌≡◌, map, length, take}
use Rattle.std.specs.List.{range_with_len}
use Rattle.pdl_affine.specs.Courses.{gathered, counted_incs}
use Rattle.pdl_affine.proofs.composing.counted_incs.Given as goal

abbrev pub invariant-loop-dimension : goal.invariant-loop-dimension
invariant-loop-dimension l = record {
  room : l.made.capacity ≡ 16;
  count : length l.made.items ≡ l.dimension;
  same : l.made.items ≡ counted_incs (map (gathered l.incs l.courses) (range_with_len 0 l.dimension)) (take l.dimension l.sizes);
}
