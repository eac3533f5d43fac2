use Rattle.std.proofs.Common.{◌≡◌, ◌∷◌, ◌+◌, length, take}
use Rattle.pdl_affine.specs.Courses.{counted_incs}
use Rattle.pdl_affine.proofs.clumping.counted_incs.Given as goal

abbrev pub invariant-loop-i : goal.invariant-loop-i
invariant-loop-i l = record {
  room : l.made.capacity ≡ 16;
  count : length l.made.items ≡ l.i + 1;
  same : l.made.items ≡ counted_incs (l.first ∷ take l.i l.rest) (take (l.i + 1) l.sizes);
}
