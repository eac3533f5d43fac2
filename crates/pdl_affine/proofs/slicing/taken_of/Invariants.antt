use Rattle.std.proofs.Common.{◌≡◌, drop}
use Rattle.pdl_affine.specs.Slicing.{lines_of}
use Rattle.pdl_affine.specs.Courses.{lines_of_taken, lines_before, AreSmall}
use Rattle.pdl_affine.proofs.slicing.taken_of.Given as goal

abbrev pub invariant-loop-arg : goal.invariant-loop-arg
invariant-loop-arg l = record {
  lines : lines_of l.args l.parent ≡ lines_before (lines_of_taken l.taken.items) (lines_of (drop l.arg-index l.args) l.rest);
  small : AreSmall l.rest;
}
