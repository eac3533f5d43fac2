use Rattle.std.proofs.Common.{◌≡◌, ◌++◌, take}
use Rattle.pdl_affine.specs.Courses.{lines_of_taken, wholes}
use Rattle.pdl_affine.proofs.slicing.take_wholes.Given as goal

abbrev pub invariant-loop-size : goal.invariant-loop-size
invariant-loop-size l = lines_of_taken l.taken.items ≡ lines_of_taken l.initial.taken.items ++ wholes (take l.size-index l.sizes)
