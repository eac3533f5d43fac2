use Rattle.std.proofs.Common.{◌≡◌, take}
use Rattle.pdl_affine.specs.Slicing.{line_sizes}
use Rattle.pdl_affine.specs.Courses.{lines_of_taken}
use Rattle.pdl_affine.proofs.sizing.slice.Given as goal

abbrev pub invariant-loop-line : goal.invariant-loop-line
invariant-loop-line l = l.sizes.items ≡ line_sizes (lines_of_taken (take l.line-index l.taken))
