use Rattle.std.proofs.Common.{Ok, take}
use Rattle.pdl_scope.specs.Dumping.{WritesLines, kernel_lines}
use Rattle.pdl_scope.proofs.kernels.Kernels.write.Given as goal

-- the kernels before this one
abbrev pub invariant-loop-index : goal.invariant-loop-index
invariant-loop-index l = WritesLines l.fn.image l.image 0 (kernel_lines (take l.index l.self)) (Ok tt)
