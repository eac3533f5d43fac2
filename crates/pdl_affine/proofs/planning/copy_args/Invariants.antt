use Rattle.std.proofs.Common.{◌≡◌, take}
use Rattle.pdl_affine.proofs.planning.copy_args.Given as goal

abbrev pub invariant-loop-arg : goal.invariant-loop-arg
invariant-loop-arg l = l.copy ≡ take l.arg-index l.list
