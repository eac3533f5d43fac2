use Rattle.std.proofs.Common.{◌≡◌, ◌==◌, not, take, filter}
use Rattle.pdl_affine.proofs.sizing.squeeze.Given as goal

abbrev pub invariant-loop-size : goal.invariant-loop-size
invariant-loop-size l = l.sizes.items ≡ filter (λ d. not (d == 1)) (take l.size-index l.parent)
