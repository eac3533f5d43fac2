use Rattle.std.proofs.Common.{◌≡◌, take, map, get_or}
use Rattle.pdl_affine.proofs.sizing.arrange.Given as goal

abbrev pub invariant-loop-place : goal.invariant-loop-place
invariant-loop-place l = l.sizes.items ≡ map (λ i. get_or l.parent i 0) (take l.place-index l.order)
