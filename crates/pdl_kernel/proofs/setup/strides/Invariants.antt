use Rattle.std.proofs.Common.{◌≡◌, ◌≤◌, ◌*◌, ◌++◌, drop, All}
use Rattle.pdl_shape.specs.Shape.{extent, extent_limit}
use Rattle.pdl_kernel.specs.Places.{strides_from}
use Rattle.pdl_kernel.proofs.setup.strides.Given as goal

abbrev pub invariant-loop-size : goal.invariant-loop-size
invariant-loop-size l = record {
  same : l.strides.items ++ strides_from l.stride (drop l.size-index l.sizes) ≡ strides_from 1 l.sizes;
  within : l.stride * extent (drop l.size-index l.sizes) ≤ extent_limit;
  small : All (λ s. s ≤ extent_limit) l.strides.items;
}
