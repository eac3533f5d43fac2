use Rattle.std.proofs.Common.{◌≡◌, ◌++◌, map, drop, All}
use Rattle.pdl_sig.specs.Resolution.{size_in}
use Rattle.pdl_kernel.specs.Places.{IsSmall, axes_of}
use Rattle.pdl_kernel.proofs.setup.axes.Given as goal

abbrev pub invariant-loop-k : goal.invariant-loop-k
invariant-loop-k l = record {
  same : l.axes.items ++ axes_of (drop l.k (map (size_in l.resolved.sizes) l.numbers)) (drop l.k l.strides) ≡ axes_of (map (size_in l.resolved.sizes) l.numbers) l.strides;
  small : All IsSmall l.axes.items;
}
