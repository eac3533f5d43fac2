use Rattle.std.proofs.Common.{◌≡◌, ◌≤◌, ◌+◌, ◌*◌, drop}
use Rattle.pdl_kernel.specs.Places.{dot}
use Rattle.pdl_kernel.proofs.axes.offset.Given as goal

abbrev pub invariant-loop-k : goal.invariant-loop-k
invariant-loop-k l = record {
  same : l.sum + dot (drop l.k l.strides) (drop l.k l.coordinates) ≡ dot l.strides l.coordinates;
  bound : l.sum ≤ l.k * 4503599627370496;
}
