use Rattle.std.proofs.Common.{arith}
use Rattle.pdl_kernel.proofs.PlacesFound.{dot_past}
use Rattle.pdl_kernel.proofs.axes.offset.Goals as goal

pub returns-then-k-coordinates-clause-value : goal.returns-then-k-coordinates-clause-value
returns-then-k-coordinates-clause-value c = omega (arith, c.loop-k.invariant.same, dot_past c.args.strides.now c.args.coordinates.now c.loop-k.k (omega arith))

pub returns-then-k-coordinates-clause-bound : goal.returns-then-k-coordinates-clause-bound
returns-then-k-coordinates-clause-bound c = omega (arith, c.loop-k.invariant.bound, c.requires.few)
