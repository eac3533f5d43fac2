use Rattle.std.proofs.Common.{◌≡◌}
use Rattle.pdl_kernel.specs.Places.{begun_at}
use Rattle.pdl_kernel.proofs.Mapping.{mapped}
use Rattle.pdl_kernel.proofs.walk.begin_all.Given as goal

abbrev pub invariant-loop-i : goal.invariant-loop-i
invariant-loop-i l = l.arguments.items ≡ mapped (begun_at l.coordinates) l.i l.fn.arguments.items
