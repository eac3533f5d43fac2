use Rattle.std.proofs.Common.{◌≡◌, ◌++◌, take, ◌+◌}
use Rattle.pdl_print.specs.Printed.{decimals_joined}
use Rattle.pdl_print.proofs.pieces.push_sizes.Given as goal

abbrev pub invariant-loop-size : goal.invariant-loop-size
invariant-loop-size l = l.into.items ≡ l.fn.into.items ++ decimals_joined l.byte (take (l.size-index + 1) l.sizes)
