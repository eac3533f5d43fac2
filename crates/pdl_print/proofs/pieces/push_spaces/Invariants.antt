use Rattle.std.proofs.Common.{◌≡◌, ◌++◌, replicate}
use Rattle.pdl_print.proofs.pieces.push_spaces.Given as goal

abbrev pub invariant-loop : goal.invariant-loop
invariant-loop l = l.into.items ≡ l.fn.into.items ++ replicate l.counter 32
