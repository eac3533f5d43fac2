use Rattle.std.proofs.Common.{◌≡◌, ◌++◌, take, map, codes}
use Rattle.std.specs.List.{join_with_byte}
use Rattle.pdl_print.specs.Printed.{spaces, aligned}
use Rattle.pdl_print.proofs.pieces.push_line.Given as goal

-- the numbers before i, of which there is one at least
abbrev pub invariant-loop-i : goal.invariant-loop-i
invariant-loop-i l = l.into.items ≡ (l.fn.into.items ++ (spaces l.indent ++ codes "[")) ++ join_with_byte 32 (map (aligned l.width) (take l.i l.numbers))
