use Rattle.std.proofs.Common.{◌≡◌, take}
use Rattle.pdl_print.specs.Printed.{widest}
use Rattle.pdl_print.proofs.pieces.widest_of.Given as goal

-- the widest of the numbers before this one
abbrev pub invariant-loop-number : goal.invariant-loop-number
invariant-loop-number l = l.widest ≡ widest (take l.number-index l.numbers)
