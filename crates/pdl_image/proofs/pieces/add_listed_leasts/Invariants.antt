use Rattle.std.proofs.Common.{take, Ok}
use Rattle.pdl_image.specs.Adding.{Adds}
use Rattle.pdl_image.specs.Dump.{least_lines}
use Rattle.pdl_image.proofs.pieces.add_listed_leasts.Given as goal

-- the lines of the numbers before this one
abbrev pub invariant-loop-i : goal.invariant-loop-i
invariant-loop-i l = Adds l.fn.draft l.draft (least_lines l.name l.first (take l.i l.numbers)) (Ok tt)
