use Rattle.std.proofs.Common.{◌*◌, take, Ok}
use Rattle.pdl_image.specs.declared.TheConstants.{PART}
use Rattle.pdl_image.specs.Adding.{Adds}
use Rattle.pdl_image.specs.Dump.{least_lines}
use Rattle.pdl_image.proofs.pieces.add_leasts.Given as goal

-- the lines of the parts before this one
abbrev pub invariant-loop-p : goal.invariant-loop-p
invariant-loop-p l = Adds l.fn.draft l.draft (least_lines l.name l.first (take (PART * l.p) l.numbers)) (Ok tt)
