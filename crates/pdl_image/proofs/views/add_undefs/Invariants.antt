use Rattle.std.proofs.Common.{Ok}
use Rattle.pdl_image.specs.Adding.{Adds}
use Rattle.pdl_image.specs.Dump.{undef_lines}
use Rattle.pdl_image.proofs.views.add_undefs.Given as goal

-- the lines of the names before this one
abbrev pub invariant-loop-k : goal.invariant-loop-k
invariant-loop-k l = Adds l.fn.draft l.draft (undef_lines l.stem l.k) (Ok tt)
