use Rattle.std.proofs.Common.{Ok, take}
use Rattle.pdl_scope.specs.Dumping.{WritesLines, name_lines}
use Rattle.pdl_scope.proofs.dumping.write_names.Given as goal

-- the names before this one
abbrev pub invariant-loop-index : goal.invariant-loop-index
invariant-loop-index l = WritesLines l.fn.image l.image 0 (name_lines l.fn.image.stem l.ids (take l.index l.names.entries)) (Ok tt)
