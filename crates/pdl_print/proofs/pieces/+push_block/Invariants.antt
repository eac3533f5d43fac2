use Rattle.std.proofs.Common.{◌≡◌, ◌++◌, ◌+◌, ◌-◌, take, drop, codes}
use Rattle.std.specs.Prelude.{flat_map}
use Rattle.pdl_print.specs.Printed.{block, pieces, spaces}
use Rattle.pdl_print.proofs.pieces.+push_block.Given as goal

abbrev pub decreases-push_block : goal.decreases-push_block
decreases-push_block l = l.around

-- the members before this one
abbrev pub invariant-loop-member : goal.invariant-loop-member
invariant-loop-member l =
    l.into.items ≡ (l.fn.into.items ++ (spaces l.indent ++ codes "[\n")) ++ flat_map (block l.elems.dims (l.around - 1) (l.indent + 1)) (pieces l.member l.size (take l.count (drop l.first l.elems.elems)))
