use Rattle.std.proofs.Common.{◌≡◌, ◌++◌, ◌*◌, take, drop}
use Rattle.std.specs.Prelude.{flat_map}
use Rattle.pdl_print.specs.Printed.{line, widest, pieces}
use Rattle.pdl_print.proofs.pieces.push_rows.Given as goal

-- the rows before this one
abbrev pub invariant-loop-row : goal.invariant-loop-row
invariant-loop-row l =
    let es = take (l.rows * l.size) (drop l.first l.elems.elems) in
    l.into.items ≡ l.fn.into.items ++ flat_map (line l.indent (widest es)) (pieces l.row l.size es)
