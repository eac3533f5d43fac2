use Rattle.std.proofs.Common.{◌≡◌, drop, map}
use Rattle.pdl_elem.specs.Tables.{found_in}
use Rattle.pdl_elem.proofs.tables.found_in.Given as goal

abbrev pub invariant-loop-entry : goal.invariant-loop-entry
invariant-loop-entry g l =
    found_in (map (λ entry. (entry.0.now, entry.1)) (drop l.entry-index l.table)) l.text
    ≡ found_in (map (λ entry. (entry.0.now, entry.1)) l.table) l.text
