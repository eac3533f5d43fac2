use Rattle.std.proofs.Common.{◌≡◌, ◌++◌, map, Some}
use Rattle.std.specs.List.{range_with_len}
use Rattle.pdl_choice.specs.Rounds.{row_place}
use Rattle.pdl_choice.proofs.indices.push_row.Given as goal

abbrev pub invariant-loop-column : goal.invariant-loop-column
invariant-loop-column l =
    l.places.items ≡ l.fn.places.items ++ map (λ c. Some (row_place l.size l.ind l.ind_line l.rest_line c)) (range_with_len 0 l.column)
