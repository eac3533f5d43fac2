use Rattle.std.proofs.Common.{◌≡◌, map, option_and_then}
use Rattle.std.specs.List.{range_with_len}
use Rattle.pdl_nodes.specs.Assigned.{entry}
use Rattle.pdl_nodes.specs.Placed.{placed_by}
use Rattle.pdl_pull.specs.Gathered.{own_at}
use Rattle.pdl_pull.proofs.gathering.listed_through.Given as goal

abbrev pub invariant-loop-position : goal.invariant-loop-position
invariant-loop-position l = l.list.items ≡ map (λ p. option_and_then (entry (placed_by l.known l.triple)) (own_at l.layout p)) (range_with_len 0 l.position)
