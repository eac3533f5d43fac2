-- The dimensions before this one have their starts.
use Rattle.std.proofs.Common.{◌≡◌, get_or, map}
use Rattle.std.specs.List.{range_with_len}
use Rattle.pdl_choice.specs.Edges.{start_count}
use Rattle.pdl_choice.proofs.corners.starts_of.Given as goal

abbrev pub invariant-loop-number : goal.invariant-loop-number
invariant-loop-number l = l.starts.items ≡ map (λ j. start_count (get_or l.parent j 0) (get_or l.windows j 0)) (range_with_len 0 l.number)
