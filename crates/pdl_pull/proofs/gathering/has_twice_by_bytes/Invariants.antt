-- The places behind this position are flagged, and it is known whether one of them comes twice.
use Rattle.std.proofs.Common.{◌≡◌, ◌≤◌, length, drop}
use Rattle.pdl_nodes.specs.Families.{has_repeats}
use Rattle.pdl_pull.specs.Seen.{AreFlagsOf}
use Rattle.pdl_pull.proofs.gathering.has_twice_by_bytes.Given as goal

abbrev pub invariant-loop-end : goal.invariant-loop-end
invariant-loop-end l = record {
  within : l.end ≤ length l.places;
  count : length l.seen.items ≡ l.count;
  flags : AreFlagsOf (drop l.end l.places) l.seen.items;
  twice : l.twice ≡ has_repeats (drop l.end l.places);
}

abbrev pub decreases-loop-end : goal.decreases-loop-end
decreases-loop-end l = l.end
