-- The places behind this position are flagged, and it is known whether one of them comes twice.
use Rattle.std.proofs.Common.{◌≡◌, ◌≤◌, length, drop}
use Rattle.pdl_nodes.specs.Families.{has_repeats}
use Rattle.pdl_pull.specs.Seen.{AreFlagsOf}
use Rattle.pdl_pull.proofs.gathering.flag_places.Given as goal

abbrev pub invariant-loop-position : goal.invariant-loop-position
invariant-loop-position l = record {
  within : l.position ≤ length l.places;
  above : l.first ≤ l.position;
  flags : AreFlagsOf (drop l.position l.places) l.seen;
  twice : l.twice ≡ has_repeats (drop l.position l.places);
}

abbrev pub decreases-loop-position : goal.decreases-loop-position
decreases-loop-position l = l.position
