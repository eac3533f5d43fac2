use Rattle.std.proofs.Common.{◌≡◌, ◌≤◌, false, length, drop}
use Rattle.pdl_nodes.specs.Families.{is_among}
use Rattle.pdl_pull.proofs.gathering.is_among.Given as goal

abbrev pub invariant-loop-left : goal.invariant-loop-left
invariant-loop-left l = record {
  within : l.left ≤ length l.places;
  among : is_among l.at (drop l.left l.places) ≡ false;
}

abbrev pub decreases-loop-left : goal.decreases-loop-left
decreases-loop-left l = l.left
