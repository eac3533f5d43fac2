use Rattle.std.proofs.Common.{◌≡◌, ◌≤◌, false, length, drop}
use Rattle.pdl_nodes.specs.Families.{has_repeats}
use Rattle.pdl_pull.proofs.gathering.has_twice_of_few.Given as goal

abbrev pub invariant-loop-from : goal.invariant-loop-from
invariant-loop-from l = record {
  within : l.from ≤ length l.places;
  once : has_repeats (drop l.from l.places) ≡ false;
}

abbrev pub decreases-loop-from : goal.decreases-loop-from
decreases-loop-from l = l.from
