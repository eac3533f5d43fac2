use Rattle.std.proofs.Common.{◌≡◌, ◌<◌, ◌≤◌, ℕ, false, length, get_or, drop}
use Rattle.pdl_nodes.specs.Families.{is_among, has_repeats}
use Rattle.pdl_pull.proofs.gathering.has_twice_by_bits.Given as goal

abbrev pub invariant-loop-position : goal.invariant-loop-position
invariant-loop-position l = record {
  within : l.position ≤ length l.places;
  count : length l.seen ≡ l.count;
  seen : (q : ℕ) → q < l.count → get_or l.seen q false ≡ is_among q (drop l.position l.places);
  once : has_repeats (drop l.position l.places) ≡ false;
}

abbrev pub decreases-loop-position : goal.decreases-loop-position
decreases-loop-position l = l.position
