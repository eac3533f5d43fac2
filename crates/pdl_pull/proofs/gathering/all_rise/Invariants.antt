-- The places behind this position rise from the least of them on.
use Rattle.std.proofs.Common.{◌≡◌, ◌≤◌, ℕ, true, false, length, drop}
use Rattle.pdl_nodes.specs.Families.{is_among, has_repeats}
use Rattle.pdl_pull.proofs.gathering.all_rise.Given as goal

abbrev pub invariant-loop-first : goal.invariant-loop-first
invariant-loop-first l = record {
  within : l.first ≤ length l.places;
  low : (q : ℕ) → is_among q (drop l.first l.places) ≡ true → l.least ≤ q;
  once : has_repeats (drop l.first l.places) ≡ false;
}

abbrev pub decreases-loop-first : goal.decreases-loop-first
decreases-loop-first l = l.first
