use Rattle.std.proofs.Common.{◌≡◌, ◌≤◌, None, drop, length}
use Rattle.pdl_registry.specs.Numbered.{value_at}
use Rattle.pdl_registry.proofs.numbered.place.Given as goal

-- the number isn't among those behind
abbrev pub invariant-loop-at : goal.invariant-loop-at
invariant-loop-at g l = record {
  inside : l.at ≤ length l.entries;
  none : value_at (drop l.at l.entries) l.id ≡ None;
}

abbrev pub decreases-loop-at : goal.decreases-loop-at
decreases-loop-at g l = l.at
