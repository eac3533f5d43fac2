use Rattle.std.proofs.Common.{◌≡◌, ◌≤◌, ◌-◌, drop, length}
use Rattle.pdl_registry.proofs.NumberedLemmas.{first_of}
use Rattle.pdl_registry.proofs.numbered.first_of.Given as goal

-- the first of what is left is the answer
abbrev pub invariant-loop-at : goal.invariant-loop-at
invariant-loop-at g l = record {
  inside : l.at ≤ length l.entries;
  left : first_of l.entries l.id ≡ first_of (drop l.at l.entries) l.id;
}

abbrev pub decreases-loop-at : goal.decreases-loop-at
decreases-loop-at g l = length l.entries - l.at
