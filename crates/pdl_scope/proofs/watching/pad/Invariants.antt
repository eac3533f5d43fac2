use Rattle.std.proofs.Common.{◌≡◌, ◌+◌, ◌-◌, ◌≤◌, ◌++◌, None, length}
use Rattle.std.specs.Prelude.{replicate, vec_capacity}
use Rattle.pdl_scope.proofs.watching.pad.Given as goal

-- so many entries were added, and there is room for the others
abbrev pub invariant-loop-added : goal.invariant-loop-added
invariant-loop-added l = record {
  items : l.watches.items ≡ l.fn.watches.items ++ replicate l.added None;
  room : length l.watches.items + (l.missing - l.added) ≤ vec_capacity l.watches;
}
