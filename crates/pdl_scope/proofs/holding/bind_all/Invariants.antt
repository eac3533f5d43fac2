use Rattle.std.proofs.Common.{◌≡◌, ◌+◌, ◌<◌, ◌≤◌, ◌^◌, length, map, reverse}
use Rattle.std.specs.Prelude.{vec_capacity}
use Rattle.pdl_machine.specs.State.{AreLive}
use Rattle.pdl_scope.specs.Holding.{SameButHolds, StaysHeldFor}
use Rattle.pdl_scope.specs.Room.{with_names}
use Rattle.pdl_scope.proofs.holding.bind_all.Given as goal

-- the names so far are bound: with those that are left they are all
abbrev pub invariant-loop-name : goal.invariant-loop-name
invariant-loop-name l = record {
  names : with_names l.names.entries (reverse l.bound.items) ≡ with_names l.fn.names.entries l.fn.bound.items;
  live : AreLive l.fn.engine.world (map (λ n. n.1) (reverse l.bound.items));
  same : SameButHolds l.fn.engine l.engine;
  held : StaysHeldFor l.fn.names.entries l.fn.engine l.fn.leaving.items l.names.entries l.engine l.leaving.items;
  spare : length l.bound.items ≤ l.names.spare;
  room : length l.leaving.items + length l.bound.items ≤ vec_capacity l.leaving;
  small : length l.leaving.items + length l.bound.items < 2 ^ 62;
}

abbrev pub decreases-loop-name : goal.decreases-loop-name
decreases-loop-name l = length l.bound.items
