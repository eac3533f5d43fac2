use Rattle.std.proofs.Common.{◌≡◌, ◌-◌, length, take}
use Rattle.std.specs.Prelude.{slice_get}
use Rattle.pdl_engine.specs.Looks.{array_numbers}
use Rattle.pdl_scope.proofs.dumping.all_numbers.Given as goal

-- the numbers so far are the first, and the next one follows
abbrev pub invariant-loop-next : goal.invariant-loop-next
invariant-loop-next l = record {
  listed : l.ids.items ≡ take (length l.ids.items) (array_numbers l.engine.world);
  next_is : l.next ≡ slice_get (array_numbers l.engine.world) (length l.ids.items);
}

abbrev pub decreases-loop-next : goal.decreases-loop-next
decreases-loop-next l = length (array_numbers l.engine.world) - length l.ids.items
