-- The values before the next part are made, and there is room for it.
use Rattle.std.proofs.Common.{◌≡◌, ◌≤◌, ◌*◌, ◌-◌, length}
use Rattle.pdl_ops.proofs.ElementwiseParts.{AreFound}
use Rattle.pdl_ops.proofs.values.values_within.Given as goal

abbrev pub invariant-loop-done : goal.invariant-loop-done
invariant-loop-done l = record {
  inside : l.done ≤ l.count;
  room : 3 * l.block ≤ length l.room;
  ty : l.made.ty ≡ l.old.ty;
  made : AreFound l.sign l.old.ty l.new.ty l.old.elems l.new.elems l.done l.made.elems;
}

abbrev pub decreases-loop-done : goal.decreases-loop-done
decreases-loop-done l = l.count - l.done
