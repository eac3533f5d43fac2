-- The elements before the next run are copied.
use Rattle.std.proofs.Common.{◌≡◌, ◌≤◌, ◌-◌, take}
use Rattle.pdl_ops.proofs.runs.copy_runs.Given as goal

abbrev pub invariant-loop-done : goal.invariant-loop-done
invariant-loop-done l = record {
  inside : l.done ≤ l.count;
  ty : l.made.ty ≡ l.a.ty;
  made : l.made.elems ≡ take l.done l.a.elems;
}

abbrev pub decreases-loop-done : goal.decreases-loop-done
decreases-loop-done l = l.count - l.done
