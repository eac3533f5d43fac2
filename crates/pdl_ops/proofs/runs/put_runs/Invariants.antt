-- The values before the next run are put.
use Rattle.std.proofs.Common.{◌≡◌, ◌≤◌, ◌-◌, take}
use Rattle.pdl_elem.specs.Blocks.{pairwise}
use Rattle.pdl_elem.specs.Operators.{value_of}
use Rattle.pdl_ops.proofs.runs.put_runs.Given as goal

abbrev pub invariant-loop-done : goal.invariant-loop-done
invariant-loop-done l = record {
  inside : l.done ≤ l.count;
  ty : l.made.ty ≡ l.initial.made.ty;
  made : l.made.elems ≡ pairwise (value_of l.op l.initial.made.ty) (take l.done l.a.elems) (take l.done l.b.elems);
}

abbrev pub decreases-loop-done : goal.decreases-loop-done
decreases-loop-done l = l.count - l.done
