-- What the elements before the next block come to, and where it last came to be so.
use Rattle.std.proofs.Common.{◌≡◌, ◌≢◌, ◌<◌, ◌≤◌, ◌-◌, fold, take, drop, All}
use Rattle.pdl_elem.specs.Types.{InRange}
use Rattle.pdl_reduce.proofs.windows.fold_changes.Given as goal

abbrev pub invariant-loop-done : goal.invariant-loop-done
invariant-loop-done g l = record {
  inside : l.done ≤ l.count;
  so_far : l.so_far ≡ fold g.F.Folding.taken l.start (take l.done (drop l.first l.a.elems));
  changed : 0 < l.changed → fold g.F.Folding.taken l.start (take l.changed (drop l.first l.a.elems)) ≢ l.so_far;
  before : l.changed ≤ l.done;
  in_range : All (InRange l.a.ty) (take l.done (drop l.first l.a.elems));
}

abbrev pub decreases-loop-done : goal.decreases-loop-done
decreases-loop-done g l = l.count - l.done
