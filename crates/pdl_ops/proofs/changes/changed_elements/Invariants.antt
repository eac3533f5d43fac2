-- The elements before the next block are changed.
use Rattle.std.proofs.Common.{◌≡◌, ◌<◌, ◌≤◌, ◌-◌, length}
use Rattle.pdl_elem.specs.Types.{InRange}
use Rattle.pdl_ops.specs.Changes.{changed, changed_type}
use Rattle.pdl_ops.proofs.ElementwiseParts.{AreChanged}
use Rattle.pdl_ops.proofs.changes.changed_elements.Given as goal

abbrev pub invariant-loop-done : goal.invariant-loop-done
invariant-loop-done l = record {
  inside : l.done ≤ l.count;
  some : l.done < l.count → 0 < length l.block.items;
  ty : l.made.ty ≡ changed_type l.change l.a.ty;
  count : length l.made.elems ≡ l.done;
  made : AreChanged (changed l.change l.a.ty) (InRange (changed_type l.change l.a.ty)) l.a.elems l.done l.made.elems;
}

abbrev pub decreases-loop-done : goal.decreases-loop-done
decreases-loop-done l = l.count - l.done
