-- The lists before this one are folded.
use Rattle.std.proofs.Common.{◌≡◌, ◌≤◌, ◌-◌, ◌++◌, length, map}
use Rattle.std.specs.List.{range_with_len}
use Rattle.pdl_reduce.specs.Across.{come_to}
use Rattle.pdl_reduce.proofs.columns.add_lists.Given as goal

abbrev pub invariant-loop-done : goal.invariant-loop-done
invariant-loop-done g l = record {
  kept : length l.so_far ≡ length l.initial.so_far;
  inside : l.done ≤ l.count;
  ty : l.made.ty ≡ l.initial.made.ty;
  made : l.made.elems ≡ l.initial.made.elems ++ map (come_to l.ty g.F.Folding.taken l.start l.size l.a.elems) (range_with_len 0 l.done);
}

abbrev pub decreases-loop-done : goal.decreases-loop-done
decreases-loop-done g l = l.count - l.done
