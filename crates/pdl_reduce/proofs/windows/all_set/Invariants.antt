-- The elements before the next block don't decide it.
use Rattle.std.proofs.Common.{◌≡◌, ◌≤◌, ◌-◌, take, true}
use Rattle.std.specs.List.{list_all}
use Rattle.pdl_reduce.specs.Reductions.{is_set}
use Rattle.pdl_reduce.proofs.windows.all_set.Given as goal

abbrev pub invariant-loop-done : goal.invariant-loop-done
invariant-loop-done l = record {
  inside : l.done ≤ l.count;
  so_far : list_all is_set (take l.done l.a.elems) ≡ true;
}

abbrev pub decreases-loop-done : goal.decreases-loop-done
decreases-loop-done l = l.count - l.done
