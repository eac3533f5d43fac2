-- What the elements before the next block come to, and the list with what they come to at each place.
use Rattle.std.proofs.Common.{◌≡◌, ◌≤◌, ◌-◌, ◌++◌, fold, take, drop}
use Rattle.pdl_numbers.specs.Prefixes.{wrapped_prefixes}
use Rattle.pdl_reduce.proofs.windows.run_window.Given as goal

abbrev pub invariant-loop-done : goal.invariant-loop-done
invariant-loop-done g l = record {
  inside : l.done ≤ l.count;
  so_far : l.so_far ≡ fold g.F.Folding.taken l.start (take l.done (drop l.first l.a.elems));
  ty : l.made.ty ≡ l.initial.made.ty;
  made : l.made.elems ≡ l.initial.made.elems ++ wrapped_prefixes l.initial.made.ty g.F.Folding.taken l.start (take l.done (drop l.first l.a.elems));
}

abbrev pub decreases-loop-done : goal.decreases-loop-done
decreases-loop-done g l = l.count - l.done
