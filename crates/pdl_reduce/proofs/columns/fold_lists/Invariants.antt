-- The elements of each list before this one are taken in.
use Rattle.std.proofs.Common.{◌≡◌, ◌<◌, ◌+◌, ℕ, pos, get_or, length, fold, take}
use Rattle.pdl_reduce.specs.Reductions.{nth_list}
use Rattle.pdl_reduce.proofs.columns.fold_lists.Given as goal

abbrev pub invariant-loop-i : goal.invariant-loop-i
invariant-loop-i g l = record {
  kept : length l.so_far ≡ length l.initial.so_far;
  taken : (j : ℕ) → j < length l.initial.so_far → get_or l.so_far j (pos 0) ≡ fold g.F.Folding.taken l.start (take l.i (nth_list l.size l.a.elems (l.first + j)));
}
