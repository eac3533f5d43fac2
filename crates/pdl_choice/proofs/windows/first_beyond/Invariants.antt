use Rattle.std.proofs.Common.{◌≡◌, ℕ, ◌%◌, ◌<◌, get_or, length, false, pos}
use Rattle.pdl_choice.specs.Edges.{edge_refuses}
use Rattle.pdl_choice.proofs.windows.first_beyond.Given as goal

abbrev pub invariant-loop-place : goal.invariant-loop-place
invariant-loop-place l =
    (l.number ≡ l.place % length l.windows)
    × ((k : ℕ) → k < l.place → edge_refuses l.edge (get_or l.parent (k % length l.windows) 0) (get_or l.windows (k % length l.windows) 0) (get_or l.ind k (pos 0)) ≡ false)
