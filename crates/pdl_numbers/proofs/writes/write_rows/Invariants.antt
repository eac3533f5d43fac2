-- What is left to be put gives what the whole list does.
use Rattle.std.proofs.Common.{◌≡◌, ◌≤◌, ◌-◌, length, drop}
use Rattle.pdl_shape.specs.Places.{write}
use Rattle.pdl_numbers.specs.Writes.{placed_from}
use Rattle.pdl_numbers.proofs.writes.write_rows.Given as goal

abbrev pub invariant-loop-done : goal.invariant-loop-done
invariant-loop-done g l = record {
  inside : l.done ≤ length l.values;
  left : write (drop l.done (placed_from l.triple l.first (length l.values))) (drop l.done l.values) l.numbers ≡ write (placed_from l.triple l.first (length l.values)) l.values l.fn.numbers;
}

abbrev pub decreases-loop-done : goal.decreases-loop-done
decreases-loop-done g l = length l.values - l.done
