-- What is left to be copied gives what all of it does.
use Rattle.std.proofs.Common.{◌≡◌, ◌≤◌, ◌-◌, length, drop}
use Rattle.pdl_shape.specs.Places.{read, write}
use Rattle.pdl_shape.specs.Shape.{size_of}
use Rattle.pdl_numbers.specs.Writes.{placed_from}
use Rattle.pdl_numbers.proofs.copies.copy_rows.Given as goal

abbrev pub invariant-loop-done : goal.invariant-loop-done
invariant-loop-done g l = record {
  inside : l.done ≤ l.count;
  many : length l.numbers ≡ length l.fn.numbers;
  left : write (drop l.done (placed_from l.to 0 (size_of l.to.dims))) (drop l.done (read (placed_from l.shown 0 (size_of l.to.dims)) l.from)) l.numbers
      ≡ write (placed_from l.to 0 (size_of l.to.dims)) (read (placed_from l.shown 0 (size_of l.to.dims)) l.from) l.fn.numbers;
}

abbrev pub decreases-loop-done : goal.decreases-loop-done
decreases-loop-done g l = l.count - l.done
