-- What is left to be changed gives what all of it does.
use Rattle.std.proofs.Common.{◌≡◌, ◌≤◌, ◌-◌, length, drop}
use Rattle.pdl_shape.specs.Shape.{size_of}
use Rattle.pdl_numbers.specs.Updates.{change, updated}
use Rattle.pdl_numbers.specs.Writes.{placed_from}
use Rattle.pdl_numbers.proofs.updates.update_rows.Given as goal

abbrev pub invariant-loop-done : goal.invariant-loop-done
invariant-loop-done g l = record {
  inside : l.done ≤ l.count;
  many : length l.numbers ≡ length l.fn.numbers;
  left : change (updated g.T.PackedType.ty l.update) (drop l.done (placed_from l.triple 0 (size_of l.triple.dims))) l.numbers
      ≡ change (updated g.T.PackedType.ty l.update) (placed_from l.triple 0 (size_of l.triple.dims)) l.fn.numbers;
}

abbrev pub decreases-loop-done : goal.decreases-loop-done
decreases-loop-done g l = l.count - l.done
