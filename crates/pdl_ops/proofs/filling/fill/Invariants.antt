-- The elements before the next block are made.
use Rattle.std.proofs.Common.{◌≡◌, ◌<◌, ◌≤◌, ◌-◌, length, map, pos}
use Rattle.std.specs.List.{range_with_len}
use Rattle.pdl_elem.specs.Numbers.{wrapped}
use Rattle.pdl_elem.specs.Types.{InRange}
use Rattle.pdl_shape.specs.Shape.{size_of}
use Rattle.pdl_ops.specs.Fills.{fill_element}
use Rattle.pdl_ops.proofs.ElementwiseParts.{AreChanged}
use Rattle.pdl_ops.proofs.filling.fill.Given as goal

abbrev pub invariant-loop-done : goal.invariant-loop-done
invariant-loop-done l = record {
  inside : l.done ≤ l.count;
  some : l.done < l.count → 0 < length l.block.items;
  ty : l.elems.ty ≡ l.ty;
  made : AreChanged (wrapped l.ty) (InRange l.ty) (map (λ p. pos (fill_element l.kind l.sizes p)) (range_with_len 0 (size_of l.sizes))) l.done l.elems.elems;
}

abbrev pub decreases-loop-done : goal.decreases-loop-done
decreases-loop-done l = l.count - l.done
