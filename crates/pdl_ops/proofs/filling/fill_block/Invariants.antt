-- The elements before this one are set, and its coordinates are known.
use Rattle.std.proofs.Common.{◌≡◌, ◌+◌, ◌/◌, ◌%◌, length, take, map, pos}
use Rattle.std.specs.List.{range_with_len}
use Rattle.pdl_ops.specs.Fills.{fill_element}
use Rattle.pdl_ops.proofs.filling.fill_block.Given as goal

abbrev pub invariant-loop-i : goal.invariant-loop-i
invariant-loop-i l = record {
  set : take l.i l.into ≡ take l.i (map (λ i. pos (fill_element l.kind l.sizes (l.first + i))) (range_with_len 0 (length l.fn.into)));
  x : l.x ≡ (l.first + l.i) % l.width;
  y : l.y ≡ (l.first + l.i) / l.width % l.height;
}
