use Rattle.std.proofs.Common.{◌≡◌, ◌≤◌, ◌-◌, length, fold, map, take, drop}
use Rattle.pdl_numbers.specs.Bytes.{bytes_of, number_of}
use Rattle.pdl_numbers.specs.Prefixes.{wrapped_prefixes}
use Rattle.pdl_numbers.proofs.prefixes.update_prefixes.Given as goal

-- what the numbers before the next part come to; the cells before it have the prefixes, and the
-- others still stand
abbrev pub invariant-loop-cells : goal.invariant-loop-cells
invariant-loop-cells g l = record {
  kept : length l.cells ≡ length l.fn.cells;
  inside : l.done ≤ length l.fn.cells;
  so_far : l.so_far ≡ fold g.F.Folding.taken l.start (take l.done (map (number_of g.T.PackedType.ty) l.fn.cells));
  packed : take l.done l.cells ≡ map (bytes_of g.T.PackedType.ty) (wrapped_prefixes g.T.PackedType.ty g.F.Folding.taken l.start (take l.done (map (number_of g.T.PackedType.ty) l.fn.cells)));
  left : drop l.done l.cells ≡ drop l.done l.fn.cells;
}

abbrev pub decreases-loop-cells : goal.decreases-loop-cells
decreases-loop-cells g l = length l.fn.cells - l.done
