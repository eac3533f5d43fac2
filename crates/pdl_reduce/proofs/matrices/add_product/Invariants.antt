-- The rows before this one are made.
use Rattle.std.proofs.Common.{◌≡◌, ◌*◌, ◌++◌, map, length}
use Rattle.std.specs.List.{range_with_len}
use Rattle.pdl_reduce.specs.Blocks.{product_at}
use Rattle.pdl_reduce.proofs.matrices.add_product.Given as goal

abbrev pub invariant-loop-i : goal.invariant-loop-i
invariant-loop-i l = record {
  width : length l.row ≡ l.sizes.width;
  ty : l.made.ty ≡ l.initial.made.ty;
  made : l.made.elems ≡ l.initial.made.elems ++ map (product_at l.ty l.sizes l.left l.right) (range_with_len 0 (l.i * l.sizes.width));
}
