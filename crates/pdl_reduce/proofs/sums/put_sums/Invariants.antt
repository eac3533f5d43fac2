-- The sums at the places before this one are made.
use Rattle.std.proofs.Common.{◌≡◌, ◌≤◌, ◌-◌, ◌*◌, length, map}
use Rattle.std.specs.List.{range_with_len}
use Rattle.pdl_reduce.specs.Blocks.{products_at}
use Rattle.pdl_reduce.proofs.sums.put_sums.Given as goal

abbrev pub invariant-loop-done : goal.invariant-loop-done
invariant-loop-done l = record {
  inside : l.done ≤ l.total;
  left : length l.left_block ≡ l.most * l.sizes.left_depth;
  right : length l.right_block ≡ l.most * l.sizes.right_depth;
  sums : length l.sums ≡ l.most;
  ty : l.made.ty ≡ l.ty;
  made : l.made.elems ≡ map (products_at l.ty l.sizes l.left.elems l.right.elems l.left_sizes l.right_sizes l.joined) (range_with_len 0 l.done);
}

abbrev pub decreases-loop-done : goal.decreases-loop-done
decreases-loop-done l = l.total - l.done
