-- The products at the places before this one are made.
use Rattle.std.proofs.Common.{◌≡◌, ◌*◌, [], ◌∷◌, map, length}
use Rattle.std.specs.List.{range_with_len}
use Rattle.pdl_shape.specs.Triple.{whole_triple}
use Rattle.pdl_reduce.specs.Blocks.{IsHeld, products_at}
use Rattle.pdl_reduce.proofs.meeting.put_products.Given as goal

abbrev pub invariant-loop-q : goal.invariant-loop-q
invariant-loop-q l = record {
  walk : l.walk ≡ record { dims = l.joined; triples = whole_triple l.left_sizes ∷ whole_triple l.right_sizes ∷ []; index = l._q };
  left : length l.left_block ≡ l.sizes.left_depth * l.sizes.height;
  right : length l.right_block ≡ l.sizes.width * l.sizes.right_depth;
  left_held : IsHeld l.ty l.left.elems l.left_held l.left_block;
  right_held : IsHeld l.ty l.right.elems l.right_held l.right_block;
  row : length l.row ≡ l.sizes.width;
  ty : l.made.ty ≡ l.ty;
  made : l.made.elems ≡ map (products_at l.ty l.sizes l.left.elems l.right.elems l.left_sizes l.right_sizes l.joined) (range_with_len 0 (l._q * (l.sizes.height * l.sizes.width)));
}
