-- The elements of the coordinates before this one are there.
use Rattle.std.proofs.Common.{◌≡◌, ◌≤◌, [], map}
use Rattle.std.specs.List.{range_with_len}
use Rattle.pdl_buf.specs.Made.{broadcast_element}
use Rattle.pdl_shape.specs.Shape.{coordinates_of, size_of}
use Rattle.pdl_kernel.proofs.setup.spread.Given as goal

abbrev pub invariant-loop-place : goal.invariant-loop-place
invariant-loop-place l = record {
  walk : l.walk ≡ record { dims = l.shape; triples = []; index = l._place };
  made : l.elems.items ≡ map (λ q. broadcast_element l.ty l.given (coordinates_of l.shape q)) (range_with_len 0 l._place);
  bound : l._place ≤ size_of l.shape;
}
