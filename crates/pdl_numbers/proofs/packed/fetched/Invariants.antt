use Rattle.std.proofs.Common.{◌≡◌, ◌≤◌, length, map, take, vec_capacity}
use Rattle.pdl_shape.specs.Places.{read}
use Rattle.pdl_numbers.specs.Bytes.{bytes_of, number_of}
use Rattle.pdl_numbers.proofs.packed.fetched.Given as goal

-- the cells at the places so far are put, and there is room for all
abbrev pub invariant-loop-place : goal.invariant-loop-place
invariant-loop-place g l = record {
  put : l.cells.items ≡ map (bytes_of g.T.PackedType.ty) (take l.place-index (read l.places (map (number_of g.T.PackedType.ty) l.from)));
  room : length l.places ≤ vec_capacity l.cells;
}
