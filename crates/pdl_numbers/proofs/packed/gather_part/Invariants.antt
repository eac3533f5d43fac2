use Rattle.std.proofs.Common.{◌≡◌, ℕ, ◌<◌, ◌≤◌, pos, [], length, map, take, get_or}
use Rattle.pdl_shape.specs.Places.{read}
use Rattle.pdl_numbers.specs.Bytes.{bytes_of, number_of}
use Rattle.pdl_numbers.proofs.packed.gather_part.Given as goal

-- the cells before i are those at their places, and the others are still those of 0
abbrev pub invariant-loop-i : goal.invariant-loop-i
invariant-loop-i g l = record {
  count : length l.cells ≡ length l.places;
  done : take l.i l.cells ≡ map (bytes_of g.T.PackedType.ty) (take l.i (read l.places (map (number_of g.T.PackedType.ty) l.from)));
  zeros : (k : ℕ) → l.i ≤ k → k < length l.cells → get_or l.cells k [] ≡ bytes_of g.T.PackedType.ty (pos 0);
}
