use Rattle.std.proofs.Common.{◌≡◌, ◌≤◌, ℕ, [], fold, map, take, get_or}
use Rattle.pdl_numbers.specs.Bytes.{bytes_of, number_of}
use Rattle.pdl_numbers.specs.Prefixes.{wrapped_prefixes}
use Rattle.pdl_numbers.proofs.prefixes.update_part.Given as goal

-- what the numbers before this one come to; the cells before it have the prefixes, and the others
-- still stand
abbrev pub invariant-loop-place : goal.invariant-loop-place
invariant-loop-place g l = record {
  so_far : l.so_far ≡ fold g.F.Folding.taken l.start (take l.place (map (number_of g.T.PackedType.ty) l.fn.cells));
  packed : take l.place l.cells ≡ map (bytes_of g.T.PackedType.ty) (take l.place (wrapped_prefixes g.T.PackedType.ty g.F.Folding.taken l.start (map (number_of g.T.PackedType.ty) l.fn.cells)));
  left : (k : ℕ) → l.place ≤ k → get_or l.cells k [] ≡ get_or l.fn.cells k [];
}
