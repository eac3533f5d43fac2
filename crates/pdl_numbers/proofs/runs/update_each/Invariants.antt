use Rattle.std.proofs.Common.{◌≡◌, ◌≤◌, ℕ, [], map, take, get_or}
use Rattle.pdl_elem.specs.Blocks.{pairwise}
use Rattle.pdl_elem.specs.Operators.{value_of}
use Rattle.pdl_numbers.specs.Bytes.{bytes_of, number_of}
use Rattle.pdl_numbers.proofs.runs.update_each.Given as goal

-- the cells before i have the values, and the others still stand
abbrev pub invariant-loop-i : goal.invariant-loop-i
invariant-loop-i g l = record {
  done : take l.i l.cells
      ≡ map (bytes_of g.T.PackedType.ty) (take l.i (pairwise (value_of g.O.KnownOp.op g.T.PackedType.ty) (map (number_of g.T.PackedType.ty) l.fn.cells) (map (number_of g.T.PackedType.ty) l.right)));
  left : (k : ℕ) → l.i ≤ k → get_or l.cells k [] ≡ get_or l.fn.cells k [];
}
