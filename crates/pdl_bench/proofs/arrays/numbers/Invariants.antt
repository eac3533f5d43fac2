use Rattle.std.proofs.Common.{◌≡◌, length}
use Rattle.std.specs.Prelude.{All}
use Rattle.pdl_elem.specs.Types.{InRange}
use Rattle.pdl_bench.proofs.arrays.numbers.Given as goal

-- the numbers so far
abbrev pub invariant-loop-i : goal.invariant-loop-i
invariant-loop-i l = record {
  count : length l.numbers.items ≡ l.i;
  in_range : All (InRange l.ty) l.numbers.items;
}
