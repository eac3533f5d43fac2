use Rattle.std.proofs.Common.{◌≡◌, ℕ, ◌+◌, false, List, ◌++◌, length}
use Rattle.pdl_lex.specs.Pieces.{to_come}
use Rattle.pdl_lex.proofs.parts.cut_part.Given as goal

abbrev pub invariant-loop-rest : goal.invariant-loop-rest
invariant-loop-rest l = record {
  stream : (more : List ℕ) → l.found.items ++ to_come l.cutter (l.rest ++ more) ≡ l.fn.found.items ++ to_come l.fn.cutter (l.part ++ more);
  works : l.cutter.failed ≡ false;
  count : l.cutter.taken + length l.rest ≡ l.fn.cutter.taken + length l.part;
}

abbrev pub decreases-loop-rest : goal.decreases-loop-rest
decreases-loop-rest l = length l.rest
