use Rattle.std.proofs.Common.{◌≡◌, ℕ, false, List, ◌++◌, length, take}
use Rattle.std.specs.Prelude.{flat_map, sum_by}
use Rattle.pdl_lex.specs.Pieces.{pieces, to_come}
use Rattle.pdl_lex.proofs.parts.cut_parts.Given as goal

abbrev pub invariant-loop-part : goal.invariant-loop-part
invariant-loop-part l = record {
  stream : (more : List ℕ) → l.found.items ++ to_come l.cutter more ≡ pieces (flat_map (λ part. part.now) (take l.part-index l.parts) ++ more);
  works : l.cutter.failed ≡ false;
  count : l.cutter.taken ≡ sum_by (λ part. length part.now) (take l.part-index l.parts);
}
