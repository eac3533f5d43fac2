use Rattle.pdl_slices.proofs.SliceReadingOutcomes.{IsAt}
use Rattle.pdl_slices.proofs.read_slice.Given as goal

-- the reader is at the stage after the bytes before
abbrev pub invariant-loop-at : goal.invariant-loop-at
invariant-loop-at l = IsAt l.text l.at l.reader
