use Rattle.std.proofs.Common.{length}
use Rattle.pdl_sig.specs.SignatureReading.{dims_at}
use Rattle.pdl_sig.proofs.SignatureReadingTurns.{DimsLeft}
use Rattle.pdl_sig.proofs.reading.dims.Given as goal

abbrev pub invariant-loop-turn : goal.invariant-loop-turn
invariant-loop-turn l = DimsLeft l.turn l.turn-end l.rest l.dims.items (dims_at (length l.fn.text) l.fn.text)
