use Rattle.std.proofs.Common.{length}
use Rattle.pdl_sig.specs.SignatureReading.{args_at}
use Rattle.pdl_sig.proofs.SignatureReadingTurns.{ArgsLeft}
use Rattle.pdl_sig.proofs.reading.args.Given as goal

abbrev pub invariant-loop-turn : goal.invariant-loop-turn
invariant-loop-turn l = ArgsLeft l.turn l.turn-end l.rest l.args.items (args_at (length l.fn.text) l.fn.text)
