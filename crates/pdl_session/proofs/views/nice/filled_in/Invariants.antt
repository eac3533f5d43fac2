use Rattle.pdl_session.proofs.NiceCallPatterns.{IsFilled}
use Rattle.pdl_session.proofs.views.nice.filled_in.Given as goal

abbrev pub invariant-loop-byte : goal.invariant-loop-byte
invariant-loop-byte l = IsFilled l.pattern l.numbers l.byte-index l.used l.text.items
