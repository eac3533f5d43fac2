use Rattle.std.proofs.Common.{◌≡◌, drop}
use Rattle.pdl_sig.specs.Grammar.{past_blanks}
use Rattle.pdl_sig.proofs.lexing.past_blanks.Given as goal

abbrev pub invariant-loop-at : goal.invariant-loop-at
invariant-loop-at l = past_blanks (drop l.at l.text) ≡ past_blanks l.text
