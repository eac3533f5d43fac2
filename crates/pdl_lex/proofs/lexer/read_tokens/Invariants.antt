use Rattle.std.proofs.Common.{◌≡◌, ◌≤◌, ◌-◌, length, drop}
use Rattle.pdl_lex.specs.Tokens.{after_tokens, toks_from, toks}
use Rattle.pdl_lex.proofs.lexer.read_tokens.Given as goal

abbrev pub invariant-loop-at : goal.invariant-loop-at
invariant-loop-at l = record {
  read : after_tokens l.found.items (toks_from l.at 0 (drop l.at l.text)) ≡ toks l.text;
  within : l.at ≤ length l.text;
}

abbrev pub decreases-loop-at : goal.decreases-loop-at
decreases-loop-at l = length l.text - l.at
