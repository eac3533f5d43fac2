use Rattle.std.proofs.Common.{◌≡◌, ◌≤◌, ◌-◌, length, drop}
use Rattle.pdl_code.specs.Lexing.{behind, lexed_from, lexed}
use Rattle.pdl_code.proofs.lexing.read_lexemes.Given as goal

abbrev pub invariant-loop-at : goal.invariant-loop-at
invariant-loop-at l = record {
  read : behind l.lexemes.items (lexed_from l.at 0 (drop l.at l.text)) ≡ lexed l.text;
  within : l.at ≤ length l.text;
}

abbrev pub decreases-loop-at : goal.decreases-loop-at
decreases-loop-at l = length l.text - l.at
