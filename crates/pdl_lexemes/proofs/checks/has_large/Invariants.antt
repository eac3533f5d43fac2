use Rattle.std.proofs.Common.{◌≡◌, drop}
use Rattle.pdl_lexemes.specs.Depth.{has_large}
use Rattle.pdl_lexemes.proofs.checks.has_large.Given as goal

abbrev pub invariant-loop-lexeme : goal.invariant-loop-lexeme
invariant-loop-lexeme l = has_large l.tokens ≡ has_large (drop l.lexeme-index l.tokens)
