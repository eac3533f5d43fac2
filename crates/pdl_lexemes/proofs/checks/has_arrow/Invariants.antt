use Rattle.std.proofs.Common.{◌≡◌, drop}
use Rattle.pdl_lexemes.specs.Depth.{has_arrow}
use Rattle.pdl_lexemes.proofs.checks.has_arrow.Given as goal

abbrev pub invariant-loop-lexeme : goal.invariant-loop-lexeme
invariant-loop-lexeme l = has_arrow l.tokens ≡ has_arrow (drop l.lexeme-index l.tokens)
