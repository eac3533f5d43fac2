use Rattle.std.proofs.Common.{◌≡◌, take, map}
use Rattle.pdl_lexemes.specs.Lexing.{lexeme_of}
use Rattle.pdl_lexemes.proofs.lexing.read_lexemes.Given as goal

abbrev pub invariant-loop-token : goal.invariant-loop-token
invariant-loop-token l = l.all.items ≡ map (lexeme_of l.source) (take l.token-index l.tokens)
