-- The meaning of a text's tokens as a function. The law `parsing_is_the_grammar` says that it is
-- the grammar with its checks.
use Rattle.std.specs.Prelude.{◌≡◌, ℕ, List, if◌then◌else◌, Option, Some, None, IfSome, Result, Ok, Err}
use Rattle.pdl_lex.specs.declared.Token.{Token}
use Rattle.pdl_lexemes.specs.declared.Lexeme.{Lexeme}
use Rattle.pdl_lexemes.specs.Lexing.{lexemes_of}
use Rattle.pdl_lexemes.specs.Depth.{is_too_deep, has_large}
use Rattle.pdl_syntax.specs.declared.parser.ParseFault.{ParseFault}
use Rattle.pdl_syntax.specs.declared.tree.Statement.{Statement}
use Rattle.pdl_syntax.specs.StatementTree.{StatementTree, statement_of}
use Rattle.pdl_syntax.specs.StatementReading.{read_statement}
use Rattle.pdl_syntax.specs.Ragged.{in_statement}
use Rattle.pdl_syntax.specs.Refusals.{NoStatement, too_deep, number_too_large, not_spelled, ragged_list, refusal_of}

abbrev pub unless_ragged : Option StatementTree → Result StatementTree NoStatement
unless_ragged None = Err not_spelled
unless_ragged (Some s) = if in_statement s then Err ragged_list else Ok s

-- the checks in their order: too deep, a number too large, no statement, a ragged list
abbrev pub checked_lexemes : List ℕ → List Lexeme → Result StatementTree NoStatement
checked_lexemes source lexemes =
    if is_too_deep lexemes then Err too_deep
    else (if has_large lexemes then Err number_too_large
    else unless_ragged (read_statement source lexemes))

-- the statement that the tokens of a text spell, or the first check that they fail
unfoldable pub parsed : List ℕ → List Token → Result StatementTree NoStatement
parsed text tokens = checked_lexemes text (lexemes_of text tokens)

-- the answer is this one; `NoMemory` says nothing
abbrev pub IsParsed : Result StatementTree NoStatement → Result Statement ParseFault → Type 0
IsParsed wanted (Ok s) = wanted ≡ Ok (statement_of s)
IsParsed wanted (Err fault) = IfSome (refusal_of fault) (λ refusal. wanted ≡ Err refusal)
