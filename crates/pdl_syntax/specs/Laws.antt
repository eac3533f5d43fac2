-- What the grammar promises to the crates above. Each is the contract of a public function.
use Rattle.std.specs.Prelude.{◌≡◌, ◌↔◌, ℕ, List, Some, Result, All}
use Rattle.pdl_lex.specs.declared.Token.{Token}
use Rattle.pdl_lexemes.specs.declared.Lexeme.{Lexeme}
use Rattle.pdl_lexemes.specs.Lexing.{lexemes_of}
use Rattle.pdl_lexemes.specs.Lists.{HoldsRagged}
use Rattle.pdl_lexemes.specs.Texts.{HoldsText}
use Rattle.pdl_syntax.specs.StatementTree.{StatementTree}
use Rattle.pdl_syntax.specs.Statements.{SpellsStatement}
use Rattle.pdl_syntax.specs.StatementReading.{read_statement}
use Rattle.pdl_syntax.specs.Refusals.{NoStatement, Means}
use Rattle.pdl_syntax.specs.Parsed.{parsed}
use Rattle.pdl_syntax.specs.WellMade.{IsWellMade}

-- a statement is read exactly where the grammar spells it
abbrev pub StatementsAreRead : Type 0
StatementsAreRead =
    (source : List ℕ) (lexemes : List Lexeme) (s : StatementTree) →
    (read_statement source lexemes ≡ Some s) ↔ SpellsStatement source s lexemes

-- lexemes are spelled by at most one statement
abbrev pub OneStatement : Type 0
OneStatement =
    (source : List ℕ) (lexemes : List Lexeme) (a b : StatementTree) →
    SpellsStatement source a lexemes → SpellsStatement source b lexemes → a ≡ b

-- the answer for a text's tokens is exactly what they mean
abbrev pub TokensAreParsed : Type 0
TokensAreParsed =
    (text : List ℕ) (tokens : List Token) (answer : Result StatementTree NoStatement)
    → (parsed text tokens ≡ answer) ↔ Means text (lexemes_of text tokens) answer

-- what lexemes spell that hold no ragged list, and of which each name is a name and each string one
-- that can be written, is well made
abbrev pub SpelledAreWellMade : Type 0
SpelledAreWellMade =
    (source : List ℕ) (lexemes : List Lexeme) (s : StatementTree)
    → SpellsStatement source s lexemes → All (HoldsText source) lexemes →
    (HoldsRagged lexemes → ⊥) → IsWellMade s
