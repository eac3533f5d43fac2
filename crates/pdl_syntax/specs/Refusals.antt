-- Which statement the tokens of a text spell, or which check refuses them first.
use Rattle.std.specs.Prelude.{◌≡◌, List, ℕ, true, false, Option, Some, None, IfSome, Result, Ok, Err}
use Rattle.pdl_lexemes.specs.declared.Lexeme.{Lexeme}
use Rattle.pdl_lexemes.specs.Depth.{is_too_deep, has_large}
use Rattle.pdl_lexemes.specs.Lists.{HoldsRagged}
use Rattle.pdl_syntax.specs.declared.parser.ParseFault.{ParseFault}
use Rattle.pdl_syntax.specs.declared.parser.ParseFault.TheVariants.{TooDeep, NumberTooLarge, Syntax, Ragged, NoMemory}
use Rattle.pdl_syntax.specs.declared.tree.Statement.{Statement}
use Rattle.pdl_syntax.specs.StatementTree.{StatementTree, statement_of}
use Rattle.pdl_syntax.specs.Statements.{SpellsStatement}

-- no check on the tokens alone refuses them
pub record Passes (lexemes : List Lexeme) : Type 0 where
  pub not_deep : is_too_deep lexemes ≡ false
  pub not_large : has_large lexemes ≡ false

-- the statement that they spell
pub record Found (source : List ℕ) (lexemes : List Lexeme) (s : StatementTree) : Type 0 where
  pub passes : Passes lexemes
  pub spells : SpellsStatement source s lexemes
  pub not_ragged : HoldsRagged lexemes → ⊥

-- a number is above 9223372036854775807, and nothing is too deep
pub record Large (lexemes : List Lexeme) : Type 0 where
  pub not_deep : is_too_deep lexemes ≡ false
  pub large : has_large lexemes ≡ true

-- no statement spells them
pub record Unspelled (source : List ℕ) (lexemes : List Lexeme) : Type 0 where
  pub passes : Passes lexemes
  pub unspelled : (s : StatementTree) → SpellsStatement source s lexemes → ⊥

-- a statement spells them, with a ragged list
pub record IsRagged (source : List ℕ) (lexemes : List Lexeme) : Type 0 where
  pub passes : Passes lexemes
  pub statement : StatementTree
  pub spells : SpellsStatement source statement lexemes
  pub ragged : HoldsRagged lexemes

-- why lexemes are no statement, in the order of the checks; `NoMemory` is none of the reasons
pub data NoStatement : Type 0 where
  too_deep : NoStatement
  number_too_large : NoStatement
  not_spelled : NoStatement
  ragged_list : NoStatement

-- the reason that a fault names
abbrev pub refusal_of : ParseFault → Option NoStatement
refusal_of TooDeep = Some too_deep
refusal_of NumberTooLarge = Some number_too_large
refusal_of Syntax = Some not_spelled
refusal_of Ragged = Some ragged_list
refusal_of NoMemory = None

-- what the lexemes of a text mean: the statement that they spell, or the first check that they fail
abbrev pub Means : List ℕ → List Lexeme → Result StatementTree NoStatement → Type 0
Means source lexemes (Ok s) = Found source lexemes s
Means source lexemes (Err too_deep) = is_too_deep lexemes ≡ true
Means source lexemes (Err number_too_large) = Large lexemes
Means source lexemes (Err not_spelled) = Unspelled source lexemes
Means source lexemes (Err ragged_list) = IsRagged source lexemes

-- the answer is what they mean; `NoMemory` says nothing
abbrev pub Answers : List ℕ → List Lexeme → Result Statement ParseFault → Type 0
Answers source lexemes (Ok s) = Means source lexemes (Ok (statement_of s))
Answers source lexemes (Err fault) =
    IfSome (refusal_of fault) (λ refusal. Means source lexemes (Err refusal))
