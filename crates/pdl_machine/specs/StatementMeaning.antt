-- What a text means as a statement, by what its nice slices become and by the grammar.
use Rattle.std.specs.Prelude.{◌≡◌, ℕ, List, Result, Ok, Err}
use Rattle.pdl_lex.specs.declared.Token.{Token}
use Rattle.pdl_lex.specs.declared.LexFault.{LexFault}
use Rattle.pdl_lex.specs.Tokens.{toks}
use Rattle.pdl_lex.specs.Written.{written, end_behind}
use Rattle.pdl_nice.specs.Plain.{NiceRefusal, Means as TokensMean}
use Rattle.pdl_lexemes.specs.declared.Lexeme.{Lexeme}
use Rattle.pdl_lexemes.specs.Lexing.{lexemes_of}
use Rattle.pdl_syntax.specs.StatementTree.{StatementTree}
use Rattle.pdl_syntax.specs.Refusals.{NoStatement, Means as LexemesMean}
use Rattle.pdl_machine.specs.declared.fault.Fault.{Fault}
use Rattle.pdl_machine.specs.declared.fault.Fault.TheVariants.{Syntax}
use Rattle.pdl_machine.specs.Parsed.{as_read}
use Rattle.pdl_machine.specs.Reads.{nice_fault, reads_plain, reads}

-- the answer is what the lexemes of a text mean: the statement that they spell, or the fault of the
-- first check that they fail
pub record AnswersLexemes (text : List ℕ) (lexemes : List Lexeme)
    (answer : Result StatementTree Fault) : Type 0 where
  pub meant : Result StatementTree NoStatement
  pub means : LexemesMean text lexemes meant
  pub named : answer ≡ as_read meant

abbrev pub PlainMeansAt : List ℕ → Result (List Token) LexFault → Result StatementTree Fault →
    Type 0
PlainMeansAt text (Err e) answer = answer ≡ Err Syntax
PlainMeansAt text (Ok tokens) answer = AnswersLexemes text (lexemes_of text tokens) answer

-- a plain text without tokens is a syntax error; else it is what their lexemes mean
abbrev pub PlainMeans : (text : List ℕ) → Result StatementTree Fault → Type 0
PlainMeans text answer = PlainMeansAt text (toks text) answer

-- the answer is what a plain text means, or the fault that names why there is none
abbrev pub AnswersPlain : Result (List ℕ) NiceRefusal → Result StatementTree Fault → Type 0
AnswersPlain (Err e) answer = answer ≡ Err (nice_fault e)
AnswersPlain (Ok plain) answer = PlainMeans plain answer

-- the answer is what the plain text of a text with these tokens means, or the first
-- refusal of one
pub record AnswersTokens (text : List ℕ) (tokens : List Token)
    (answer : Result StatementTree Fault) : Type 0 where
  pub plain : Result (List ℕ) NiceRefusal
  pub becomes : TokensMean (written text 0 tokens) (end_behind text 0 tokens) plain
  pub answers : AnswersPlain plain answer

abbrev pub MeansAt : List ℕ → Result (List Token) LexFault → Result StatementTree Fault → Type 0
MeansAt text (Err e) answer = answer ≡ Err Syntax
MeansAt text (Ok tokens) answer = AnswersTokens text tokens answer

-- a text without tokens is a syntax error; else it is what its plain text means
abbrev pub Means : (text : List ℕ) → Result StatementTree Fault → Type 0
Means text answer = MeansAt text (toks text) answer

-- what is read of a text is what it means
abbrev pub ReadsItsMeaning : Type 0
ReadsItsMeaning = (text : List ℕ) → Means text (reads text)

-- and it means nothing else
abbrev pub MeansOneThing : Type 0
MeansOneThing = (text : List ℕ) (answer : Result StatementTree Fault) →
    Means text answer → reads text ≡ answer

-- what is read of a plain text is all that it means by the grammar
abbrev pub PlainMeansOneThing : Type 0
PlainMeansOneThing = (text : List ℕ) (answer : Result StatementTree Fault) →
    PlainMeans text answer → reads_plain text ≡ answer
