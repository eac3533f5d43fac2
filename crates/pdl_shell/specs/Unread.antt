-- Which text a text is read for, and why it is no statement.
use Rattle.std.specs.Prelude.{◌≡◌, ◌≤◌, ℕ, List, length, Result, Ok, Err}
use Rattle.pdl_lex.specs.declared.LexFault.{LexFault}
use Rattle.pdl_lex.specs.declared.LexFault.TheVariants as lexing
use Rattle.pdl_lex.specs.declared.Token.{Token}
use Rattle.pdl_lex.specs.Limits.{statement_limit}
use Rattle.pdl_lex.specs.Tokens.{toks}
use Rattle.pdl_nice.specs.declared.NiceFault.{NiceFault}
use Rattle.pdl_nice.specs.declared.NiceFault.TheVariants as nice
use Rattle.pdl_syntax.specs.declared.parser.ParseFault.{ParseFault}
use Rattle.pdl_syntax.specs.declared.parser.ParseFault.TheVariants as parsing
use Rattle.pdl_machine.specs.declared.fault.Fault.{Fault}
use Rattle.pdl_machine.specs.declared.fault.Fault.TheVariants.{Syntax, StatementTooLong, TooDeep, NumberTooLarge, Ragged}
use Rattle.pdl_machine.specs.Reads.{reads, reads_plain}
use Rattle.pdl_session.specs.declared.fault.StepFault.{StepFault}
use Rattle.pdl_session.specs.declared.fault.StepFault.TheVariants.{Script, Watcher, NoMemory}

-- a text reads as this plain one, which has these tokens and is no longer than a statement
pub record AreOfPlain (text plain : List ℕ) (tokens : List Token) : Type 0 where
  pub same : reads text ≡ reads_plain plain
  pub within : length plain ≤ statement_limit
  pub are : toks plain ≡ Ok tokens

-- a text without tokens is a syntax error
abbrev pub of_lexing : LexFault → StepFault
of_lexing (lexing.BadByte at) = Script Syntax
of_lexing (lexing.OpenString at) = Script Syntax
of_lexing lexing.NoMemory = NoMemory

-- a text without a plain text, by why it has none
abbrev pub of_nice : NiceFault → StepFault
of_nice nice.TooDeep = Script TooDeep
of_nice nice.Syntax = Script Syntax
of_nice nice.TooLong = Script StatementTooLong
of_nice nice.NoMemory = NoMemory

abbrev pub of_parsing : ParseFault → StepFault
of_parsing parsing.TooDeep = Script TooDeep
of_parsing parsing.NumberTooLarge = Script NumberTooLarge
of_parsing parsing.Syntax = Script Syntax
of_parsing parsing.Ragged = Script Ragged
of_parsing parsing.NoMemory = NoMemory

-- a fault of the script is the one that is wanted, `NoMemory` says nothing, and no watcher is
-- asked
abbrev pub IsFault : {U : Type 0} → Result U Fault → StepFault → Type 0
IsFault wanted (Script e) = wanted ≡ Err e
IsFault wanted Watcher = ⊥
IsFault wanted NoMemory = Unit {0}
