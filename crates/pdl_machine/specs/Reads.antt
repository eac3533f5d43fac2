-- What a text reads as: the statement that its plain text is, or why it is none.
use Rattle.std.specs.Prelude.{◌≡◌, ℕ, ◌≤◌, Bool, false, List, length, Result, Ok, Err}
use Rattle.pdl_lex.specs.declared.Token.{Token}
use Rattle.pdl_lex.specs.declared.LexFault.{LexFault}
use Rattle.pdl_lex.specs.Limits.{statement_limit}
use Rattle.pdl_lex.specs.Tokens.{toks}
use Rattle.pdl_lex.specs.Written.{written}
use Rattle.pdl_nice.specs.declared.looks.Before.TheVariants.{Other as another}
use Rattle.pdl_nice.specs.Nice.{has_nice}
use Rattle.pdl_nice.specs.Plain.{NiceRefusal, too_deep, not_nice, too_long, plain_of}
use Rattle.pdl_syntax.specs.StatementTree.{StatementTree}
use Rattle.pdl_syntax.specs.Parsed.{parsed}
use Rattle.pdl_machine.specs.declared.fault.Fault.{Fault}
use Rattle.pdl_machine.specs.declared.fault.Fault.TheVariants.{Syntax, StatementTooLong, TooDeep}
use Rattle.pdl_machine.specs.Then.{and_then}
use Rattle.pdl_machine.specs.Refused.{or_named}
use Rattle.pdl_machine.specs.Parsed.{as_read}

abbrev pub reads_tokens : List ℕ → Result (List Token) LexFault → Result StatementTree Fault
reads_tokens text (Err e) = Err Syntax
reads_tokens text (Ok tokens) = as_read (parsed text tokens)

-- the statement that a plain text is, or why it is none
abbrev pub reads_plain : (text : List ℕ) → Result StatementTree Fault
reads_plain text = reads_tokens text (toks text)

-- the fault that names why a text has no plain text
abbrev pub nice_fault : NiceRefusal → Fault
nice_fault too_deep = TooDeep
nice_fault not_nice = Syntax
nice_fault too_long = StatementTooLong

-- what the plain text of a text with these tokens reads as, or why it has none
abbrev pub reads_nice : List ℕ → Result (List Token) LexFault → Result StatementTree Fault
reads_nice text (Err e) = Err Syntax
reads_nice text (Ok tokens) = and_then (or_named nice_fault (plain_of text tokens)) reads_plain

-- The statement that a text is, or why it is none. It is read twice: its own tokens are found, then
-- those of its plain text, in which each nice slice is a call.
abbrev pub reads : (text : List ℕ) → Result StatementTree Fault
reads text = reads_nice text (toks text)

-- whether a nice part stands in a text, where it has these tokens
abbrev pub holds_nice : List ℕ → Result (List Token) LexFault → Bool
holds_nice text (Err e) = false
holds_nice text (Ok tokens) = has_nice another (written text 0 tokens)

-- a text without nice parts, which is no longer than a statement, reads as it stands
abbrev pub PlainTextsStay : Type 0
PlainTextsStay = (text : List ℕ) → holds_nice text (toks text) ≡ false →
    length text ≤ statement_limit → reads text ≡ reads_plain text
