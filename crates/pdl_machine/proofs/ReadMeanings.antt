-- What is read of a text is what it means by its nice slices and by the grammar.
use Rattle.std.proofs.Common.{◌≡◌, ℕ, ◌≤◌, Bool, true, false, List, length, Result, Ok, Err, refl, sym, ap, ◌∙◌}
use Rattle.pdl_lex.specs.declared.Token.{Token}
use Rattle.pdl_lex.specs.declared.LexFault.{LexFault}
use Rattle.pdl_lex.specs.Brackets.{no_brackets, go_deep}
use Rattle.pdl_lex.specs.Limits.{statement_limit}
use Rattle.pdl_lex.specs.Tokens.{toks}
use Rattle.pdl_lex.specs.Written.{written, end_behind}
use Rattle.pdl_lexemes.specs.Laws.{BracketsAreCounted}
use Rattle.pdl_nice.specs.Laws.{TextsHavePlain, TextsStay}
use Rattle.pdl_nice.specs.Plain.{NiceRefusal, too_deep, plain_of}
use Rattle.pdl_syntax.specs.StatementTree.{StatementTree}
use Rattle.pdl_syntax.specs.Parsed.{parsed}
use Rattle.pdl_syntax.specs.Refusals.{too_deep as lexemes_too_deep}
use Rattle.pdl_syntax.specs.Laws.{TokensAreParsed}
use Rattle.pdl_machine.specs.declared.fault.Fault.{Fault}
use Rattle.pdl_machine.specs.Parsed.{as_read}
use Rattle.pdl_machine.specs.Refused.{or_named}
use Rattle.pdl_machine.specs.Then.{and_then}
use Rattle.pdl_machine.specs.StatementMeaning.{PlainMeansAt, PlainMeans, AnswersPlain, MeansAt, Means}
use Rattle.pdl_machine.specs.Reads.{reads_tokens, reads_plain, nice_fault, reads_nice, reads, holds_nice}

tokens_mean : (grammar : TokensAreParsed) (text : List ℕ) (tokens : Result (List Token) LexFault) → PlainMeansAt text tokens (reads_tokens text tokens)
tokens_mean grammar text (Err e) = refl
tokens_mean grammar text (Ok tokens) =
    record { meant = parsed text tokens; means = (grammar text tokens (parsed text tokens)).0 refl; named = refl }

-- what is read of a plain text is what it means
plain_means : (grammar : TokensAreParsed) (text : List ℕ) → PlainMeans text (reads_plain text)
plain_means grammar text = tokens_mean grammar text (toks text)

tokens_one : (grammar : TokensAreParsed) (text : List ℕ) (tokens : Result (List Token) LexFault) (answer : Result StatementTree Fault)
    → PlainMeansAt text tokens answer → reads_tokens text tokens ≡ answer
tokens_one grammar text (Err e) answer means = sym means
tokens_one grammar text (Ok tokens) answer means = ap as_read ((grammar text tokens means.meant).1 means.means) ∙ sym means.named

-- a plain text means one thing alone
pub plain_means_one : (grammar : TokensAreParsed) (text : List ℕ) (answer : Result StatementTree Fault) → PlainMeans text answer → reads_plain text ≡ answer
plain_means_one grammar text answer means = tokens_one grammar text (toks text) answer means

-- what is read of a plain text, if there is one
abbrev reads_of : Result (List ℕ) NiceRefusal → Result StatementTree Fault
reads_of plain = and_then (or_named nice_fault plain) reads_plain

of_plain : (grammar : TokensAreParsed) (plain : Result (List ℕ) NiceRefusal) → AnswersPlain plain (reads_of plain)
of_plain grammar (Err e) = refl
of_plain grammar (Ok text) = plain_means grammar text

of_plain_one : (grammar : TokensAreParsed) (plain : Result (List ℕ) NiceRefusal) (answer : Result StatementTree Fault)
    → AnswersPlain plain answer → reads_of plain ≡ answer
of_plain_one grammar (Err e) answer means = sym means
of_plain_one grammar (Ok text) answer means = plain_means_one grammar text answer means

nice_means : (grammar : TokensAreParsed) (nice : TextsHavePlain) (text : List ℕ) (tokens : Result (List Token) LexFault)
    → MeansAt text tokens (reads_nice text tokens)
nice_means grammar nice text (Err e) = refl
nice_means grammar nice text (Ok tokens) =
    let plain = plain_of text tokens in
    record {
      plain = plain;
      becomes = (nice (written text 0 tokens) (end_behind text 0 tokens) plain).0 refl;
      answers = of_plain grammar plain;
    }

-- what is read of a text is what it means
pub reads_means : (grammar : TokensAreParsed) (nice : TextsHavePlain) (text : List ℕ) → Means text (reads text)
reads_means grammar nice text = nice_means grammar nice text (toks text)

nice_one : (grammar : TokensAreParsed) (nice : TextsHavePlain) (text : List ℕ) (tokens : Result (List Token) LexFault) (answer : Result StatementTree Fault)
    → MeansAt text tokens answer → reads_nice text tokens ≡ answer
nice_one grammar nice text (Err e) answer means = sym means
nice_one grammar nice text (Ok tokens) answer means =
    ap reads_of ((nice (written text 0 tokens) (end_behind text 0 tokens) means.plain).1 means.becomes) ∙ of_plain_one grammar means.plain answer means.answers

-- a text means one thing alone
pub means_one : (grammar : TokensAreParsed) (nice : TextsHavePlain) (text : List ℕ) (answer : Result StatementTree Fault) → Means text answer → reads text ≡ answer
means_one grammar nice text answer means = nice_one grammar nice text (toks text) answer means

-- a text that goes too deep reads so in both ways; any other is its own plain text
stays_at : (grammar : TokensAreParsed) (nice : TextsHavePlain) (stay : TextsStay) (counted : BracketsAreCounted)
    (text : List ℕ) (found : Result (List Token) LexFault) → toks text ≡ found → holds_nice text found ≡ false → length text ≤ statement_limit
    → reads_nice text found ≡ reads_tokens text found
stays_at grammar nice stay counted text (Err e) is none within = refl
stays_at grammar nice stay counted text (Ok tokens) is none within = by_depth (go_deep no_brackets (written text 0 tokens)) refl
  where
    by_depth : (b : Bool) → go_deep no_brackets (written text 0 tokens) ≡ b → reads_nice text (Ok tokens) ≡ reads_tokens text (Ok tokens)
    by_depth true deep =
        ap reads_of ((nice (written text 0 tokens) (end_behind text 0 tokens) (Err too_deep)).1 deep)
        ∙ sym (ap as_read ((grammar text tokens (Err lexemes_too_deep)).1 (counted text tokens deep)))
    by_depth false flat = ap reads_of (stay text tokens is none flat within) ∙ ap (reads_tokens text) is

-- a text without nice parts reads as it stands
pub plain_texts_stay : (grammar : TokensAreParsed) (nice : TextsHavePlain) (stay : TextsStay) (counted : BracketsAreCounted)
    (text : List ℕ) → holds_nice text (toks text) ≡ false → length text ≤ statement_limit → reads text ≡ reads_plain text
plain_texts_stay grammar nice stay counted text none within = stays_at grammar nice stay counted text (toks text) refl none within
