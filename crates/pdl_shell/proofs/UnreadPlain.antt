-- What a plain text is read as, by what its tokens are.
use Rattle.std.proofs.Common.{◌≡◌, ℕ, List, Result, Ok, Err, refl, sym, subst}
use Rattle.pdl_lex.specs.declared.Token.{Token}
use Rattle.pdl_lex.specs.declared.LexFault.{LexFault}
use Rattle.pdl_lex.specs.Tokens.{toks}
use Rattle.pdl_lexemes.specs.Lexing.{lexemes_of}
use Rattle.pdl_syntax.specs.declared.parser.ParseFault.{ParseFault}
use Rattle.pdl_syntax.specs.declared.parser.ParseFault.TheVariants as parsing
use Rattle.pdl_syntax.specs.Refusals.{NoStatement, too_deep, number_too_large, not_spelled, ragged_list, Means as LexemesMean, Answers as LexemesAnswer}
use Rattle.pdl_syntax.specs.StatementTree.{StatementTree}
use Rattle.pdl_machine.specs.Parsed.{as_read}
use Rattle.pdl_machine.specs.Reads.{reads_plain}
use Rattle.pdl_machine.specs.StatementMeaning.{PlainMeansAt, PlainMeansOneThing}
use Rattle.pdl_shell.specs.Unread.{IsFault, of_parsing}

-- a plain text with these tokens is read as what their lexemes mean
pub read_as : PlainMeansOneThing → (text : List ℕ) (tokens : List Token) (meant : Result StatementTree NoStatement) → toks text ≡ Ok tokens
    → LexemesMean text (lexemes_of text tokens) meant → reads_plain text ≡ as_read meant
read_as one text tokens meant found means =
    one text (as_read meant)
    (subst (λ (r : Result (List Token) LexFault). PlainMeansAt text r (as_read meant)) (sym found) (record { meant = meant; means = means; named = refl }))

-- tokens that are no statement's are refused as that names
pub not_parsed : PlainMeansOneThing → (text : List ℕ) (tokens : List Token) (fault : ParseFault) → toks text ≡ Ok tokens
    → LexemesAnswer text (lexemes_of text tokens) (Err fault) → IsFault (reads_plain text) (of_parsing fault)
not_parsed one text tokens parsing.TooDeep found means = read_as one text tokens (Err too_deep) found means
not_parsed one text tokens parsing.NumberTooLarge found means = read_as one text tokens (Err number_too_large) found means
not_parsed one text tokens parsing.Syntax found means = read_as one text tokens (Err not_spelled) found means
not_parsed one text tokens parsing.Ragged found means = read_as one text tokens (Err ragged_list) found means
not_parsed one text tokens parsing.NoMemory found means = tt
