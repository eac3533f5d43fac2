-- The answers of the parser, from its steps, and what they mean.
use Rattle.std.proofs.Common.{◌≡◌, ℕ, suc, ◌+◌, List, [], ◌∷◌, length, true, false, Option, Some, None, Result, Ok, Err, IfOk, refl, ap, sym, ◌∙◌, subst, true≢false, add-one}
use Rattle.pdl_lemmas.specs.Tests.{by_test}
use Rattle.pdl_lex.specs.declared.Token.{Token}
use Rattle.pdl_lexemes.specs.declared.Lexeme.{Lexeme}
use Rattle.pdl_lex.specs.Tokens.{toks}
use Rattle.pdl_lexemes.specs.Laws.{ListsAreRead, ListsAreArrays, RaggedIsScanned, LexemesHoldTexts}
use Rattle.pdl_lexemes.specs.Lexing.{lexemes_of}
use Rattle.pdl_lexemes.specs.Lists.{HoldsRagged}
use Rattle.pdl_lexemes.specs.Depth.{is_too_deep, has_large}
use Rattle.pdl_syntax.specs.declared.parser.ParseFault.{ParseFault}
use Rattle.pdl_syntax.specs.declared.parser.ParseFault.TheVariants.{TooDeep, NumberTooLarge, Syntax, Ragged, NoMemory}
use Rattle.pdl_syntax.specs.declared.tree.Statement.{Statement}
use Rattle.pdl_syntax.specs.Laws.{TokensAreParsed, SpelledAreWellMade}
use Rattle.pdl_syntax.specs.Parsed.{unless_ragged, checked_lexemes, parsed, IsParsed}
use Rattle.pdl_syntax.specs.ExpressionReading.{reader}
use Rattle.pdl_syntax.specs.Refusals.{NoStatement, too_deep, number_too_large, not_spelled, ragged_list, Means, Answers}
use Rattle.pdl_syntax.specs.StatementTree.{StatementTree, statement_of}
use Rattle.pdl_syntax.specs.StatementReading.{statement_at, read_statement}
use Rattle.pdl_syntax.specs.WellMade.{IsWellMade}
use Rattle.pdl_syntax.specs.Statements.{SpellsStatement}
use Rattle.pdl_syntax.specs.Ragged.{in_statement}
use Rattle.pdl_syntax.proofs.RaggedStatements.{statement_scanned}
use Rattle.pdl_syntax.proofs.StatementComplete.{statement_found, statement_spelled}

-- behind the checks of depth and of numbers, what is read decides
after_checks : (source : List ℕ) (ts : List Lexeme) (o : Option StatementTree) → is_too_deep ts ≡ false → has_large ts ≡ false →
    statement_at source (reader source (length ts + 1)) ts ≡ o → checked_lexemes source ts ≡ unless_ragged o
after_checks source ts o d l e =
    let read : read_statement source ts ≡ o = rw add-one at e in
    rw (d, l, read) refl

pub unread : (source : List ℕ) (ts : List Lexeme) → is_too_deep ts ≡ false → has_large ts ≡ false →
    statement_at source (reader source (length ts + 1)) ts ≡ None → IsParsed (checked_lexemes source ts) (Err Syntax)
unread source ts d l e = after_checks source ts None d l e

pub read_as : (source : List ℕ) (ts : List Lexeme) (s : Statement) (r : Result Statement ParseFault) → is_too_deep ts ≡ false → has_large ts ≡ false →
    statement_at source (reader source (length ts + 1)) ts ≡ Some (statement_of s) → IsParsed (unless_ragged (Some (statement_of s))) r → IsParsed (checked_lexemes source ts) r
read_as source ts s r d l e h = subst (λ x. IsParsed x r) (sym (after_checks source ts (Some (statement_of s)) d l e)) h

-- by what holds of lists: lexemes hold a ragged one exactly where the statement that they spell has one
module _ (lists : ListsAreRead) (arrays : ListsAreArrays) (scan : RaggedIsScanned) where
  is_held : (source : List ℕ) (ts : List Lexeme) (s : StatementTree) → SpellsStatement source s ts → in_statement s ≡ true → HoldsRagged ts
  is_held source ts s h e = (scan.held ts).0 (statement_scanned scan arrays h ∙ e)

  is_found : (source : List ℕ) (ts : List Lexeme) (s : StatementTree) → SpellsStatement source s ts → HoldsRagged ts → in_statement s ≡ true
  is_found source ts s h r = sym (statement_scanned scan arrays h) ∙ (scan.held ts).1 r

  not_ragged : (source : List ℕ) (ts : List Lexeme) (s : StatementTree) → SpellsStatement source s ts → (HoldsRagged ts → ⊥) → in_statement s ≡ false
  not_ragged source ts s h none = by_test (in_statement s) (λ e. absurd (none (is_held source ts s h e))) (λ e. e)

  unread_none : (source : List ℕ) (ts : List Lexeme) → ((s : StatementTree) → read_statement source ts ≡ Some s → ⊥) → (o : Option StatementTree) → read_statement source ts ≡ o → o ≡ None
  unread_none source ts h None e = refl
  unread_none source ts h (Some s) e = absurd (h s e)

  -- what is meant is what the checks say
  checked_as : (source : List ℕ) (ts : List Lexeme) (answer : Result StatementTree NoStatement) → Means source ts answer → checked_lexemes source ts ≡ answer
  checked_as source ts (Ok s) f =
      let d : is_too_deep ts ≡ false = f.passes.not_deep in
      let l : has_large ts ≡ false = f.passes.not_large in
      let r : read_statement source ts ≡ Some s = statement_found lists source ts s f.spells in
      let g : in_statement s ≡ false = not_ragged source ts s f.spells f.not_ragged in
      rw (d, l, r, g) refl
  checked_as source ts (Err too_deep) f = rw f refl
  checked_as source ts (Err number_too_large) f =
      let d : is_too_deep ts ≡ false = f.not_deep in
      let l : has_large ts ≡ true = f.large in
      rw (d, l) refl
  checked_as source ts (Err not_spelled) f =
      let d : is_too_deep ts ≡ false = f.passes.not_deep in
      let l : has_large ts ≡ false = f.passes.not_large in
      let r : read_statement source ts ≡ None = unread_none source ts (λ s h. f.unspelled s (statement_spelled lists source ts s h)) (read_statement source ts) refl in
      rw (d, l, r) refl
  checked_as source ts (Err ragged_list) f =
      let d : is_too_deep ts ≡ false = f.passes.not_deep in
      let l : has_large ts ≡ false = f.passes.not_large in
      let r : read_statement source ts ≡ Some f.statement = statement_found lists source ts f.statement f.spells in
      let g : in_statement f.statement ≡ true = is_found source ts f.statement f.spells f.ragged in
      rw (d, l, r, g) refl

  ragged_or_found : (source : List ℕ) (ts : List Lexeme) (o : Option StatementTree) → is_too_deep ts ≡ false → has_large ts ≡ false → read_statement source ts ≡ o → Means source ts (unless_ragged o)
  ragged_or_found source ts None d l e = record {
    passes = record { not_deep = d; not_large = l };
    unspelled = λ s h. never (sym e ∙ statement_found lists source ts s h);
  }
    where
      never : {s : StatementTree} → None ≡ Some s → ⊥
      never e = cc
  ragged_or_found source ts (Some s) d l e =
      let spelled : SpellsStatement source s ts = statement_spelled lists source ts s e in
      by_test (in_statement s)
      (λ g. rw g (record {
        passes = record { not_deep = d; not_large = l };
        statement = s;
        spells = spelled;
        ragged = is_held source ts s spelled g;
      }))
      (λ g. rw g (record {
        passes = record { not_deep = d; not_large = l };
        spells = spelled;
        not_ragged = λ h. true≢false (sym (is_found source ts s spelled h) ∙ g);
      }))

  -- what the checks say is meant
  checked_means : (source : List ℕ) (ts : List Lexeme) → Means source ts (checked_lexemes source ts)
  checked_means source ts =
      by_test (is_too_deep ts) (λ d. rw d d) (λ d.
      by_test (has_large ts) (λ l. rw (d, l) (record { not_deep = d; large = l })) (λ l.
      rw (d, l) (ragged_or_found source ts (read_statement source ts) d l refl)))

  pub parsed_means : TokensAreParsed
  unfolding parsed
  parsed_means text tokens answer =
      let ls = lexemes_of text tokens in
      (λ e. subst (Means text ls) e (checked_means text ls), λ h. checked_as text ls answer h)

-- the answer of the parser means what it says
module _ (law : TokensAreParsed) (text : List ℕ) (tokens : List Token) where
  pub answers_of : (r : Result Statement ParseFault) → IsParsed (checked_lexemes text (lexemes_of text tokens)) r → Answers text (lexemes_of text tokens) r
  unfolding parsed
  answers_of (Ok s) e = (law text tokens (Ok (statement_of s))).0 e
  answers_of (Err TooDeep) e = (law text tokens (Err too_deep)).0 e
  answers_of (Err NumberTooLarge) e = (law text tokens (Err number_too_large)).0 e
  answers_of (Err Syntax) e = (law text tokens (Err not_spelled)).0 e
  answers_of (Err Ragged) e = (law text tokens (Err ragged_list)).0 e
  answers_of (Err NoMemory) e = tt

  pub well_made_of : SpelledAreWellMade → LexemesHoldTexts → toks text ≡ Ok tokens → (r : Result Statement ParseFault) → Answers text (lexemes_of text tokens) r → IfOk r (λ s. IsWellMade (statement_of s))
  well_made_of made hold lexed (Ok s) a = made text (lexemes_of text tokens) (statement_of s) a.spells (hold text tokens lexed) a.not_ragged
  well_made_of made hold lexed (Err fault) a = tt

pub lexemes_length : (source : List ℕ) (tokens : List Token) → length (lexemes_of source tokens) ≡ length tokens
lexemes_length source [] = refl
lexemes_length source (t ∷ tokens) = ap suc (lexemes_length source tokens)
