-- The lexemes of a text open and close the brackets that its tokens do.
use Rattle.std.proofs.Common.{◌≡◌, ℕ, suc, pred, ◌+◌, Bool, true, false, List, [], ◌∷◌, refl, sym, ◌∙◌, ap, ap₂, arith, if◌then◌else◌, true≢false}
use Rattle.std.specs.Prelude.{nat_lt, nat_eq, Option, Some, None, codes, bytes_eq}
use Rattle.pdl_lemmas.specs.Tests.{by_test}
use Rattle.pdl_lex.specs.declared.Token.{Token}
use Rattle.pdl_lex.specs.declared.TokenKind.{TokenKind}
use Rattle.pdl_lex.specs.declared.TokenKind.TheVariants.{Name as IsName, Word as IsWord, Number as IsNumber, Str as IsStr, Sign as IsSign}
use Rattle.pdl_lex.specs.Written.{written}
use Rattle.pdl_lex.specs.Brackets.{Brackets, behind_sign, behind_kind, behind_token, no_brackets, go_deep}
use Rattle.pdl_lexemes.specs.declared.checks.Counts.{Counts}
use Rattle.pdl_lexemes.specs.declared.Keyword.{Keyword as Key}
use Rattle.pdl_lexemes.specs.declared.WordKind.{WordKind}
use Rattle.pdl_lexemes.specs.declared.Span.{Span}
use Rattle.pdl_lexemes.specs.declared.Lexeme.{Lexeme}
use Rattle.pdl_lexemes.specs.declared.Lexeme.TheVariants.{Keyword, Word, Open, Close, OpenSquare, CloseSquare, Arrow, Assign, Operator, Prefix, Unknown}
use Rattle.pdl_lexemes.specs.Bytes.{bytes_at}
use Rattle.pdl_elem.specs.Tables.{found_in}
use Rattle.pdl_lexemes.specs.Lexing.{signs, operators, assignments, sign_of, span_of, of_kind, lexeme_of, lexemes_of}
use Rattle.pdl_lexemes.specs.Depth.{with_operator, counted_to, is_beyond, goes_beyond, no_counts}
use Rattle.pdl_lexemes.specs.Laws.{BracketsAreCounted}
use Rattle.pdl_lemmas.specs.Options.{choose}
use Rattle.pdl_lexemes.proofs.LexingTables.{sign_passes}

-- the same brackets are open
record Same (c : Counts) (now : Brackets) : Type 0 where
  round : c.round ≡ now.round
  square : c.square ≡ now.square

-- whether a lexeme is no bracket
abbrev is_other : Lexeme → Bool
is_other Open = false
is_other Close = false
is_other OpenSquare = false
is_other CloseSquare = false
is_other _ = true

operator_same : (c : Counts) (now : Brackets) → Same c now → Same (with_operator c) now
operator_same c now s =
    by_test (nat_eq c.square 0)
    (λ outside. rw outside (record { round = s.round; square = s.square }))
    (λ inside. rw inside s)

-- a lexeme that is no bracket changes nothing
other_same : (c : Counts) (now : Brackets) (l : Lexeme) → is_other l ≡ true → Same c now → Same (counted_to c l) now
other_same c now Open e s = absurd (true≢false (sym e))
other_same c now Close e s = absurd (true≢false (sym e))
other_same c now OpenSquare e s = absurd (true≢false (sym e))
other_same c now CloseSquare e s = absurd (true≢false (sym e))
other_same c now Arrow e s = operator_same c now s
other_same c now (Operator op) e s = operator_same c now s
other_same c now (Prefix op) e s = operator_same c now s
other_same c now _ e s = s

word_same : (c : Counts) (now : Brackets) (kind : WordKind) (span : Span) (o : Option Key) → Same c now →
    Same (counted_to c (choose (Word kind span) (λ k. Keyword k) o)) now
word_same c now kind span None s = s
word_same c now kind span (Some k) s = s

-- the signs but the four brackets
without_four : List (List ℕ × Lexeme) → List (List ℕ × Lexeme)
without_four (a ∷ b ∷ c ∷ d ∷ rest) = rest
without_four _ = []

sign_same : (c : Counts) (now : Brackets) (text : List ℕ) → Same c now → Same (counted_to c (sign_of text)) (behind_sign now text)
unfolding without_four
sign_same c now text s =
    by_test (bytes_eq text (codes "("))
    (λ is. rw is (record { round = suc_same s.round; square = s.square }))
    (λ no1. by_test (bytes_eq text (codes ")"))
    (λ is. rw (no1, is) (record { round = ap pred s.round; square = s.square }))
    (λ no2. by_test (bytes_eq text (codes "["))
    (λ is. rw (no1, no2, is) (record { round = s.round; square = suc_same s.square }))
    (λ no3. by_test (bytes_eq text (codes "]"))
    (λ is. rw (no1, no2, no3, is) (record { round = s.round; square = ap pred s.square }))
    (λ no4. rw (no1, no2, no3, no4)
    (other_same c now
    (choose (choose (choose Unknown (λ op. Assign op) (found_in assignments text)) (λ op. Operator op) (found_in operators text)) (λ s. s)
    (found_in (without_four signs) text))
    (sign_passes is_other (without_four signs) text refl (λ op. refl) (λ op. refl) refl) s)))))
  where
    suc_same : {m n : ℕ} → m ≡ n → m + 1 ≡ suc n
    suc_same e = omega (arith, e)

kind_same : (c : Counts) (now : Brackets) (source : List ℕ) (t : Token) (kind : TokenKind) → Same c now →
    Same (counted_to c (of_kind source t kind)) (behind_kind now kind (bytes_at source (span_of t)))
kind_same c now source t IsName s = s
kind_same c now source t IsWord s = word_same c now _ (span_of t) _ s
kind_same c now source t IsNumber s = s
kind_same c now source t IsStr s = s
kind_same c now source t IsSign s = sign_same c now (bytes_at source (span_of t)) s

beyond_then : (c : Counts) (ts : List Lexeme) → goes_beyond c ts ≡ true → (if is_beyond c then true else goes_beyond c ts) ≡ true
beyond_then c ts e = by_test (is_beyond c) (λ is. rw is refl) (λ not_yet. rw not_yet e)

deep : (source : List ℕ) (at : ℕ) (ts : List Token) (c : Counts) (now : Brackets) → Same c now → go_deep now (written source at ts) ≡ true →
    goes_beyond c (lexemes_of source ts) ≡ true
unfolding go_deep behind_token
deep source at [] c now s e = absurd (true≢false (sym e))
deep source at (t ∷ ts) c now s e =
    let then' = behind_kind now t.kind (bytes_at source (span_of t)) in
    let s' = kind_same c now source t t.kind s in
    let sum : (counted_to c (lexeme_of source t)).round + (counted_to c (lexeme_of source t)).square ≡ then'.round + then'.square = ap₂ (λ m n. m + n) s'.round s'.square in
    by_test (nat_lt 64 (then'.round + then'.square))
    (λ many. let is : nat_lt 64 ((counted_to c (lexeme_of source t)).round + (counted_to c (lexeme_of source t)).square) ≡ true = ap (nat_lt 64) sum ∙ many in rw is refl)
    (λ few. beyond_then (counted_to c (lexeme_of source t)) (lexemes_of source ts) (deep source t.to ts (counted_to c (lexeme_of source t)) then' s' (rw few at e)))

pub brackets_are_counted : BracketsAreCounted
brackets_are_counted text ts e = deep text 0 ts no_counts no_brackets (record { round = refl; square = refl }) e
