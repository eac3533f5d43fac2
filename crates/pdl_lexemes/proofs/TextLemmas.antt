-- Names among the lexemes of a text are names, and its strings lack one of the two quotes.
use Rattle.std.proofs.Common.{◌≡◌, ℕ, zero, suc, ◌+◌, ◌-◌, ◌<◌, ◌==◌, Bool, true, false, ◌||◌, List, [], ◌∷◌, ◌++◌, length, take, drop, refl, sym, ◌∙◌, ap, ap₂, subst, arith, eqb-true, true≢false}
use Rattle.std.specs.Prelude.{Option, Some, None, Result, Ok, Err, IfOk, All}
use Rattle.std.specs.Char.{is_ascii_digit}
use Rattle.std.proofs.Math.Seq.{take-append_seam}
use Rattle.std.proofs.lemmas.List.{take-append-le}
use Rattle.std.proofs.lemmas.List.Elements.{All-nil, All-cons}
use Rattle.pdl_lemmas.specs.Options.{some_inj, none_some, choose}
use Rattle.pdl_lemmas.specs.Tests.{by_test}
use Rattle.pdl_lemmas.specs.Lists.{drop_behind}
use Rattle.pdl_elem.specs.declared.Ty.{Ty}
use Rattle.pdl_elem.specs.Types.{type_word}
use Rattle.pdl_elem.specs.declared.Ty.TheVariants.{Sbyte, Byte, Short, Ushort, Long, Ulong, Longlong}
use Rattle.pdl_lex.specs.Bytes.{is_letter, is_quote}
use Rattle.pdl_lex.specs.declared.LexFault.{LexFault}
use Rattle.pdl_lex.specs.declared.Token.{Token}
use Rattle.pdl_lex.specs.declared.TokenKind.{TokenKind}
use Rattle.pdl_lex.specs.declared.TokenKind.TheVariants.{Name as IsName', Word as IsWord, Number as IsNumber, Str as IsStr, Sign as IsSign}
use Rattle.pdl_lex.specs.Tokens.{is_closed, only_where, kind_of, after_tokens, TextsHaveOneMeaning, MeansFrom, at_end, a_blank, a_comment, a_token, no_token}
use Rattle.pdl_lexemes.specs.declared.Keyword.{Keyword as Key}
use Rattle.pdl_lexemes.specs.declared.Lexeme.{Lexeme}
use Rattle.pdl_lexemes.specs.declared.Lexeme.TheVariants.{Name, Keyword, Word, Quoted}
use Rattle.pdl_lexemes.specs.declared.Span.{Span}
use Rattle.pdl_lexemes.specs.declared.WordKind.{WordKind}
use Rattle.pdl_lexemes.specs.declared.WordKind.TheVariants.{OfType}
use Rattle.pdl_lexemes.specs.Bytes.{bytes_at}
use Rattle.pdl_lexemes.specs.Lexing.{signs, sign_of, word_of, span_of, inside_of, lexeme_of, lexemes_of}
use Rattle.pdl_lexemes.specs.Texts.{IsName, lacks, IsQuotable, HoldsText}
use Rattle.pdl_lexemes.specs.Laws.{LexemesHoldTexts, TypeWordsAreWords}
use Rattle.pdl_lexemes.proofs.LexingTables.{sign_passes}

-- a quote, and bytes behind it that end with that quote and have no other
record IsString (b : ℕ) (bs : List ℕ) : Type 0 where
  quote : is_quote b ≡ true
  closed : is_closed b bs ≡ true

only_is : (fits : Bool) (kind k : TokenKind) → only_where fits kind ≡ Some k → (fits ≡ true) × (kind ≡ k)
only_is true kind k e = (refl, some_inj e)
only_is false kind k e = absurd (none_some e)

abbrev is_string : TokenKind → Bool
is_string IsStr = true
is_string _ = false

no_string : (fits : Bool) (kind : TokenKind) → is_string kind ≡ false → only_where fits kind ≡ Some IsStr → ⊥
no_string fits kind other e = true≢false (sym (ap is_string (only_is fits kind IsStr e).1) ∙ other)

string_is : (b : ℕ) (bs : List ℕ) → kind_of (b ∷ bs) ≡ Some IsStr → IsString b bs
string_is b bs e =
    by_test (is_letter b) (λ is. absurd (no_string _ IsWord refl (rw is at e)))
    (λ letter. by_test (b == 36) (λ is. absurd (no_string _ IsName' refl (rw (letter, is) at e)))
    (λ dollar. by_test (b == 48) (λ is. absurd (no_string _ IsNumber refl (rw (letter, dollar, is) at e)))
    (λ nought. by_test (is_ascii_digit b) (λ is. absurd (no_string _ IsNumber refl (rw (letter, dollar, nought, is) at e)))
    (λ digit. by_test (is_quote b)
    (λ quote. let fits : only_where (is_closed b bs) IsStr ≡ Some IsStr = rw (letter, dollar, nought, digit, quote) at e in
    record { quote = quote; closed = (only_is (is_closed b bs) IsStr IsStr fits).0 })
    (λ other. absurd (no_string _ IsSign refl (rw (letter, dollar, nought, digit, other) at e)))))))

closed_some : (quote : ℕ) (bs : List ℕ) → is_closed quote bs ≡ true → 0 < length bs
closed_some quote [] e = absurd (true≢false (sym e))
closed_some quote (b ∷ bs) e = omega arith

closed_lacks : (quote k : ℕ) (bs : List ℕ) → length bs ≡ suc k → is_closed quote bs ≡ true → lacks quote (take k bs) ≡ true
closed_lacks quote k [] size e = absurd (true≢false (sym e))
closed_lacks quote zero (b ∷ bs) size e = refl
closed_lacks quote (suc k) (b ∷ bs) size e =
    by_test (b == quote)
    (λ is. let none : (length bs == 0) ≡ true = rw is at e in let empty : length bs ≡ 0 = eqb-true (length bs) 0 none in absurd (omega (arith, empty, size)))
    (λ other. let closed : is_closed quote bs ≡ true = rw other at e in rw other (closed_lacks quote k bs (omega (arith, size)) closed))

lacks_either : (quote : ℕ) (text : List ℕ) → is_quote quote ≡ true → lacks quote text ≡ true → IsQuotable text
lacks_either quote text is none =
    by_test (quote == 34)
    (λ double. let lacks_double : lacks 34 text ≡ true = subst (λ q. lacks q text ≡ true) (eqb-true quote 34 double) none in rw lacks_double refl)
    (λ other. let single : (quote == 39) ≡ true = rw other at is in
    let lacks_single : lacks 39 text ≡ true = subst (λ q. lacks q text ≡ true) (eqb-true quote 39 single) none in or_true (lacks 34 text) lacks_single)
  where
    or_true : (a : Bool) {b : Bool} → b ≡ true → (a || b) ≡ true
    or_true true e = refl
    or_true false e = e

-- the token of these bytes at a place
abbrev placed_at : ℕ → TokenKind → List ℕ → Token
placed_at at kind bytes = record { kind = kind; from = at; to = at + length bytes }

bytes_there : (source : List ℕ) (at : ℕ) (kind : TokenKind) (bytes rest : List ℕ) → drop at source ≡ bytes ++ rest → bytes_at source (span_of (placed_at at kind bytes)) ≡ bytes
bytes_there source at kind bytes rest e =
    let size : at + length bytes - at ≡ length bytes = omega arith in
    ap₂ (λ (n : ℕ) (text : List ℕ). take n text) size e ∙ take-append_seam bytes rest

inside_there : (source : List ℕ) (at : ℕ) (kind : TokenKind) (b : ℕ) (bs rest : List ℕ) → drop at source ≡ (b ∷ bs) ++ rest → 0 < length bs →
    bytes_at source (inside_of (placed_at at kind (b ∷ bs))) ≡ take (length bs - 1) bs
inside_there source at kind b bs rest e some =
    let size : at + suc (length bs) - 1 - (at + 1) ≡ length bs - 1 = omega (arith, some) in
    let text : drop (at + 1) source ≡ bs ++ rest = drop_behind source at (b ∷ []) (bs ++ rest) e in
    ap₂ (λ (n : ℕ) (text : List ℕ). take n text) size text ∙ take-append-le (length bs - 1) bs rest (omega arith)

-- whether a lexeme is no name and no string
abbrev is_textless : Lexeme → Bool
is_textless (Name span) = false
is_textless (Quoted span) = false
is_textless _ = true

textless : (source : List ℕ) (l : Lexeme) → is_textless l ≡ true → HoldsText source l
textless source (Name span) e = absurd (true≢false (sym e))
textless source (Quoted span) e = absurd (true≢false (sym e))
textless source _ e = tt

word_holds : (source : List ℕ) (kind : WordKind) (span : Span) (o : Option Key) → HoldsText source (choose (Word kind span) (λ k. Keyword k) o)
word_holds source kind span None = tt
word_holds source kind span (Some k) = tt

string_holds : (source : List ℕ) (at : ℕ) (bytes rest : List ℕ) → kind_of bytes ≡ Some IsStr → drop at source ≡ bytes ++ rest → IsQuotable (bytes_at source (inside_of (placed_at at IsStr bytes)))
string_holds source at [] rest is e = absurd (none_some is)
string_holds source at (b ∷ bs) rest is e =
    let string = string_is b bs is in
    let some : 0 < length bs = closed_some b bs string.closed in
    subst IsQuotable (sym (inside_there source at IsStr b bs rest e some))
    (lacks_either b (take (length bs - 1) bs) string.quote (closed_lacks b (length bs - 1) bs (omega (arith, some)) string.closed))

-- a token's lexeme holds its text
token_holds : (source : List ℕ) (at : ℕ) (kind : TokenKind) (bytes rest : List ℕ) → kind_of bytes ≡ Some kind → drop at source ≡ bytes ++ rest → HoldsText source (lexeme_of source (placed_at at kind bytes))
token_holds source at IsName' bytes rest is e = subst IsName (sym (bytes_there source at IsName' bytes rest e)) is
token_holds source at IsWord bytes rest is e = word_holds source _ (span_of (placed_at at IsWord bytes)) _
token_holds source at IsNumber bytes rest is e = tt
token_holds source at IsStr bytes rest is e = string_holds source at bytes rest is e
token_holds source at IsSign bytes rest is e =
    let text = bytes_at source (span_of (placed_at at IsSign bytes)) in
    textless source (sign_of text) (sign_passes is_textless signs text refl (λ op. refl) (λ op. refl) refl)

abbrev AllHold : List ℕ → List Token → Type 0
AllHold source ts = All (HoldsText source) (lexemes_of source ts)

with_token : (source : List ℕ) (t : Token) (answer : Result (List Token) LexFault) → HoldsText source (lexeme_of source t) → IfOk answer (AllHold source) → IfOk (after_tokens (t ∷ []) answer) (AllHold source)
with_token source t (Ok ts) holds all = All-cons (HoldsText source) (lexeme_of source t) (lexemes_of source ts) holds all
with_token source t (Err fault) holds all = tt

all_hold : (source : List ℕ) {at : ℕ} {text : List ℕ} {answer : Result (List Token) LexFault} → MeansFrom at text answer → drop at source ≡ text → IfOk answer (AllHold source)
all_hold source at_end e = All-nil (HoldsText source)
all_hold source (a_blank {at = at} {b = b} {bs = bs} blank h) e = all_hold source h (drop_behind source at (b ∷ []) bs e)
all_hold source (a_comment {at = at} {b = b} line {bs = bs} hash one_line end h) e = all_hold source h (drop_behind source at (b ∷ line) bs e)
all_hold source (a_token {at = at} {kind = kind} bytes {bs = bs} {answer = answer} is longest h) e =
    with_token source (placed_at at kind bytes) answer (token_holds source at kind bytes bs is e) (all_hold source h (drop_behind source at bytes bs e))
all_hold source (no_token blank hash none) e = tt

pub lexemes_hold : TextsHaveOneMeaning → LexemesHoldTexts
lexemes_hold means text ts e = all_hold text ((means text (Ok ts)).0 e) refl

pub type_words : TypeWordsAreWords
type_words = record { words = words_are; types = types_are }
  where
    words_are : (ty : Ty) → kind_of (type_word ty) ≡ Some IsWord
    words_are Sbyte = refl
    words_are Byte = refl
    words_are Short = refl
    words_are Ushort = refl
    words_are Long = refl
    words_are Ulong = refl
    words_are Longlong = refl

    types_are : (ty : Ty) (span : Span) → word_of (type_word ty) span ≡ Word (OfType ty) span
    types_are Sbyte span = refl
    types_are Byte span = refl
    types_are Short span = refl
    types_are Ushort span = refl
    types_are Long span = refl
    types_are Ulong span = refl
    types_are Longlong span = refl
