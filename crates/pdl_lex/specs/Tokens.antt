-- The tokens of a statement's text: at each place the longest one, with blanks and
-- comments between them.
use Rattle.std.specs.Prelude.{◌≡◌, ◌↔◌, ℕ, zero, suc, pred, ◌+◌, ◌<◌, ◌≤◌, ◌==◌, nat_lt, Bool, true, false, not, ◌&&◌, if◌then◌else◌, List, [], ◌∷◌, ◌++◌, length, take, Option, Some, None, Result, Ok, Err, codes, bytes_eq}
use Rattle.std.specs.List.{list_any, list_all, prefix_len}
use Rattle.std.specs.Char.{is_ascii_digit}
use Rattle.pdl_lex.specs.Bytes.{is_blank, is_hash, is_newline, is_quote, is_letter, is_word_byte}
use Rattle.pdl_lex.specs.declared.TokenKind.{TokenKind}
use Rattle.pdl_lex.specs.declared.TokenKind.TheVariants.{Name, Word, Number, Str, Sign}
use Rattle.pdl_lex.specs.declared.Token.{Token}
use Rattle.pdl_lex.specs.declared.LexFault.{LexFault}
use Rattle.pdl_lex.specs.declared.LexFault.TheVariants.{BadByte, OpenString}

-- the signs of two bytes
abbrev pub pairs : List (List ℕ)
pairs = codes "->" ∷ codes "=>" ∷ codes ".=" ∷ codes "+=" ∷ codes "-=" ∷ codes "*=" ∷ codes "/="
    ∷ codes "%=" ∷ codes ">=" ∷ codes "<=" ∷ codes "==" ∷ codes "!=" ∷ codes "&=" ∷ codes "|="
    ∷ codes "^=" ∷ codes "<<" ∷ codes ">>" ∷ []

-- the signs of three bytes
abbrev pub triples : List (List ℕ)
triples = codes "<<=" ∷ codes ">>=" ∷ []

-- whether the whole text is one sign
abbrev pub is_sign : List ℕ → Bool
is_sign [] = false
is_sign (a ∷ []) = list_any (λ b. a == b) (codes "()[],:=+-*/%><&|^!~")
is_sign (a ∷ b ∷ []) = list_any (bytes_eq (a ∷ b ∷ [])) pairs
is_sign (a ∷ b ∷ c ∷ []) = list_any (bytes_eq (a ∷ b ∷ c ∷ [])) triples
is_sign (a ∷ b ∷ c ∷ d ∷ rest) = false

-- whether the whole text is one word: a letter, then letters, digits and `_`
abbrev pub is_word : List ℕ → Bool
is_word [] = false
is_word (b ∷ bs) = is_letter b && list_all is_word_byte bs

-- whether the bytes after a quote end with that quote and have no other
abbrev pub is_closed : ℕ → List ℕ → Bool
is_closed quote [] = false
is_closed quote (b ∷ bs) = if b == quote then length bs == 0 else is_closed quote bs

-- that kind, where the text fits it
abbrev pub only_where : Bool → TokenKind → Option TokenKind
only_where fits kind = if fits then Some kind else None

-- which token the whole text is, where it is one
abbrev pub kind_of : List ℕ → Option TokenKind
kind_of [] = None
kind_of (b ∷ bs) =
    if is_letter b then only_where (list_all is_word_byte bs) Word
    else (if b == 36 then only_where (is_word bs) Name
    else (if b == 48 then only_where (length bs == 0) Number
    else (if is_ascii_digit b then only_where (list_all is_ascii_digit bs) Number
    else (if is_quote b then only_where (is_closed b bs) Str
    else only_where (is_sign (b ∷ bs)) Sign))))

-- the token of n bytes, else a shorter one
abbrev pub or_shorter : Option TokenKind → ℕ → Option (TokenKind × ℕ) → Option (TokenKind × ℕ)
or_shorter None n shorter = shorter
or_shorter (Some kind) n shorter = Some (kind, n)

-- the longest token of at most n bytes at the front, with its length
unfoldable pub longest : ℕ → List ℕ → Option (TokenKind × ℕ)
longest zero text = None
longest (suc n) text = or_shorter (kind_of (take (suc n) text)) (suc n) (longest n text)

-- the longest token at the front, with its length
unfoldable pub token_at : List ℕ → Option (TokenKind × ℕ)
token_at text = longest (length text) text

-- how many bytes at the front are a blank, or a comment up to its newline
abbrev pub gap_at : List ℕ → ℕ
gap_at [] = 0
gap_at (b ∷ bs) = if is_blank b then 1 else (if is_hash b
    then suc (prefix_len (λ c. not (is_newline c)) bs) else 0)

-- why no token begins with byte b, at a place
abbrev pub fault_of : ℕ → ℕ → LexFault
fault_of at b = if is_quote b then OpenString at else BadByte at

-- tokens that stand before others
abbrev pub after_tokens : List Token → Result (List Token) LexFault → Result (List Token) LexFault
after_tokens ts (Ok us) = Ok (ts ++ us)
after_tokens ts (Err fault) = Err fault

-- a token at a place, with those that come once its bytes are passed, or no token
abbrev pub token_then : (at byte : ℕ) → (found : Option (TokenKind × ℕ))
    → (others : ℕ → Result (List Token) LexFault) → Result (List Token) LexFault
token_then at b None others = Err (fault_of at b)
token_then at b (Some found) others =
    after_tokens (record { kind = found.0; from = at; to = at + found.1 } ∷ []) (others found.1)

-- the tokens from a place on, once `passed` more bytes are passed
unfoldable pub toks_from : ℕ → ℕ → List ℕ → Result (List Token) LexFault
toks_from at passed [] = Ok []
toks_from at (suc passed) (b ∷ bs) = toks_from (suc at) passed bs
toks_from at zero (b ∷ bs) =
    if nat_lt 0 (gap_at (b ∷ bs)) then toks_from (suc at) (pred (gap_at (b ∷ bs))) bs
    else token_then at b (token_at (b ∷ bs)) (λ n. toks_from (suc at) (pred n) bs)

-- the longest tokens of the text in order, each with its span, or the first place without one
unfoldable pub toks : List ℕ → Result (List Token) LexFault
toks text = toks_from 0 0 text

-- whether no byte is left, or the next one is a newline
abbrev pub is_line_end : List ℕ → Bool
is_line_end [] = true
is_line_end (b ∷ bs) = is_newline b

-- bytes without a newline
abbrev pub is_one_line : List ℕ → Bool
is_one_line bytes = list_all (λ b. not (is_newline b)) bytes

-- more than n bytes at the front are no token
abbrev pub IsLongest : ℕ → List ℕ → Type 0
IsLongest n text = (k : ℕ) → n < k → k ≤ length text → kind_of (take k text) ≡ None

-- What the bytes from a place on are: tokens with their spans, one behind the other, with
-- blanks and comments alone beside them, or the fault of the first byte at which none of these
-- begins. A comment goes up to a newline, or to the end. A token is the
-- longest one where it begins.
pub data MeansFrom : (at : ℕ) → List ℕ → Result (List Token) LexFault → Type 0 where
  at_end : {at : ℕ} → MeansFrom at [] (Ok [])
  a_blank : {at b : ℕ} {bs : List ℕ} {answer : Result (List Token) LexFault} → is_blank b ≡ true
      → MeansFrom (at + 1) bs answer → MeansFrom at (b ∷ bs) answer
  a_comment : {at b : ℕ} (line : List ℕ) {bs : List ℕ} {answer : Result (List Token) LexFault}
      → is_hash b ≡ true → is_one_line line ≡ true → is_line_end bs ≡ true
      → MeansFrom (at + length (b ∷ line)) bs answer → MeansFrom at (b ∷ line ++ bs) answer
  a_token : {at : ℕ} {kind : TokenKind} (bytes : List ℕ) {bs : List ℕ}
      {answer : Result (List Token) LexFault}
      → kind_of bytes ≡ Some kind → IsLongest (length bytes) (bytes ++ bs)
      → MeansFrom (at + length bytes) bs answer
      → MeansFrom at (bytes ++ bs) (after_tokens
      (record { kind = kind; from = at; to = at + length bytes } ∷ []) answer)
  no_token : {at b : ℕ} {bs : List ℕ} → is_blank b ≡ false →
      is_hash b ≡ false → IsLongest 0 (b ∷ bs)
      → MeansFrom at (b ∷ bs) (Err (fault_of at b))

-- what a text means: its tokens, or the fault of the first byte at which none begins
abbrev pub Means : (text : List ℕ) → Result (List Token) LexFault → Type 0
Means text answer = MeansFrom 0 text answer

-- the tokens of a text are its longest ones, with blanks and comments alone beside them, and
-- no more than its bytes
pub record Spans (text : List ℕ) (ts : List Token) : Type 0 where
  pub spans : Means text (Ok ts)
  pub few : length ts ≤ length text

-- `toks` answers exactly what a text means
abbrev pub TextsHaveOneMeaning : Type 0
TextsHaveOneMeaning = (text : List ℕ) (answer : Result (List Token) LexFault) →
    (toks text ≡ answer) ↔ Means text answer

-- the tokens of any text
abbrev pub TokensAreSpans : Type 0
TokensAreSpans = (text : List ℕ) (found : List Token) → toks text ≡ Ok found → Spans text found
