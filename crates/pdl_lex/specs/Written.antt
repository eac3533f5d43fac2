-- Texts that are written token by token, each behind a gap of blanks and comments.
use Rattle.std.specs.Prelude.{◌≡◌, ℕ, ◌+◌, ◌-◌, ◌==◌, Bool, true, false, not, List, [], ◌∷◌, ◌++◌, length, take, drop, Some, Ok}
use Rattle.std.specs.List.{list_all}
use Rattle.std.specs.Char.{is_ascii_digit}
use Rattle.pdl_lex.specs.Bytes.{is_blank, is_hash, is_quote, is_word_byte}
use Rattle.pdl_lex.specs.declared.Token.{Token}
use Rattle.pdl_lex.specs.declared.TokenKind.{TokenKind}
use Rattle.pdl_lex.specs.declared.TokenKind.TheVariants.{Name, Word, Number, Str, Sign}
use Rattle.pdl_lex.specs.Tokens.{is_sign, kind_of, is_line_end, is_one_line, IsLongest, toks}

-- a token as it is written: its kind, its bytes, and the gap before it
pub record Written : Type 0 where
  pub gap : List ℕ
  pub kind : TokenKind
  pub bytes : List ℕ

-- the text of tokens, with what stands behind the last one
abbrev pub text_of : List Written → (end : List ℕ) → List ℕ
text_of [] end = end
text_of (w ∷ ws) end = w.gap ++ (w.bytes ++ text_of ws end)

-- these tokens with their spans, where their text begins at a place
abbrev pub placed : (at : ℕ) → List Written → List Token
placed at [] = []
placed at (w ∷ ws) =
    record { kind = w.kind; from = at + length w.gap; to = at + length w.gap + length w.bytes }
    ∷ placed (at + length w.gap + length w.bytes) ws

-- Bytes before a rest are blanks and comments alone. A comment goes up to a newline, or to the end
-- of the text.
pub data IsGap : (gap rest : List ℕ) → Type 0 where
  no_gap : {rest : List ℕ} → IsGap [] rest
  blank_then : {b : ℕ} {bs rest : List ℕ} → is_blank b ≡ true → IsGap bs rest → IsGap (b ∷ bs) rest
  comment_then : {b : ℕ} (line : List ℕ) {bs rest : List ℕ} → is_hash b ≡ true
      → is_one_line line ≡ true → is_line_end (bs ++ rest) ≡ true
      → IsGap bs rest → IsGap (b ∷ line ++ bs) rest

-- gaps are gaps, and each token is of its kind and the longest one where it stands
abbrev pub AreWritten : List Written → (end : List ℕ) → Type 0
AreWritten [] end = IsGap end []
AreWritten (w ∷ ws) end =
    IsGap w.gap (w.bytes ++ text_of ws end) × (kind_of w.bytes ≡ Some w.kind)
    × IsLongest (length w.bytes) (w.bytes ++ text_of ws end) × AreWritten ws end

-- the bytes from a place on and before another one
abbrev pub between : List ℕ → (from to : ℕ) → List ℕ
between text from to = take (to - from) (drop from text)

-- the tokens of a text as they are written, where the token before them ends at a place
abbrev pub written : List ℕ → (at : ℕ) → List Token → List Written
written text at [] = []
written text at (t ∷ ts) =
    record { gap = between text at t.from; kind = t.kind; bytes = between text t.from t.to }
    ∷ written text t.to ts

-- what stands behind the last of them
abbrev pub end_behind : List ℕ → (at : ℕ) → List Token → List ℕ
end_behind text at [] = drop at text
end_behind text at (t ∷ ts) = end_behind text t.to ts

-- a text is its tokens as they are written, and what stands behind them
pub record IsWritten (text : List ℕ) (ts : List Token) : Type 0 where
  pub whole : text_of (written text 0 ts) (end_behind text 0 ts) ≡ text
  pub spans : placed 0 (written text 0 ts) ≡ ts
  pub are : AreWritten (written text 0 ts) (end_behind text 0 ts)

-- whether what follows a token could make it longer
abbrev pub joins : TokenKind → (bytes rest : List ℕ) → Bool
joins kind bytes [] = false
joins Name bytes (b ∷ rest) = is_word_byte b
joins Word bytes (b ∷ rest) = is_word_byte b
joins Number bytes (b ∷ rest) = is_ascii_digit b
joins Str bytes (b ∷ rest) = false
joins Sign bytes (b ∷ rest) = is_sign (bytes ++ b ∷ [])

-- a string, by its quote and what stands inside
abbrev pub quoted : (quote : ℕ) (inside : List ℕ) → List ℕ
quoted quote inside = quote ∷ (inside ++ quote ∷ [])

-- a text that is written token by token has just these tokens
abbrev pub WrittenAreRead : Type 0
WrittenAreRead = (ws : List Written) (end : List ℕ) → AreWritten ws end →
    toks (text_of ws end) ≡ Ok (placed 0 ws)

-- each text that has tokens is written so
abbrev pub TextsAreWritten : Type 0
TextsAreWritten = (text : List ℕ) (ts : List Token) → toks text ≡ Ok ts → IsWritten text ts

-- a token that can't join what follows it is the longest one
abbrev pub ApartAreLongest : Type 0
ApartAreLongest = (kind : TokenKind) (bytes rest : List ℕ) → kind_of bytes ≡ Some kind →
    joins kind bytes rest ≡ false → IsLongest (length bytes) (bytes ++ rest)

-- bytes without a quote, between two of it, are a string
abbrev pub QuotedAreStrings : Type 0
QuotedAreStrings = (quote : ℕ) (inside : List ℕ) → is_quote quote ≡ true →
    list_all (λ b. not (b == quote)) inside ≡ true → kind_of (quoted quote inside) ≡ Some Str
