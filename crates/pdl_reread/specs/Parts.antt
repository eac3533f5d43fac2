-- The lexemes of a text that is written token by token, and where each token stands.
use Rattle.std.specs.Prelude.{◌≡◌, ℕ, ◌+◌, ◌-◌, true, false, List, [], ◌∷◌, length, Some}
use Rattle.std.specs.List.{list_all}
use Rattle.pdl_lex.specs.Bytes.{is_blank}
use Rattle.pdl_lex.specs.declared.TokenKind.{TokenKind}
use Rattle.pdl_lex.specs.declared.TokenKind.TheVariants.{Name as IsName, Word as IsWord, Number as IsNumber, Str as IsStr, Sign as IsSign}
use Rattle.pdl_lex.specs.Tokens.{kind_of}
use Rattle.pdl_lex.specs.Written.{Written, text_of, joins, quoted}
use Rattle.pdl_lexemes.specs.declared.Span.{Span}
use Rattle.pdl_lexemes.specs.declared.Lexeme.{Lexeme}
use Rattle.pdl_lexemes.specs.declared.Lexeme.TheVariants.{Name, Number, Quoted}
use Rattle.pdl_lexemes.specs.Bytes.{bytes_at}
use Rattle.pdl_lexemes.specs.Lexing.{word_of, sign_of, number_of}

-- each token stands behind blanks alone, is of its kind, and can't join what follows it
abbrev pub AreApart : List Written → Type 0
AreApart [] = Unit {0}
AreApart (w ∷ ws) =
    (list_all is_blank w.gap ≡ true) × (kind_of w.bytes ≡ Some w.kind)
    × (joins w.kind w.bytes (text_of ws []) ≡ false) × AreApart ws

abbrev pub span_at : ℕ → List ℕ → Span
span_at at bytes = record { from = at; to = at + length bytes }

-- the bytes between the quotes
abbrev pub inside_at : ℕ → List ℕ → Span
inside_at at bytes = record { from = at + 1; to = at + length bytes - 1 }

-- the lexeme of a token at a place
abbrev pub lexeme_at : TokenKind → ℕ → List ℕ → Lexeme
lexeme_at IsName at bytes = Name (span_at at bytes)
lexeme_at IsWord at bytes = word_of bytes (span_at at bytes)
lexeme_at IsNumber at bytes = Number (number_of bytes)
lexeme_at IsStr at bytes = Quoted (inside_at at bytes)
lexeme_at IsSign at bytes = sign_of bytes

-- where a token begins that stands behind a gap
abbrev pub behind : ℕ → (gap : List ℕ) → ℕ
behind at [] = at
behind at (b ∷ gap) = at + length (b ∷ gap)

-- the lexemes of tokens that are written from a place on
abbrev pub lexemes_at : ℕ → List Written → List Lexeme
lexemes_at at [] = []
lexemes_at at (w ∷ ws) =
    lexeme_at w.kind (behind at w.gap) w.bytes ∷ lexemes_at (behind at w.gap + length w.bytes) ws

-- what stands at a token's place, where its lexeme has a place
abbrev pub StandsAt : (source : List ℕ) → (at : ℕ) → TokenKind → (bytes : List ℕ) → Type 0
StandsAt source at IsStr bytes = (quote : ℕ) (inside : List ℕ) → bytes ≡ quoted quote inside →
    bytes_at source (inside_at at bytes) ≡ inside
StandsAt source at kind bytes = bytes_at source (span_at at bytes) ≡ bytes

abbrev pub Stand : (source : List ℕ) → (at : ℕ) → List Written → Type 0
Stand source at [] = Unit {0}
Stand source at (w ∷ ws) = StandsAt source (behind at w.gap) w.kind w.bytes
    × Stand source (behind at w.gap + length w.bytes) ws
