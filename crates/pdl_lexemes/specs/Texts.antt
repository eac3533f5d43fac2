-- Names, and texts that a string can hold.
use Rattle.std.specs.Prelude.{◌≡◌, ℕ, ◌==◌, Bool, true, not, ◌||◌, List, Some}
use Rattle.std.specs.List.{list_all}
use Rattle.pdl_lex.specs.declared.TokenKind.TheVariants.{Name as IsNameKind}
use Rattle.pdl_lex.specs.Tokens.{kind_of}
use Rattle.pdl_lexemes.specs.declared.Lexeme.{Lexeme}
use Rattle.pdl_lexemes.specs.declared.Lexeme.TheVariants.{Name, Quoted}
use Rattle.pdl_lexemes.specs.Bytes.{bytes_at}

-- a name, with its `$`
abbrev pub IsName : List ℕ → Type 0
IsName name = kind_of name ≡ Some IsNameKind

-- whether a text has no such quote
abbrev pub lacks : (quote : ℕ) → List ℕ → Bool
lacks quote text = list_all (λ b. not (b == quote)) text

-- a text that a string can hold: it lacks `"` or `'`, between two of which it stands then
abbrev pub IsQuotable : List ℕ → Type 0
IsQuotable text = (lacks 34 text || lacks 39 text) ≡ true

-- a name among the lexemes of a text is a name, and a string is a text that a string can hold
abbrev pub HoldsText : (source : List ℕ) → Lexeme → Type 0
HoldsText source (Name span) = IsName (bytes_at source span)
HoldsText source (Quoted span) = IsQuotable (bytes_at source span)
HoldsText source _ = Unit {0}
