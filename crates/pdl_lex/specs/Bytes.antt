-- The bytes that the language knows apart.
use Rattle.std.specs.Prelude.{ℕ, Bool, ◌==◌, ◌||◌, List, count_by}
use Rattle.std.specs.Char.{is_ascii_alphabetic, is_ascii_alphanumeric}

-- a newline
abbrev pub is_newline : ℕ → Bool
is_newline b = b == 10

-- a blank: space, tab, newline or carriage return
abbrev pub is_blank : ℕ → Bool
is_blank b = b == 32 || b == 9 || b == 10 || b == 13

-- `#`, which begins a comment
abbrev pub is_hash : ℕ → Bool
is_hash b = b == 35

-- `;`, which ends a statement
abbrev pub is_semicolon : ℕ → Bool
is_semicolon b = b == 59

-- `"` or `'`, which begins and ends a string
abbrev pub is_quote : ℕ → Bool
is_quote b = b == 34 || b == 39

-- what a name goes on with after its `$`, and how a word begins: an ASCII letter or `_`
abbrev pub is_letter : ℕ → Bool
is_letter b = is_ascii_alphabetic b || b == 95

-- what a name or a word goes on with: an ASCII letter, a digit or `_`
abbrev pub is_word_byte : ℕ → Bool
is_word_byte b = is_ascii_alphanumeric b || b == 95

-- how many newlines the bytes have
abbrev pub newlines : List ℕ → ℕ
newlines bytes = count_by is_newline bytes
