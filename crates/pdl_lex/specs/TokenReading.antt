-- How the longest token at the front is found, from its first byte on. Only private
-- functions speak of this.
use Rattle.std.specs.Prelude.{ℕ, ◌+◌, ◌==◌, nat_lt, nat_le, Bool, not, ◌&&◌, if◌then◌else◌, List, [], ◌∷◌, length, take, Option, Some, None}
use Rattle.std.specs.List.{prefix_len}
use Rattle.std.specs.Char.{is_ascii_digit}
use Rattle.pdl_lex.specs.Bytes.{is_quote, is_letter, is_word_byte}
use Rattle.pdl_lex.specs.Tokens.{is_sign}
use Rattle.pdl_lex.specs.declared.TokenKind.{TokenKind}
use Rattle.pdl_lex.specs.declared.TokenKind.TheVariants.{Name, Word, Number, Str, Sign}

-- how many bytes at the front a name or a word goes on with
abbrev pub word_len : List ℕ → ℕ
word_len bs = prefix_len is_word_byte bs

-- how many digits stand at the front
abbrev pub digits_len : List ℕ → ℕ
digits_len bs = prefix_len is_ascii_digit bs

-- how many bytes at the front are another byte
abbrev pub other_len : ℕ → List ℕ → ℕ
other_len byte bs = prefix_len (λ b. not (b == byte)) bs

-- a name, after its `$`
abbrev pub name_after : List ℕ → Option (TokenKind × ℕ)
name_after [] = None
name_after (b ∷ bs) = if is_letter b then Some (Name, 2 + word_len bs) else None

-- a string, after its quote
abbrev pub string_after : ℕ → List ℕ → Option (TokenKind × ℕ)
string_after quote bs = if nat_lt (other_len quote bs) (length bs)
    then Some (Str, other_len quote bs + 2) else None

-- whether the first n bytes are a sign
abbrev pub begins_sign : ℕ → List ℕ → Bool
begins_sign n text = nat_le n (length text) && is_sign (take n text)

-- the longest sign
abbrev pub sign_at : List ℕ → Option (TokenKind × ℕ)
sign_at text =
    if begins_sign 3 text then Some (Sign, 3)
    else (if begins_sign 2 text then Some (Sign, 2)
    else (if begins_sign 1 text then Some (Sign, 1)
    else None))

-- the longest token
abbrev pub read_at : List ℕ → Option (TokenKind × ℕ)
read_at [] = None
read_at (b ∷ bs) =
    if is_letter b then Some (Word, 1 + word_len bs)
    else (if b == 36 then name_after bs
    else (if b == 48 then Some (Number, 1)
    else (if is_ascii_digit b then Some (Number, 1 + digits_len bs)
    else (if is_quote b then string_after b bs
    else sign_at (b ∷ bs)))))
