-- The tokens of kernel code (PDL::PP, Code): at each place the longest one,
-- with blanks between them.
use Rattle.std.specs.Prelude.{ℕ, zero, suc, pred, ◌+◌, ◌==◌, nat_le, nat_lt, Bool, true, false, if◌then◌else◌, List, [], ◌∷◌, ◌++◌, length, take, Option, Some, None, option_map, codes}
use Rattle.std.specs.List.{prefix_len}
use Rattle.std.specs.Char.{is_ascii_digit}
use Rattle.pdl_lemmas.specs.Options.{choose}
use Rattle.pdl_elem.specs.declared.UnaryOp.TheVariants.{Not, Complement}
use Rattle.pdl_elem.specs.Tables.{found_in}
use Rattle.pdl_lex.specs.Bytes.{is_blank, is_letter, is_word_byte}
use Rattle.pdl_sig.specs.Grammar.{reserved}
use Rattle.pdl_sig.specs.declared.Reserved.{Reserved}
use Rattle.pdl_sig.specs.declared.Reserved.TheVariants as words
use Rattle.pdl_lexemes.specs.declared.AssignOp.{AssignOp}
use Rattle.pdl_lexemes.specs.declared.AssignOp.TheVariants.{Set, With}
use Rattle.pdl_lexemes.specs.Lexing.{operators, assignments, number_of}
use Rattle.pdl_code.specs.declared.lexeme.Span.{Span}
use Rattle.pdl_code.specs.declared.lexeme.WordKind.{WordKind}
use Rattle.pdl_code.specs.declared.lexeme.WordKind.TheVariants.{Loop, If, Else, OfType, Plain}
use Rattle.pdl_code.specs.declared.lexeme.NameKind.{NameKind}
use Rattle.pdl_code.specs.declared.lexeme.NameKind.TheVariants.{Size, Generic, Plain as PlainName}
use Rattle.pdl_code.specs.declared.lexeme.Lexeme.{Lexeme}
use Rattle.pdl_code.specs.declared.lexeme.Lexeme.TheVariants.{Name, Word, Number, Open, Close, BlockOpen, BlockClose, Semicolon, Comma, Equals, FatArrow, Assign, Operator, Prefix, Arrow, Unused}
use Rattle.pdl_code.specs.declared.names.LocalType.TheVariants.{Long, Longlong}

-- what a reserved word begins
abbrev pub kind_of : Reserved → WordKind
kind_of words.Loop = Loop
kind_of words.If = If
kind_of words.Else = Else
kind_of words.LongLocal = OfType Long
kind_of words.LonglongLocal = OfType Longlong

-- what a word is besides a name
abbrev pub word_kind : List ℕ → WordKind
word_kind text = choose Plain kind_of (found_in reserved text)

-- the names that are no argument's
abbrev pub name_kinds : List (List ℕ × NameKind)
name_kinds = (codes "$SIZE", Size) ∷ (codes "$GENERIC", Generic) ∷ []

-- what `$` and a word are besides an argument
abbrev pub name_kind : List ℕ → NameKind
name_kind text = choose PlainName (λ k. k) (found_in name_kinds text)

-- the signs but those of operators on two values and of assignments; the closing bracket has its
-- place
abbrev pub signs : ℕ → List (List ℕ × Lexeme)
signs at =
    (codes "(", Open) ∷ (codes ")", Close at) ∷ (codes "%{", BlockOpen) ∷ (codes "%}", BlockClose)
    ∷ (codes ";", Semicolon) ∷ (codes ",", Comma) ∷ (codes "=", Equals) ∷ (codes "=>", FatArrow)
    ∷ (codes "->", Arrow) ∷ (codes "[", Unused) ∷ (codes "]", Unused)
    ∷ (codes "!", Prefix Not) ∷ (codes "~", Prefix Complement) ∷ []

-- an assignment by an operator; kernel code has none by `.=`
abbrev pub assignment : AssignOp → Lexeme
assignment Set = Unused
assignment (With op) = Assign op

-- the sign that a text is, if any
abbrev pub sign_named : ℕ → List ℕ → Option Lexeme
sign_named at text =
    choose
    (choose (option_map assignment (found_in assignments text)) (λ op. Some (Operator op))
    (found_in operators text))
    (λ s. Some s)
    (found_in (signs at) text)

-- the sign of n bytes at the front, with its length
abbrev pub sign_of : ℕ → ℕ → List ℕ → Option (Lexeme × ℕ)
sign_of at n text =
    if nat_le n (length text) then option_map (λ l. (l, n)) (sign_named at (take n text)) else None

-- the longest sign
abbrev pub sign_at : ℕ → List ℕ → Option (Lexeme × ℕ)
sign_at at text =
    choose (choose (sign_of at 1 text) (λ x. Some x) (sign_of at 2 text)) (λ x. Some x)
    (sign_of at 3 text)

-- how many bytes a word that begins with a letter has
abbrev pub word_len : List ℕ → ℕ
word_len [] = 0
word_len (b ∷ bs) = if is_letter b then 1 + prefix_len is_word_byte bs else 0

-- how many digits a number has
abbrev pub number_len : List ℕ → ℕ
number_len [] = 0
number_len (b ∷ bs) =
    if b == 48 then 1
    else (if is_ascii_digit b then 1 + prefix_len is_ascii_digit bs else 0)

abbrev pub span_at : ℕ → ℕ → Span
span_at at n = record { from = at; to = at + n }

-- a token of n bytes, where there are any
abbrev pub of_len : ℕ → (ℕ → Lexeme) → Option (Lexeme × ℕ) → Option (Lexeme × ℕ)
of_len n lexeme other = if nat_lt 0 n then Some (lexeme n, n) else other

-- `$` and a word
abbrev pub name_len : List ℕ → ℕ
name_len [] = 0
name_len (b ∷ bs) = if b == 36 then (if nat_le 1 (word_len bs) then 1 + word_len bs else 0) else 0

-- the longest token at the front of a text, which stands at a place, with its length
unfoldable pub lexeme_at : ℕ → List ℕ → Option (Lexeme × ℕ)
lexeme_at at text =
    of_len (word_len text) (λ n. Word (word_kind (take n text)) (span_at at n))
    (of_len (name_len text) (λ n. Name (name_kind (take n text)) (span_at at n))
    (of_len (number_len text) (λ n. Number (number_of (take n text)))
    (sign_at at text)))

-- the tokens of a text up to the first byte that begins none, and whether there is no such byte
pub record Lexed : Type 0 where
  pub lexemes : List Lexeme
  pub whole : Bool

abbrev pub behind : List Lexeme → Lexed → Lexed
behind ls r = record r { lexemes = ls ++ r.lexemes }

abbrev pub lexed_then : Option (Lexeme × ℕ) → (ℕ → Lexed) → Lexed
lexed_then None others = record { lexemes = []; whole = false }
lexed_then (Some found) others = behind (found.0 ∷ []) (others found.1)

-- the tokens from a place on, once `passed` more bytes are passed
unfoldable pub lexed_from : ℕ → ℕ → List ℕ → Lexed
lexed_from at passed [] = record { lexemes = []; whole = true }
lexed_from at (suc passed) (b ∷ bs) = lexed_from (suc at) passed bs
lexed_from at zero (b ∷ bs) =
    if is_blank b then lexed_from (suc at) 0 bs
    else lexed_then (lexeme_at at (b ∷ bs)) (λ n. lexed_from (suc at) (pred n) bs)

unfoldable pub lexed : List ℕ → Lexed
lexed text = lexed_from 0 0 text
