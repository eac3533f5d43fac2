-- Where the tokens of a written text stand, and which lexemes they are.
use Rattle.std.proofs.Common.{◌≡◌, ℕ, suc, ◌+◌, ◌-◌, true, List, [], ◌∷◌, ◌++◌, length, refl, sym, ◌∙◌, ap, ap₂, arith, take, drop, length-append, append_assoc}
use Rattle.std.specs.Prelude.{Ok}
use Rattle.std.specs.List.{list_all}
use Rattle.std.proofs.Math.Seq.{take-append_seam}
use Rattle.std.proofs.lemmas.Bool.{and_parts}
use Rattle.pdl_lemmas.specs.Lists.{drop_behind}
use Rattle.pdl_lex.specs.Bytes.{is_blank}
use Rattle.pdl_lex.specs.declared.Token.{Token}
use Rattle.pdl_lex.specs.declared.TokenKind.{TokenKind}
use Rattle.pdl_lex.specs.declared.TokenKind.TheVariants.{Name as IsName, Word as IsWord, Number as IsNumber, Str as IsStr, Sign as IsSign}
use Rattle.pdl_lex.specs.Tokens.{toks}
use Rattle.pdl_lex.specs.Written.{Written, text_of, placed, IsGap, no_gap, blank_then, AreWritten, quoted, WrittenAreRead, ApartAreLongest}
use Rattle.pdl_lexemes.specs.declared.Lexeme.TheVariants.{Number}
use Rattle.pdl_lexemes.specs.Bytes.{bytes_at}
use Rattle.pdl_lexemes.specs.Lexing.{word_of, sign_of, number_of, lexeme_of, lexemes_of}
use Rattle.pdl_reread.specs.Parts.{AreApart, span_at, inside_at, lexeme_at, behind, lexemes_at, StandsAt, Stand}

-- ---- tokens that stand apart are written

gap_is : (gap rest : List ℕ) → list_all is_blank gap ≡ true → IsGap gap rest
gap_is [] rest blanks = no_gap
gap_is (b ∷ gap) rest blanks =
    let parts = and_parts (is_blank b) (list_all is_blank gap) blanks in
    blank_then parts.0 (gap_is gap rest parts.1)

are_written : ApartAreLongest → (ws : List Written) → AreApart ws → AreWritten ws []
are_written longest [] apart = gap_is [] [] refl
are_written longest (w ∷ ws) apart = (
  gap_is w.gap (w.bytes ++ text_of ws []) apart.0,
  apart.1,
  longest w.kind w.bytes (text_of ws []) apart.1 apart.2,
  are_written longest ws apart.3,
)

pub apart_are_read : ApartAreLongest → WrittenAreRead → (ws : List Written) → AreApart ws → toks (text_of ws []) ≡ Ok (placed 0 ws)
apart_are_read longest read ws apart = read ws [] (are_written longest ws apart)

-- ---- where they stand

pub behind_is : (at : ℕ) (gap : List ℕ) → behind at gap ≡ at + length gap
behind_is at [] = none at
  where
    none : (a : ℕ) → a ≡ a + 0
    none a = omega arith
behind_is at (b ∷ gap) = refl

read_there : (source : List ℕ) (at : ℕ) (bytes rest : List ℕ) → drop at source ≡ bytes ++ rest → bytes_at source (span_at at bytes) ≡ bytes
read_there source at bytes rest here = ap₂ take (length_of at (length bytes)) here ∙ take-append_seam bytes rest
  where
    length_of : (a n : ℕ) → a + n - a ≡ n
    length_of a n = omega arith

read_inside : (source : List ℕ) (at quote : ℕ) (inside rest : List ℕ) → drop at source ≡ quoted quote inside ++ rest → bytes_at source (inside_at at (quoted quote inside)) ≡ inside
read_inside source at quote inside rest here =
    ap₂ take (length_of at (length (inside ++ quote ∷ [])) (length inside) (length-append inside (quote ∷ [])))
    (drop_behind source at (quote ∷ []) ((inside ++ quote ∷ []) ++ rest) here ∙ append_assoc inside (quote ∷ []) rest)
    ∙ take-append_seam inside (quote ∷ rest)
  where
    length_of : (a m n : ℕ) → m ≡ n + 1 → a + suc m - 1 - (a + 1) ≡ n
    length_of a m n is = omega (arith, is)

one_stands : (source : List ℕ) (at : ℕ) (kind : TokenKind) (bytes rest : List ℕ) → drop at source ≡ bytes ++ rest → StandsAt source at kind bytes
one_stands source at IsName bytes rest here = read_there source at bytes rest here
one_stands source at IsWord bytes rest here = read_there source at bytes rest here
one_stands source at IsNumber bytes rest here = read_there source at bytes rest here
one_stands source at IsSign bytes rest here = read_there source at bytes rest here
one_stands source at IsStr bytes rest here = λ quote inside is.
    ap (λ t. bytes_at source (inside_at at t)) is ∙ read_inside source at quote inside rest (here ∙ ap (λ t. t ++ rest) is)

pub all_stand : (source : List ℕ) (at : ℕ) (ws : List Written) → drop at source ≡ text_of ws [] → Stand source at ws
all_stand source at [] here = tt
all_stand source at (w ∷ ws) here =
    let there : drop (behind at w.gap) source ≡ w.bytes ++ text_of ws [] =
    ap (λ (n : ℕ). drop n source) (behind_is at w.gap) ∙ drop_behind source at w.gap (w.bytes ++ text_of ws []) here in (
      one_stands source (behind at w.gap) w.kind w.bytes (text_of ws []) there,
      all_stand source (behind at w.gap + length w.bytes) ws (drop_behind source (behind at w.gap) w.bytes (text_of ws []) there),
    )

-- ---- their lexemes

abbrev token_at : TokenKind → ℕ → List ℕ → Token
token_at kind at bytes = record { kind = kind; from = at; to = at + length bytes }

one_lexed : (source : List ℕ) (kind : TokenKind) (at : ℕ) (bytes : List ℕ) → StandsAt source at kind bytes → lexeme_of source (token_at kind at bytes) ≡ lexeme_at kind at bytes
one_lexed source IsName at bytes is = refl
one_lexed source IsWord at bytes is = ap (λ t. word_of t (span_at at bytes)) is
one_lexed source IsNumber at bytes is = ap (λ t. Number (number_of t)) is
one_lexed source IsStr at bytes is = refl
one_lexed source IsSign at bytes is = ap sign_of is

pub all_lexed : (source : List ℕ) (at : ℕ) (ws : List Written) → Stand source at ws → lexemes_of source (placed at ws) ≡ lexemes_at at ws
all_lexed source at [] stand = refl
all_lexed source at (w ∷ ws) stand =
    ap (λ (p : ℕ). lexeme_of source (token_at w.kind p w.bytes) ∷ lexemes_of source (placed (p + length w.bytes) ws)) (sym (behind_is at w.gap))
    ∙ ap₂ (λ t ts. t ∷ ts) (one_lexed source w.kind (behind at w.gap) w.bytes stand.0) (all_lexed source (behind at w.gap + length w.bytes) ws stand.1)
