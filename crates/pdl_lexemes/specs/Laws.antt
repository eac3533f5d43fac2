-- What the definitions promise to the crates above. Each is the contract of a public function.
use Rattle.std.specs.Prelude.{◌≡◌, ◌↔◌, ◌≤◌, ℕ, ℤ, pos, List, [], ◌∷◌, length, true, ◌||◌, Option, None, Some, unwrap_or, All, is_some, Ok}
use Rattle.pdl_elem.specs.Tables.{found_in}
use Rattle.pdl_elem.specs.declared.Ty.{Ty}
use Rattle.pdl_elem.specs.declared.Ty.TheVariants.{Long, Longlong}
use Rattle.pdl_elem.specs.Types.{InRange, highest, type_word}
use Rattle.pdl_shape.specs.Shape.{size_of}
use Rattle.pdl_lex.specs.declared.Token.{Token}
use Rattle.pdl_lex.specs.declared.TokenKind.TheVariants.{Word as IsWord}
use Rattle.pdl_lex.specs.Tokens.{is_sign, kind_of, toks}
use Rattle.pdl_lex.specs.Written.{written}
use Rattle.pdl_lex.specs.Brackets.{no_brackets, go_deep}
use Rattle.pdl_lexemes.specs.declared.Lexeme.{Lexeme}
use Rattle.pdl_lexemes.specs.declared.Lexeme.TheVariants.{OpenSquare, Word}
use Rattle.pdl_lexemes.specs.declared.Span.{Span}
use Rattle.pdl_lexemes.specs.declared.WordKind.TheVariants.{OfType}
use Rattle.pdl_lexemes.specs.Limits.{number_limit, long_limit}
use Rattle.pdl_lexemes.specs.Lists.{SpellsList, a_list, type_of, HoldsRagged}
use Rattle.pdl_lexemes.specs.ListReading.{read_part, list_read}
use Rattle.pdl_lexemes.specs.Depth.{operator_limit, without_shape, ragged_in, is_too_deep}
use Rattle.pdl_lexemes.specs.Squares.{square_limit}
use Rattle.pdl_lexemes.specs.Lexing.{operators, assignments, signs, word_of, lexemes_of}
use Rattle.pdl_lexemes.specs.Texts.{HoldsText}
use Rattle.pdl_lexemes.specs.Peeks.{after}

-- a list literal is read exactly where the grammar spells it; it begins with `[`, and what
-- follows it is no longer
pub record ListsAreRead : Type 0 where
  pub reads : (ts rest : List Lexeme) (shape : Option (List ℕ)) (elems : List ℤ)
      → (list_read ts ≡ Some (read_part shape elems rest))
      ↔ SpellsList (a_list shape [] elems) ts rest
  pub opens : (ts rest : List Lexeme) (shape : Option (List ℕ)) (elems : List ℤ)
      → SpellsList (a_list shape [] elems) ts rest → (us : List Lexeme) × (ts ≡ OpenSquare ∷ us)
  pub shortens : (ts rest : List Lexeme) (shape : Option (List ℕ)) (elems : List ℤ)
      → SpellsList (a_list shape [] elems) ts rest → length rest ≤ length ts

-- the scan finds a ragged list exactly where the lexemes hold one; each lexeme but `[` is
-- passed, and so is a list literal, where it isn't ragged itself
pub record RaggedIsScanned : Type 0 where
  pub held : (ts : List Lexeme) → (ragged_in ts ≡ true) ↔ HoldsRagged ts
  pub passes : (t : Lexeme) (ts : List Lexeme) → after OpenSquare (t ∷ ts) ≡ None →
      ragged_in (t ∷ ts) ≡ ragged_in ts
  pub lists : (ts rest : List Lexeme) (shape : Option (List ℕ)) (elems : List ℤ)
      → SpellsList (a_list shape [] elems) ts rest →
      ragged_in ts ≡ (without_shape shape || ragged_in rest)

-- as many numbers as the dimensions say, each of them in the type's range
pub record FillsArray (shape : Option (List ℕ)) (elems : List ℤ) : Type 0 where
  pub count : length elems ≡ size_of (unwrap_or shape (length elems ∷ []))
  pub in_range : All (InRange (type_of elems)) elems

-- a list literal is an array; a ragged one counts as a list of its numbers
abbrev pub ListsAreArrays : Type 0
ListsAreArrays =
    (ts rest : List Lexeme) (shape : Option (List ℕ)) (elems : List ℤ) →
    SpellsList (a_list shape [] elems) ts rest → FillsArray shape elems

-- each sign that a text may have is a lexeme of the grammar
abbrev pub SignsAreKnown : Type 0
SignsAreKnown =
    (text : List ℕ) → is_sign text ≡ true →
    (is_some (found_in signs text) || is_some (found_in operators text)
    || is_some (found_in assignments text)) ≡ true

-- where more than 64 brackets are open at a token, the lexemes go too deep
abbrev pub BracketsAreCounted : Type 0
BracketsAreCounted =
    (text : List ℕ) (ts : List Token) → go_deep no_brackets (written text 0 ts) ≡ true →
    is_too_deep (lexemes_of text ts) ≡ true

-- the names among the lexemes of a text are names, and its strings are texts that a string can hold
abbrev pub LexemesHoldTexts : Type 0
LexemesHoldTexts =
    (text : List ℕ) (ts : List Token) → toks text ≡ Ok ts →
    All (HoldsText text) (lexemes_of text ts)

-- the word of a type is a word, and reads as that type
pub record TypeWordsAreWords : Type 0 where
  pub words : (ty : Ty) → kind_of (type_word ty) ≡ Some IsWord
  pub types : (ty : Ty) (span : Span) → word_of (type_word ty) span ≡ Word (OfType ty) span

-- how many square brackets are open at once at most, how many operators stand outside them, and
-- how large numbers are: those of a text are numbers of longlong, and those of a list of long are
-- numbers of long
pub record LimitsAre : Type 0 where
  pub squares : square_limit ≡ 16
  pub operators : operator_limit ≡ 256
  pub numbers : pos number_limit ≡ highest Longlong
  pub longs : pos long_limit ≡ highest Long
