-- Statements that stand one behind the other.
use Rattle.std.specs.Prelude.{◌≡◌, ℕ, ◌+◌, ◌≤◌, true, false, List, [], ◌∷◌, ◌++◌, Option, Some, None, option_and_then, if◌then◌else◌}
use Rattle.pdl_lex.specs.Bytes.{is_blank, newlines}
use Rattle.pdl_lex.specs.declared.cutter.Mode.{Mode}
use Rattle.pdl_lex.specs.declared.cutter.Mode.TheVariants.{Code}
use Rattle.pdl_lex.specs.declared.Piece.{Piece}
use Rattle.pdl_lex.specs.Pieces.{mode_after, is_end, is_between, chunks, text_piece, numbered}

-- where the byte behind these bytes stands, if none of them ends a statement
abbrev pub mode_behind : Mode → List ℕ → Option Mode
mode_behind now [] = Some now
mode_behind now (b ∷ bs) = if is_end now b then None else mode_behind (mode_after now b) bs

-- the bytes are the text of one statement: it begins with the first of them, and a
-- semicolon behind them ends it
pub record IsStatement (text : List ℕ) : Type 0 where
  pub first : ℕ
  pub others : List ℕ
  pub begins : is_between Code first ≡ false
  pub ends : mode_behind Code (first ∷ others) ≡ Some Code
  pub is : text ≡ first ∷ others

-- the statements of bytes that begin on a line
abbrev pub pieces_from : (line : ℕ) → List ℕ → List Piece
pieces_from line bytes = numbered true line (chunks Code bytes)

-- a statement and its semicolon give that statement, and then those of the bytes behind them
abbrev pub StatementsJoin : Type 0
StatementsJoin =
    (line : ℕ) (text rest : List ℕ) → IsStatement text
    → pieces_from line (text ++ 59 ∷ rest) ≡ text_piece line text
    ∷ pieces_from (line + newlines text) rest

-- a blank gives none
abbrev pub BlanksJoin : Type 0
BlanksJoin =
    (line blank : ℕ) (rest : List ℕ) → is_blank blank ≡ true
    → pieces_from line (blank ∷ rest) ≡ pieces_from (line + newlines (blank ∷ [])) rest

-- where the byte behind two parts stands, by the parts
abbrev pub PartsJoin : Type 0
PartsJoin =
    (now : Mode) (part other : List ℕ)
    → mode_behind now (part ++ other) ≡ option_and_then (λ mode.
    mode_behind mode other) (mode_behind now part)

-- behind a digit the next byte stands where the digit does
abbrev pub DigitsStay : Type 0
DigitsStay = (now : Mode) (digit : ℕ) → 48 ≤ digit → digit ≤ 57 →
    mode_behind now (digit ∷ []) ≡ Some now
