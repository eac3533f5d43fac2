-- The statements of a dump's text.
use Rattle.std.specs.Prelude.{◌≡◌, ℕ, ◌+◌, ◌≤◌, List, [], ◌∷◌, ◌++◌, length}
use Rattle.pdl_lex.specs.Bytes.{newlines}
use Rattle.pdl_lex.specs.declared.Piece.{Piece}
use Rattle.pdl_lex.specs.declared.Piece.TheVariants.{Whole}
use Rattle.pdl_lex.specs.Joining.{pieces_from}
use Rattle.pdl_lex.specs.Limits.{statement_limit}
use Rattle.pdl_lex.specs.Pieces.{pieces}
use Rattle.pdl_image.specs.Lines.{Line, line_text, script_of}
use Rattle.pdl_reread.specs.Trees.{IsLine}

-- each of them is a line of a dump, and no longer than a statement may be
abbrev pub AreLines : List Line → Type 0
AreLines [] = Unit {0}
AreLines (l ∷ lines) = IsLine l × (length (line_text l) ≤ statement_limit) × AreLines lines

-- the statements of lines, the first of which begins on this line of the script
abbrev pub statements : (line : ℕ) → List Line → List Piece
statements line [] = []
statements line (l ∷ lines) = Whole (record { text = line_text l; line = line })
    ∷ statements (line + newlines (line_text l) + 1) lines

-- the line of the script behind them
abbrev pub line_behind : (line : ℕ) → List Line → ℕ
line_behind line [] = line
line_behind line (l ∷ lines) = line_behind (line + newlines (line_text l) + 1) lines

-- a script that begins with the text of lines has their statements, and then those of the rest
abbrev pub LinesAreStatements : Type 0
LinesAreStatements = (lines : List Line) (rest : List ℕ) → AreLines lines →
    pieces (script_of lines ++ rest)
    ≡ statements 1 lines ++ pieces_from (line_behind 1 lines) rest
