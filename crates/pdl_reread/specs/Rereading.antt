-- What the text of a state's dump reads as.
use Rattle.std.specs.Prelude.{◌≡◌, ℕ, List, [], ◌∷◌, ◌++◌, Ok}
use Rattle.pdl_lex.specs.Joining.{pieces_from}
use Rattle.pdl_lex.specs.Pieces.{pieces}
use Rattle.pdl_image.specs.Lines.{Line, line_text, script_of}
use Rattle.pdl_machine.specs.Dumpable.{IsDumpable}
use Rattle.pdl_machine.specs.Dumps.{dump_lines, dumped}
use Rattle.pdl_machine.specs.Reads.{reads}
use Rattle.pdl_machine.specs.State.{State}
use Rattle.pdl_reread.specs.Scripts.{AreLines, statements, line_behind}
use Rattle.pdl_reread.specs.Trees.{line_tree}

-- each line is read as its statement, and never as a fault
abbrev pub AreReread : List Line → Type 0
AreReread [] = Unit {0}
AreReread (l ∷ lines) = (reads (line_text l) ≡ Ok (line_tree l)) × AreReread lines

-- A text is that of lines: its pieces are their statements in order, each on its line, also where a
-- rest stands behind it, whose pieces follow then; and each of them is read as its statement.
pub record IsReread (text : List ℕ) (lines : List Line) : Type 0 where
  pub is : text ≡ script_of lines
  pub are_lines : AreLines lines
  pub whole : pieces text ≡ statements 1 lines
  pub before : (rest : List ℕ) →
      pieces (text ++ rest) ≡ statements 1 lines ++ pieces_from (line_behind 1 lines) rest
  pub read : AreReread lines

-- the dump of each state that a dump can make again, where it isn't refused
abbrev pub DumpsAreReread : Type 0
DumpsAreReread = (s : State) (text : List ℕ) → IsDumpable s → dumped s ≡ Ok text →
    IsReread text (dump_lines s)
