-- What a dump is of a session's state.
use Rattle.std.specs.Prelude.{◌≡◌, ℕ, List, ◌++◌, map, Ok}
use Rattle.pdl_image.specs.Dump.{dump as dump_of}
use Rattle.pdl_image.specs.Lines.{script_of}
use Rattle.pdl_syntax.specs.StatementTree.{StatementTree, dump}
use Rattle.pdl_machine.specs.Dumps.{definition, dump_lines, dumped}
use Rattle.pdl_machine.specs.State.{State}
use Rattle.pdl_reread.specs.Rereading.{IsReread}
use Rattle.pdl_reread.specs.Trees.{line_tree}
use Rattle.pdl_rebuild.specs.Rebuilding.{emptied}
use Rattle.pdl_rebuild.specs.Steps.{AllLead}

-- The script makes the state again. It is cut into its lines, also where more stands behind it, and
-- each reads as its statement, never as a fault. From the state that has only the same slots these
-- statements lead, one after another, to this very state, and they print and tell nothing.
pub record MakesAgain (script : List ℕ) (s : State) : Type 0 where
  pub read : IsReread script (dump_lines s)
  pub leads : AllLead (emptied s) (map line_tree (dump_lines s)) s

-- the dump of the state, where it isn't refused, makes the state again
abbrev pub DumpMakesAgain : State → Type 0
DumpMakesAgain s = (script : List ℕ) → dumped s ≡ Ok script → MakesAgain script s

-- the text of the dump of the state's kernels, its world and its names
abbrev pub dump_text : State → List ℕ
dump_text s = script_of (dump_of (map definition s.names.kernels) s.arrays.world s.names.arrays)

-- the dump of the state was printed, and it makes the state again
pub record IsDumped (s : State) (old_out new_out : List ℕ) : Type 0 where
  pub printed : new_out ≡ old_out ++ dump_text s
  pub again : MakesAgain (dump_text s) s

-- so it is after the statement `dump`
abbrev pub PrintsDump : State → StatementTree → (old_out new_out : List ℕ) → Type 0
PrintsDump s dump old_out new_out = IsDumped s old_out new_out
PrintsDump s _ old_out new_out = Unit {0}
