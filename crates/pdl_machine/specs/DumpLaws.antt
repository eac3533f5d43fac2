-- What holds of each dump, and dumps worked by hand.
use Rattle.std.specs.Prelude.{◌≡◌, List, [], ◌∷◌, ◌++◌, ℕ, true, false, map, Result, Ok, Err, codes}
use Rattle.pdl_image.specs.Dump.{dump as dump_of}
use Rattle.pdl_syntax.specs.StatementTree.{StatementTree, bind, dump, undef}
use Rattle.pdl_machine.specs.declared.fault.Fault.{Fault}
use Rattle.pdl_machine.specs.declared.fault.Fault.TheVariants.{StillWatched}
use Rattle.pdl_machine.specs.Then.{and_then}
use Rattle.pdl_machine.specs.State.{State, no_names}
use Rattle.pdl_machine.specs.Tidy.{tidy}
use Rattle.pdl_machine.specs.Dumps.{definition, dump_lines, dumped}
use Rattle.pdl_machine.specs.Worked.{after_all, sequence_to, sliced}
use Rattle.pdl_machine.specs.WorkedCuts.{called, pdl, whole_numbers}
use Rattle.pdl_machine.specs.WorkedWatches.{one_watched, told_by}

-- the dump of a tidied state names its arrays by their own numbers
abbrev pub DumpsNameByNumbers : Type 0
DumpsNameByNumbers = (s : State) →
    dump_lines (tidy s)
    ≡ dump_of (map definition (tidy s).names.kernels) (tidy s).arrays.world (tidy s).names.arrays

-- $x = sequence(3); $y = $x->slice("0:1")->index(pdl [1,0]);
abbrev pub view_by_index : List StatementTree
view_by_index =
    bind (codes "$x") (sequence_to 3) false
    ∷ bind (codes "$y") (called (codes "index") (sliced (codes "$x") (codes "0:1")
    ∷ pdl (whole_numbers (1 ∷ 0 ∷ [])) ∷ [])) false ∷ []

-- the dump of the state to which statements lead from the empty one
abbrev pub dumped_after : List StatementTree → Result (List ℕ) Fault
dumped_after xs = and_then (after_all xs) dumped

-- each array by its way to its root, then the names; of nothing the empty text; and a refusal while
-- a slot is attached, though no name has its array any more
pub record DumpsAreWorked : Type 0 where
  pub indexed : dumped_after view_by_index
      ≡ Ok (codes "$d0 = zeroes(long,3);\n$d0->flat->slice(\"0:2\") .= pdl [0,1,2];\n$d1 = $d0->slice(\"0:1\");\n"
      ++ (codes "$di = zeroes(longlong,2);\n$di->flat->slice(\"0:1\") .= pdl [1,0];\n$d2 = $d1->index($di);\n"
      ++ codes "undef $di;\n$x = $d0;\n$y = $d2;\nundef $d0;\nundef $d1;\nundef $d2;\n"))
  pub view_alone : dumped_after (view_by_index ++ undef (codes "$y") ∷ [])
      ≡ Ok (codes "$d0 = zeroes(long,3);\n$d0->flat->slice(\"0:2\") .= pdl [0,1,2];\n$x = $d0;\nundef $d0;\n")
  pub nothing : dumped no_names ≡ Ok []
  pub watched : told_by (true ∷ []) (one_watched ++ undef (codes "x") ∷ dump ∷ [])
      ≡ Err StillWatched
