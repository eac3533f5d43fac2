-- That a dump makes the state again that it is a dump of.
use Rattle.std.specs.Prelude.{◌≡◌, ℕ, List, [], map, Ok}
use Rattle.pdl_reread.specs.Trees.{line_tree}
use Rattle.pdl_machine.specs.Arrays.{no_arrays}
use Rattle.pdl_machine.specs.Dumpable.{IsDumpable}
use Rattle.pdl_machine.specs.Dumps.{dump_lines, dumped}
use Rattle.pdl_machine.specs.Names.{nothing_named}
use Rattle.pdl_machine.specs.State.{State}
use Rattle.pdl_rebuild.specs.Steps.{AllLead}

-- a state with the same slots, without names, kernels, arrays and flows
abbrev pub emptied : State → State
emptied s = record s { names = nothing_named; arrays = no_arrays; flows = [] }

-- where a dump isn't refused, its statements lead from there to the very state, one after another,
-- and no one of them prints or tells anything
abbrev pub DumpsRebuild : Type 0
DumpsRebuild = (s : State) (text : List ℕ) → IsDumpable s → dumped s ≡ Ok text →
    AllLead (emptied s) (map line_tree (dump_lines s)) s
