-- Scripts of two statements, and what each status says of their runs, worked by hand.
use Rattle.std.specs.Prelude.{◌≡◌, ℕ, List, [], ◌∷◌, ◌++◌, Bool, true, false, None, Some, codes}
use Rattle.pdl_watch.specs.Watched.{Watched}
use Rattle.pdl_watch.specs.Slots.{slot}
use Rattle.pdl_shell.specs.Outside.{Outside}
use Rattle.pdl_shell.specs.Answers.{Ending, Gives, ending}
use Rattle.pdl_shell.specs.Command.{usage_line}
use Rattle.pdl_shell.specs.Taken.{Reads}
use Rattle.pdl_shell.specs.declared.words.Command.TheVariants.{Run}
use Rattle.pdl_shell.specs.declared.status.Status.{Status}
use Rattle.pdl_shell.specs.declared.status.Status.TheVariants.{Done, ScriptFault, Usage, SourceFault, SinkFault, WatcherFault, NoMemory}

-- two numbers are printed; and the second statement faults
abbrev pub two_numbers : List ℕ
two_numbers = codes "p 7;p 8;"

abbrev pub a_fault : List ℕ
a_fault = codes "p 7;p $z;"

-- slot 0 is attached at the end
abbrev pub a_watch : List ℕ
a_watch = codes "$x = 7;watch $x, 0;"

-- what a run of the script comes to that ends at a fault
abbrev pub comes_to : (present : List Bool) → (script : List ℕ) → Ending
comes_to present script = ending (Some (Run false)) present [] script

-- what a run comes to that goes on where memory refuses the first statement
abbrev pub without_first : (script : List ℕ) → Ending
without_first script = ending (Some (Run true)) [] (1 ∷ []) script

-- with this status the sink, which had taken nothing, took this text
abbrev pub Writes : Status → Ending → (text : List ℕ) → Type 0
Writes status e text = (old new : Outside) (after : List ℕ) → old.out.taken ≡ Some [] →
    new.out.taken ≡ Some after → Gives status e old.out new.out → after ≡ text

-- or a front of it
abbrev pub WritesAFront : Status → Ending → (text : List ℕ) → Type 0
WritesAFront status e text = (old new : Outside) (after : List ℕ) → old.out.taken ≡ Some [] →
    new.out.taken ≡ Some after → Gives status e old.out new.out →
    (rest : List ℕ) × (text ≡ after ++ rest)

-- this status isn't answered
abbrev pub IsNoAnswer : Status → Ending → Type 0
IsNoAnswer status e = (old new : Outside) → Gives status e old.out new.out → ⊥

pub record WorkedStatuses : Type 0 where
  pub done : Writes Done (comes_to [] two_numbers) (codes "7\n8\n")
  pub no_fault : IsNoAnswer ScriptFault (comes_to [] two_numbers)
  pub faulted : Writes ScriptFault (comes_to [] a_fault) (codes "7\npdl: line 1: unknown name\n")
  pub not_done : IsNoAnswer Done (comes_to [] a_fault)
  pub usage : Writes Usage (ending None [] [] two_numbers) usage_line
  pub sink : WritesAFront SinkFault (comes_to [] two_numbers) (codes "7\n8\n")
  pub memory : WritesAFront NoMemory (comes_to [] two_numbers) (codes "7\n8\n")
  pub refused : WritesAFront NoMemory (without_first two_numbers)
      (codes "pdl: line 1: out of memory\n8\n")
  pub refused_text : (without_first two_numbers).text ≡ codes "pdl: line 1: out of memory\n8\n"
  pub refused_status : (without_first two_numbers).status ≡ NoMemory
  pub met : (without_first two_numbers).met ≡ 1 ∷ []
  pub refused_done : IsNoAnswer Done (without_first two_numbers)
  -- the read behind the first statement failed
  pub source : (old new : Outside) (after : List ℕ) → old.left ≡ Some two_numbers →
      new.left ≡ Some (codes "p 8;") → old.out.taken ≡ Some [] → new.out.taken ≡ Some after →
      Reads false [] SourceFault old new → after ≡ codes "7\n"
  -- the watcher of slot 0, which is attached at the end, couldn't be finished: it was told nothing
  pub attached : (comes_to (true ∷ []) a_watch).watches ≡ Some 0 ∷ []
  pub watcher : (old new : Outside) (before after : Watched) →
      slot old.out.slots 0 ≡ Some before → slot new.out.slots 0 ≡ Some after →
      Gives WatcherFault (comes_to (true ∷ []) a_watch) old.out new.out → after.told ≡ before.told
