-- Statements that neither print nor tell anything.
use Rattle.std.specs.Prelude.{◌≡◌, ℕ, List, [], map, Bool, Ok}
use Rattle.pdl_syntax.specs.StatementTree.{StatementTree}
use Rattle.pdl_machine.specs.State.{State}
use Rattle.pdl_machine.specs.Step.{Done, step}
use Rattle.pdl_machine.specs.Worked.{all_done}

-- what a statement comes to that leaves this state, and prints nothing and tells no slot anything
abbrev pub quietly : (present : List Bool) → State → Done
quietly present s = record {
  state = s;
  text = [];
  told = map (λ w. []) s.watches;
  present = present;
}

-- the statement leads from a state to another one, without a fault, and quietly
abbrev pub Leads : State → StatementTree → State → Type 0
Leads s x t = (number : ℕ) (present : List Bool) →
    step number present s x ≡ Ok (quietly present t)

-- so do these statements, one after another
abbrev pub AllLead : State → List StatementTree → State → Type 0
AllLead s xs t = (number : ℕ) (present : List Bool) →
    all_done number (quietly present s) xs ≡ Ok (quietly present t)
