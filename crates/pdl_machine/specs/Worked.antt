-- Two scripts worked by hand, statement by statement.
use Rattle.std.specs.Prelude.{◌≡◌, ℕ, ◌+◌, pos, List, [], ◌∷◌, ◌++◌, Bool, false, Option, Some, Result, Ok, Err, codes}
use Rattle.pdl_elem.specs.declared.Ty.TheVariants.{Long}
use Rattle.pdl_buf.specs.declared.made.Made.{Made}
use Rattle.pdl_lexemes.specs.declared.AssignOp.TheVariants.{Set}
use Rattle.pdl_syntax.specs.Tree.{Tree, number, named, call, none, value, text}
use Rattle.pdl_syntax.specs.StatementTree.{StatementTree, bind, assign}
use Rattle.pdl_watch.specs.Slots.{joined}
use Rattle.pdl_machine.specs.declared.fault.Fault.{Fault}
use Rattle.pdl_machine.specs.declared.fault.Fault.TheVariants.{OutOfRange}
use Rattle.pdl_machine.specs.Then.{and_then}
use Rattle.pdl_machine.specs.State.{State, no_names}
use Rattle.pdl_machine.specs.Step.{Done, step}
use Rattle.pdl_machine.specs.Laws.{shown_by}

-- before the first statement, where these slots have watchers
abbrev pub nothing_done : List Bool → Done
nothing_done present = record { state = no_names; text = []; told = []; present = present }

-- with what was printed and told before it
abbrev pub done_behind : Done → Done → Done
done_behind front d = record d { text = front.text ++ d.text; told = joined front.told d.told }

-- what statements come to that are numbered from this one on, or the first fault
abbrev pub all_done : (first : ℕ) → Done → List StatementTree → Result Done Fault
all_done n d [] = Ok d
all_done n d (x ∷ xs) = and_then (step n d.present d.state x) (λ e.
    all_done (n + 1) (done_behind d e) xs)

-- the state after statements without watchers, or the first fault
abbrev pub after_all : List StatementTree → Result State Fault
after_all xs = and_then (all_done 1 (nothing_done []) xs) (λ d. Ok d.state)

-- what a name shows after statements
abbrev pub shown_after : List StatementTree → List ℕ → Result (Option Made) Fault
shown_after xs name = and_then (after_all xs) (λ s. Ok (shown_by s name))

abbrev pub sequence_to : ℕ → Tree
sequence_to n = call (codes "sequence") (value none (number (pos n)))

abbrev pub sliced : List ℕ → List ℕ → Tree
sliced x t = call (codes "slice") (text (value none (named x)) t)

-- $x = sequence(5); $y = $x->slice("1:3"); $y .= 9; and $x is [0 9 9 9 4]
abbrev pub ASliceIsWrittenThrough : Type 0
ASliceIsWrittenThrough =
    shown_after (bind (codes "x") (sequence_to 5) false
    ∷ bind (codes "y") (sliced (codes "x") (codes "1:3")) false
    ∷ assign (codes "y") [] Set (number (pos 9)) ∷ []) (codes "x")
    ≡ Ok (Some (record {
      ty = Long;
      dims = 5 ∷ [];
      elems = pos 0 ∷ pos 9 ∷ pos 9 ∷ pos 9 ∷ pos 4 ∷ [];
    }))

-- $x = sequence(4); $y = $x->slice("2:4"); is out of range
abbrev pub ASliceEndsWithin : Type 0
ASliceEndsWithin =
    after_all (bind (codes "x") (sequence_to 4) false
    ∷ bind (codes "y") (sliced (codes "x") (codes "2:4")) false ∷ []) ≡ Err OutOfRange
