-- A script of late writes, and what each of its statements moves at most, worked by hand.
use Rattle.std.specs.Prelude.{◌≡◌, ℕ, ◌+◌, ◌<◌, ◌≤◌, pos, false, List, [], ◌∷◌, get_or, map, codes, Ok}
use Rattle.pdl_engine.specs.State.{IsLazy}
use Rattle.pdl_elem.specs.declared.BinaryOp.TheVariants.{Add, Mul}
use Rattle.pdl_lexemes.specs.declared.AssignOp.TheVariants.{Set}
use Rattle.pdl_syntax.specs.StatementTree.{StatementTree, assign, bind, flow, show, vars}
use Rattle.pdl_syntax.specs.Tree.{Tree, binary, named, number}
use Rattle.pdl_machine.specs.State.{State, no_names}
use Rattle.pdl_machine.specs.Then.{and_then}
use Rattle.pdl_machine.specs.Worked.{after_all, sequence_to}
use Rattle.pdl_machine.specs.WorkedCuts.{called, pdl, whole_numbers}
use Rattle.pdl_scope.specs.Costs.{total_size}
use Rattle.pdl_scope.specs.Scope.{Scope, engine_of}
use Rattle.pdl_session.specs.Came.{evaluated}
use Rattle.pdl_session.specs.Bounds.{LeavesReadable, RunsInPlace, warm_after}
use Rattle.pdl_session.specs.Moves.{flows_steps}
use Rattle.pdl_session.specs.Session.{AssignsAgain, IsAtRest, PrintsAtMost, Session, no_steps}

-- One session follows another by a statement that ran without watchers, as the clauses of `step`
-- and of `at_rest` say it; the counter stood at `before`, and stands at `after`.
pub record Follows (old : Session) (statement : StatementTree) (new : Session)
    (before after : ℕ) : Type 0 where
  pub in_place : RunsInPlace [] old.scope statement new.scope
  pub warm : new.warm ≡ warm_after old.scope statement
  pub again : AssignsAgain old statement before after
  pub shown : PrintsAtMost old statement before after
  pub readable : LeavesReadable statement old.scope new.scope
  pub rest : IsAtRest new.scope new.warm
  pub lazy : IsLazy (engine_of new.scope)

-- $b .= n;
abbrev pub to_b : ℕ → StatementTree
to_b n = assign (codes "b") [] Set (number (pos n))

-- p $x;
abbrev pub print_x : StatementTree
print_x = show (named (codes "x")) false

-- $x = sequence(10); $b = $x->index(pdl [0,2,4]); $b .= 1; $b .= 2; p $x; p $x;
abbrev pub late_writes : List StatementTree
late_writes =
    bind (codes "x") (sequence_to 10) false
    ∷ bind
    (codes "b")
    (called (codes "index") (named (codes "x") ∷ pdl (whole_numbers (0 ∷ 2 ∷ 4 ∷ [])) ∷ []))
    false
    ∷ to_b 1 ∷ to_b 2 ∷ print_x ∷ print_x ∷ []

-- the fourth statement moves at most four elements, the fifth at most three, and the sixth none
abbrev pub LateWritesMoveLittle : Type 0
LateWritesMoveLittle =
    (s : ℕ → Session) (n : ℕ → ℕ) → s 0 ≡ no_steps
    → ((i : ℕ) → i < 6
    → Follows (s i) (get_or late_writes i vars) (s (i + 1)) (n i) (n (i + 1)))
    → (n 4 ≤ n 3 + 4) × (n 5 ≤ n 4 + 3) × (n 6 ≤ n 5)

-- nosuch(1), which is no call
abbrev pub no_call : Tree
no_call = called (codes "nosuch") (number (pos 1) ∷ [])

-- how many elements move at most for the arrays that come until an expression is refused, where there
-- was none
abbrev pub moved_until : Tree → ℕ
moved_until e = total_size (evaluated no_names.names no_names.arrays e).world

-- sequence(10) + nosuch(1) is refused behind the sequence, and nosuch(1) + sequence(10) before it
abbrev pub RefusedSumsMoveWhatCame : Type 0
RefusedSumsMoveWhatCame =
    (moved_until (binary Add (sequence_to 10) no_call) ≡ 11)
    × (moved_until (binary Add no_call (sequence_to 10)) ≡ 1)

-- a scope of these arrays that waits for nothing: each array can be lent
abbrev pub lent_wholly : State → Scope
lent_wholly s = record {
  names = s.names;
  arrays = s.arrays;
  watches = s.watches;
  flows = s.flows;
  lent = record { fresh = map (λ x. x.0) s.arrays.world; pending = []; holds = [] };
}

-- $x = sequence(2); flow $y = $x + 1; flow $z = $y * $y;
abbrev pub chained_flows : List StatementTree
chained_flows =
    bind (codes "x") (sequence_to 2) false
    ∷ flow (codes "y") (binary Add (named (codes "x")) (number (pos 1)))
    ∷ flow (codes "z") (binary Mul (named (codes "y")) (named (codes "y"))) ∷ []

-- Then flows take at most 15 steps where $x .= 4; is assigned: two to keep its values; for $y two to
-- bring in $x, one for the number 1, and twice two for what it gets; and for $z two to bring in $y,
-- once, and twice two. Where $z .= 4; is refused they take none.
pub record ChainedFlowsMoveLittle : Type 0 where
  pub followed : and_then (after_all chained_flows) (λ s.
      Ok (flows_steps (lent_wholly s) (named (codes "x")) Set (number (pos 4)))) ≡ Ok 15
  pub refused : and_then (after_all chained_flows) (λ s.
      Ok (flows_steps (lent_wholly s) (named (codes "z")) Set (number (pos 4)))) ≡ Ok 0
