-- What running a statement moves at most, by its form, and what letting go moves after it.
use Rattle.std.specs.Option.{option_map_or}
use Rattle.std.specs.Prelude.{◌≡◌, ℕ, ◌+◌, ◌≤◌, if◌then◌else◌, Bool, true, false, List, [], Result, Ok, Err, IsOkAnd, sum_by}
use Rattle.pdl_syntax.specs.StatementTree.{StatementTree, assign, bind, bind_list, dump, flow, reshape, sever, show}
use Rattle.pdl_engine.specs.Held.{written_back}
use Rattle.pdl_engine.specs.Reading.{KeepsViews}
use Rattle.pdl_machine.specs.Names.{number_of}
use Rattle.pdl_machine.specs.State.{kept, with_world}
use Rattle.pdl_machine.specs.Step.{effect, target}
use Rattle.pdl_machine.specs.Tidy.{settled}
use Rattle.pdl_machine.specs.Value.{value_of}
use Rattle.pdl_scope.specs.Costs.{IsInOrder, MovesUpTo}
use Rattle.pdl_scope.specs.Dumping.{dump_steps, is_refused_unread}
use Rattle.pdl_scope.specs.Scope.{Scope, engine_of, machine}
use Rattle.pdl_scope.specs.declared.fault.ScopeFault.{ScopeFault}
use Rattle.pdl_session.specs.Came.{evaluated, flow_came, list_came, sides_evaluated, sizes_came, sizes_taken}
use Rattle.pdl_session.specs.Costs.{argued_steps, named_steps}
use Rattle.pdl_session.specs.Moves.{assign_steps, cut_steps, reshape_steps, value_size}

-- A binding, a flow and a print move what their expression takes; an assignment, a cut and other
-- dimensions what they do besides, an assignment with the flows that follow it; a dump reads each
-- root, unless it is refused before. No other statement takes a step. Where a fault refuses a
-- statement, the arrays count that came until then, and where memory ran out those that were to
-- come.
abbrev pub MovesByForm : StatementTree → (old : Scope) → (before after : ℕ) → Type 0
MovesByForm (bind x e false) old before after =
    MovesUpTo (named_steps old e) old (evaluated old.names old.arrays e) before after
MovesByForm (bind x e true) old before after =
    MovesUpTo (named_steps old e + value_size (value_of old.names old.arrays e)) old
    (evaluated old.names old.arrays e) before after
MovesByForm (bind_list xs e) old before after =
    MovesUpTo (named_steps old e) old (list_came old xs e) before after
MovesByForm (assign x views sign e) old before after =
    MovesUpTo (assign_steps old (target x views) sign e) old
    (sides_evaluated old (target x views) e) before after
MovesByForm (show e info) old before after =
    MovesUpTo (named_steps old e) old (evaluated old.names old.arrays e) before after
MovesByForm (sever x) old before after =
    after ≤ before + option_map_or (cut_steps (engine_of old)) (number_of old.names x) 0
MovesByForm (reshape x args) old before after =
    MovesUpTo (argued_steps old args + reshape_steps old x (sizes_taken old x args)) old
    (sizes_came old x args) before after
MovesByForm (flow x e) old before after =
    MovesUpTo (named_steps old e) old (flow_came old x e) before after
MovesByForm dump old before after =
    after ≤ before + (if is_refused_unread (machine old) then 0
    else sum_by (dump_steps (engine_of old)) old.arrays.world)
MovesByForm _ old before after = after ≡ before

-- A statement that ran moved at most what its form says. What nothing reaches was let go from the
-- scope that its effect leaves, which moved nothing where no view went, and else at most what waited
-- in the views that went.
pub record MovesAndLetsGo (present : List Bool) (statement : StatementTree) (old new : Scope)
    (before after : ℕ) : Type 0 where
  pub mid : Scope
  pub now : ℕ
  pub in_order : IsInOrder mid
  pub ran : IsOkAnd (effect present (machine old) statement) (λ x. machine mid ≡ x.0)
  pub by_form : MovesByForm statement old before now
  pub left : machine new ≡ with_world (settled (machine mid)) (kept (machine mid))
  pub counted : KeepsViews mid.arrays.world new.arrays.world → after ≡ now
  pub written : after ≤ now + written_back (engine_of mid) new.arrays.world mid.arrays.world

-- What a statement moved at most: where it was refused, what its form says, since what is let go
-- then moves nothing.
abbrev pub MovesAtMost : (present : List Bool) → StatementTree → (old new : Scope)
    → (before after : ℕ) → Result (Unit {0}) ScopeFault → Type 0
MovesAtMost present statement old new before after (Ok x) =
    MovesAndLetsGo present statement old new before after
MovesAtMost present statement old new before after (Err e) =
    MovesByForm statement old before after
