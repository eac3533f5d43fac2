-- What a statement moves, whatever stands for its answer.
use Rattle.std.proofs.Common.{◌≡◌, ℕ, ◌+◌, ◌≤◌, Bool, List, Result, Ok, Err, IsOkAnd, sym, subst}
use Rattle.std.specs.Prelude.{OnErr, min}
use Rattle.pdl_watch.specs.Slots.{present_in}
use Rattle.pdl_machine.specs.Following.{AreFlows}
use Rattle.pdl_engine.specs.Held.{written_back}
use Rattle.pdl_engine.specs.Reading.{KeepsViews}
use Rattle.pdl_machine.specs.State.{kept, with_world}
use Rattle.pdl_machine.specs.Step.{Stepped, effect}
use Rattle.pdl_machine.specs.Tidy.{settled}
use Rattle.pdl_syntax.specs.StatementTree.{StatementTree}
use Rattle.pdl_scope.specs.Answers.{IfScript, IsFault, Prints, Runs}
use Rattle.pdl_scope.specs.Costs.{IsInOrder}
use Rattle.pdl_scope.specs.Scope.{Scope, engine_of, machine}
use Rattle.pdl_scope.specs.declared.fault.ScopeFault.{ScopeFault}
use Rattle.pdl_scope.specs.declared.fault.ScopeFault.TheVariants.{Script, NoMemory}
use Rattle.pdl_session.specs.Evaluations.{RunsAtMost}
use Rattle.pdl_session.specs.Faults.{ending, of_scope}
use Rattle.pdl_session.specs.Session.{AssignsAgain, IsAsBefore, PrintsAtMost}
use Rattle.pdl_session.specs.Steps.{HasStepped, Moment, step_from}
use Rattle.pdl_session.specs.Statements.{MovesAtMost, MovesByForm}

by_effect : (x : Stepped) (mid : Scope) (o n : List ℕ) → Prints x (machine mid) o n → IsOkAnd x (λ after. machine mid ≡ after.0)
by_effect (Ok after) mid o n h = h.0
by_effect (Err e) mid o n h = absurd h

-- a statement ran or was refused, and then what nothing reaches was let go
pub moves_at_most : {T : Type 0} (present : List Bool) (r : Result T ScopeFault) (st : StatementTree) (old mid new : Scope) (before now after : ℕ) (o n : List ℕ) → IsInOrder mid → Runs (effect present (machine old) st) old mid o n r → MovesByForm st old before now
    → machine new ≡ with_world (settled (machine mid)) (kept (machine mid)) → (KeepsViews mid.arrays.world new.arrays.world → after ≡ now) → after ≤ now + written_back (engine_of mid) new.arrays.world mid.arrays.world → OnErr r (after ≡ now)
    → MovesAtMost present st old new before after (ending r)
moves_at_most present (Ok x) st old mid new before now after o n in_order ran by_form left counted written refused = record {
  mid = mid;
  now = now;
  in_order = in_order;
  ran = by_effect (effect present (machine old) st) mid o n ran;
  by_form = by_form;
  left = left;
  counted = counted;
  written = written;
}
moves_at_most present (Err e) st old mid new before now after o n in_order ran by_form left counted written refused = subst (MovesByForm st old before) (sym refused) by_form

-- a statement that the scope refused
pub refused_step : (number : ℕ) (st : StatementTree) (old new : Moment) (f : ScopeFault) → IsFault (step_from number st old) f → new.session.state ≡ old.session.state → new.out ≡ old.out → new.slots ≡ old.slots
    → new.session.done ≡ min (old.session.done + 1) 18446744073709551615 → new.session.warm ≡ old.session.warm → IsAsBefore old.session.scope new.session.scope → AreFlows new.session.state.arrays new.session.state.flows
    → RunsAtMost old.session.scope st old.runs new.runs → IfScript {T = Unit {0}} (Err f) (new.runs ≡ old.runs) → MovesAtMost (present_in old.slots) st old.session.scope new.session.scope old.steps new.steps (Err f)
    → AssignsAgain old.session st old.steps new.steps → PrintsAtMost old.session st old.steps new.steps → HasStepped number st old new (Err (of_scope f))
refused_step number st old new (Script e) fault kept unprinted untold numbered warm scope flows flowing unrun bounded again shown = record {
  ok = tt;
  fault = fault;
  ran = tt;
  kept = kept;
  unprinted = unprinted;
  untold = untold;
  served = tt;
  numbered = numbered;
  warm = tt;
  warm_kept = warm;
  scope_kept = scope;
  flows = flows;
  flowing = flowing;
  unrun = unrun;
  bounded = bounded;
  again = again;
  shown = shown;
  readable = tt;
  in_place = tt;
  dumps = tt;
}
refused_step number st old new NoMemory fault kept unprinted untold numbered warm scope flows flowing unrun bounded again shown = record {
  ok = tt;
  fault = tt;
  ran = tt;
  kept = kept;
  unprinted = unprinted;
  untold = untold;
  served = tt;
  numbered = numbered;
  warm = tt;
  warm_kept = warm;
  scope_kept = scope;
  flows = flows;
  flowing = flowing;
  unrun = tt;
  bounded = bounded;
  again = again;
  shown = shown;
  readable = tt;
  in_place = tt;
  dumps = tt;
}
