-- What watchers are told of an assignment, whatever new arrays came before it.
use Rattle.std.proofs.Common.{◌≡◌, ℕ, List, [], map, Result, Ok, Err, sym, ap, ◌∙◌}
use Rattle.std.specs.Prelude.{Vec, IfOk}
use Rattle.std.specs.Global.{Global}
use Rattle.pdl_watch.specs.declared.notice.Notice.{Notice}
use Rattle.pdl_watch.specs.Slots.{lists_of}
use Rattle.pdl_machine.specs.declared.fault.Fault.{Fault}
use Rattle.pdl_machine.specs.Arrays.{Arrays}
use Rattle.pdl_machine.specs.Laws.{GrowingTellsTheSame}
use Rattle.pdl_machine.specs.State.{State, with_arrays, IsWhole}
use Rattle.pdl_machine.specs.Step.{flowed}
use Rattle.pdl_machine.specs.Then.{and_then}
use Rattle.pdl_machine.specs.Watches.{attached, notices}
use Rattle.pdl_scope.specs.declared.fault.ScopeFault.{ScopeFault}
use Rattle.pdl_scope.specs.Answers.{Prints, Runs}
use Rattle.pdl_scope.specs.Growth.{as_grown}
use Rattle.pdl_scope.specs.Scope.{Scope, machine, Grows}
use Rattle.pdl_session.proofs.FlowNeeds.{live_behind}

same_watches : (x : Result Arrays Fault) (s new : State) (o n : List ℕ) → Prints (and_then x (λ a. Ok (flowed (with_arrays s a), []))) new o n → new.watches ≡ s.watches
same_watches (Ok a) s new o n h = ap (λ (t : State). t.watches) h.0
same_watches (Err e) s new o n h = absurd h

-- what an assignment tells, after its target and its right side came
pub assigned_told : (r : Result (Vec (Vec Notice Global) Global) ScopeFault) (number : ℕ) (old late new : Scope) (values : Result Arrays Fault) → GrowingTellsTheSame
    → IsWhole (machine old) → IsWhole (machine late) → Grows old late
    → Runs (and_then values (λ a. Ok (flowed (with_arrays (machine late) a), []))) late new [] [] r
    → IfOk r (λ all. lists_of all.items ≡ notices number late.arrays.world new.arrays.world late.watches)
    → IfOk r (λ all. lists_of all.items ≡ notices number old.arrays.world new.arrays.world new.watches)
assigned_told (Err e) number old late new values growing whole after g ran told = tt
assigned_told (Ok all) number old late new values growing whole after g ran told =
    told ∙ ap (notices number late.arrays.world new.arrays.world) g.watches
    ∙ growing number old.arrays late.arrays new.arrays.world old.watches (as_grown old late g) after.sound
    (live_behind old.arrays.world (map (λ n. n.1) old.names.arrays) (attached old.watches) whole.live)
    ∙ ap (notices number old.arrays.world new.arrays.world) (sym (same_watches values (machine late) (machine new) [] [] ran ∙ g.watches))
