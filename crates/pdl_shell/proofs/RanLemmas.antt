-- What running a statement leaves, by what the session answers.
use Rattle.std.proofs.Common.{◌≡◌, ℕ, Bool, List, [], Result, Ok, Err, ap, refl, ◌∙◌, subst}
use Rattle.std.specs.Prelude.{OnOk, IfErr}
use Rattle.pdl_watch.specs.Slots.{Slots, OneMissed}
use Rattle.pdl_machine.specs.declared.fault.Fault.{Fault}
use Rattle.pdl_machine.specs.Run.{step_read}
use Rattle.pdl_machine.specs.State.{State}
use Rattle.pdl_machine.specs.Watches.{Watches}
use Rattle.pdl_syntax.specs.StatementTree.{StatementTree}
use Rattle.pdl_machine.specs.Step.{Done}
use Rattle.pdl_session.specs.Faults.{UnlessWatcher}
use Rattle.pdl_session.specs.Watching.{AreServed, HasDone, StopsStep, IsRefusal}
use Rattle.pdl_session.specs.declared.fault.StepFault.{StepFault}
use Rattle.pdl_session.specs.declared.fault.StepFault.TheVariants.{Script, Watcher, NoMemory}
use Rattle.pdl_shell.specs.Ran.{IsKept, LeavesState, AreServedAfter}
use Rattle.pdl_shell.specs.Unread.{IsFault}

kept_by : (e : StepFault) (state : State) (slots : Slots) (now : State) (old_text text : List ℕ) (slots_now : Slots) → old_text ≡ []
    → UnlessWatcher e (now ≡ state) → UnlessWatcher e (text ≡ old_text) → UnlessWatcher e (slots_now ≡ slots)
    → UnlessWatcher e (IsKept state slots now text slots_now)
kept_by (Script f) state slots now old_text text slots_now empty kept unprinted untold =
    record { state = kept; unprinted = unprinted ∙ empty; slots = untold }
kept_by Watcher state slots now old_text text slots_now empty kept unprinted untold = tt
kept_by NoMemory state slots now old_text text slots_now empty kept unprinted untold =
    record { state = kept; unprinted = unprinted ∙ empty; slots = untold }

-- what a session's step leaves
pub leaves_step : (result : Result (Unit {0}) StepFault) (wanted : Result Done Fault) (state : State) (slots : Slots) (now : State) (old_text text : List ℕ) (slots_now : Slots)
    → old_text ≡ [] → OnOk result (HasDone wanted now old_text text slots slots_now) → IfErr result (IsRefusal wanted slots slots_now)
    → IfErr result (λ e. UnlessWatcher e (now ≡ state)) → IfErr result (λ e. UnlessWatcher e (text ≡ old_text))
    → IfErr result (λ e. UnlessWatcher e (slots_now ≡ slots)) → LeavesState wanted state slots result now text slots_now
leaves_step (Ok x) wanted state slots now old_text text slots_now empty done fault kept unprinted untold =
    subst (λ (t : List ℕ). HasDone wanted now t text slots slots_now) empty done
leaves_step (Err e) wanted state slots now old_text text slots_now empty done fault kept unprinted untold =
    (fault, kept_by e state slots now old_text text slots_now empty kept unprinted untold)

served_kept : (e : StepFault) (state : State) (slots : Slots) (now : State) (slots_now : Slots) → AreServed state.watches slots
    → UnlessWatcher e (now ≡ state) → UnlessWatcher e (slots_now ≡ slots) → UnlessWatcher e (AreServed now.watches slots_now)
served_kept (Script f) state slots now slots_now served kept untold = rw (kept, untold) served
served_kept Watcher state slots now slots_now served kept untold = tt
served_kept NoMemory state slots now slots_now served kept untold = rw (kept, untold) served

pub served_step : (result : Result (Unit {0}) StepFault) (state : State) (slots : Slots) (now : State) (slots_now : Slots) → AreServed state.watches slots
    → OnOk result (AreServed now.watches slots_now) → IfErr result (λ e. UnlessWatcher e (now ≡ state))
    → IfErr result (λ e. UnlessWatcher e (slots_now ≡ slots)) → AreServedAfter result now.watches slots_now
served_step (Ok x) state slots now slots_now served still kept untold = still
served_step (Err e) state slots now slots_now served still kept untold = served_kept e state slots now slots_now served kept untold

-- what a refusal says, by which one it is
pub script_refused : (e : StepFault) (f : Fault) → e ≡ Script f → (wanted : Result Done Fault) (slots now : Slots) (state state_now : State) (text : List ℕ)
    → IsRefusal wanted slots now e → UnlessWatcher e (IsKept state slots state_now text now) → (wanted ≡ Err f) × IsKept state slots state_now text now
script_refused e f is wanted slots now state state_now text refusal kept = (
  subst (λ (x : StepFault). IsRefusal wanted slots now x) is refusal,
  subst (λ (x : StepFault). UnlessWatcher x (IsKept state slots state_now text now)) is kept,
)

pub watcher_refused : (e : StepFault) → e ≡ Watcher → (wanted : Result Done Fault) (slots now : Slots) → IsRefusal wanted slots now e
    → StopsStep wanted slots now × OneMissed slots now
watcher_refused e is wanted slots now refusal = subst (λ (x : StepFault). IsRefusal wanted slots now x) is refusal

pub memory_refused : (e : StepFault) → e ≡ NoMemory → (slots now : Slots) (state state_now : State) (text : List ℕ)
    → UnlessWatcher e (IsKept state slots state_now text now) → IsKept state slots state_now text now
memory_refused e is slots now state state_now text kept = subst (λ (x : StepFault). UnlessWatcher x (IsKept state slots state_now text now)) is kept

-- what a text leaves that is no statement: nothing is run
pub unread_leaves : (e : StepFault) (number : ℕ) (present : List Bool) (read : Result StatementTree Fault) (state : State) (slots : Slots) (text : List ℕ) → IsFault read e → text ≡ []
    → LeavesState (step_read number present state read) state slots (Err e) state text slots
unread_leaves (Script f) number present read state slots text is empty =
    (ap (step_read number present state) is, record { state = refl; unprinted = empty; slots = refl })
unread_leaves Watcher number present read state slots text is empty = absurd is
unread_leaves NoMemory number present read state slots text is empty =
    (tt, record { state = refl; unprinted = empty; slots = refl })

pub unread_served : (e : StepFault) (watches : Watches) (slots : Slots) → AreServed watches slots → AreServedAfter (Err e) watches slots
unread_served (Script f) watches slots served = served
unread_served Watcher watches slots served = tt
unread_served NoMemory watches slots served = served
