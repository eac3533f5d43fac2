-- When a session can take a step over slots of watchers.
use Rattle.std.proofs.Common.{◌≡◌, ◌≤◌, ℕ, List, [], Option, length, sym, true≢false}
use Rattle.std.specs.Prelude.{IsSome}
use Rattle.std.proofs.lemmas.List.{length-map}
use Rattle.pdl_watch.specs.Slots.{Slots, slots_by, AreOpen}
use Rattle.pdl_watch.specs.Watched.{Watched}
use Rattle.pdl_machine.specs.State.{State}
use Rattle.pdl_machine.specs.Watches.{watch_of}
use Rattle.pdl_scope.specs.Scope.{slots_limit}
use Rattle.pdl_session.specs.Session.{Session, no_steps}
use Rattle.pdl_session.specs.Watching.{AreServed}

none_attached : (k : ℕ) → IsSome (watch_of [] k) → ⊥
none_attached k attached = true≢false (sym attached)

-- before the first statement nothing is attached
pub served_first : {W : Type 0} (see : W → Watched) (items : List (Option W)) (session : Session) → AreOpen (slots_by see items)
    → length items ≤ slots_limit → session ≡ no_steps → AreServed session.state.watches (slots_by see items)
served_first see items session unfinished few new =
    rw new (record { unfinished = unfinished; few = rw length-map few; there = λ k attached. absurd (none_attached k attached) })

-- after a refusal that leaves state and slots
pub served_still : (old new : State) (was now : Slots) → AreServed old.watches was → new ≡ old → now ≡ was → AreServed new.watches now
served_still old new was now served kept untold = rw (kept, untold) served
