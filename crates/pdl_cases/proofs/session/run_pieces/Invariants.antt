use Rattle.pdl_watch.specs.Slots.{slots_by}
use Rattle.pdl_session.specs.Watching.{AreServed}
use Rattle.pdl_cases.proofs.session.run_pieces.Given as goal

abbrev pub invariant-loop-index : goal.invariant-loop-index
invariant-loop-index g l =
    AreServed l.session.state.watches (slots_by (λ b. (goal.Watcher-dyn g (b.vtable, b.value)).seen b.value) l.watchers.items)
