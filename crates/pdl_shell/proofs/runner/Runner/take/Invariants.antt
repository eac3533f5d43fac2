use Rattle.std.proofs.Common.{◌≡◌, ◌+◌, ◌-◌, ◌≤◌, [], length, drop, false}
use Rattle.pdl_io.specs.Told.{KeepsTelling}
use Rattle.pdl_lex.specs.Pieces.{settled_from}
use Rattle.pdl_watch.specs.Slots.{slots_by}
use Rattle.pdl_session.specs.Watching.{AreServed}
use Rattle.pdl_shell.specs.Outside.{outlets}
use Rattle.pdl_shell.specs.Course.{Carries}
use Rattle.pdl_shell.proofs.runner.Runner.take.Given as goal

abbrev pub invariant-taking : goal.invariant-taking
invariant-taking g l = record {
  in_bytes : l.used ≤ length l.bytes;
  carried : Carries l.bytes l.initial.self
      (outlets g.K.Sink.taken g.K.Sink.is_flushed g.K.Sink.faults l.initial.sink (slots_by g.W.Watcher.seen l.initial.watchers.items))
      (drop l.used l.bytes) l.self
      (outlets g.K.Sink.taken g.K.Sink.is_flushed g.K.Sink.faults l.sink (slots_by g.W.Watcher.seen l.watchers.items));
  works : l.self.cutter.failed ≡ false;
  none_left : settled_from l.self.cutter [] ≡ [];
  counted : l.self.count ≤ l.self.cutter.taken;
  count : l.self.cutter.taken ≡ l.initial.self.cutter.taken + l.used;
  served : AreServed l.self.session.state.watches (slots_by g.W.Watcher.seen l.watchers.items);
  tells : KeepsTelling (g.K.Sink.is_flushed l.initial.sink) (g.K.Sink.is_flushed l.sink);
}

abbrev pub decreases-taking : goal.decreases-taking
decreases-taking g l = length l.bytes - l.used
