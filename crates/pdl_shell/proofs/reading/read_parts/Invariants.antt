use Rattle.std.proofs.Common.{◌≡◌, ◌+◌, ◌-◌, ◌≤◌, false}
use Rattle.pdl_io.specs.Told.{KeepsTelling}
use Rattle.pdl_lex.specs.Limits.{script_limit}
use Rattle.pdl_watch.specs.Slots.{slots_by}
use Rattle.pdl_session.specs.Watching.{AreServed}
use Rattle.pdl_shell.specs.Outside.{outlets}
use Rattle.pdl_shell.specs.Course.{Comes}
use Rattle.pdl_shell.proofs.reading.read_parts.Given as goal

abbrev pub invariant-reading : goal.invariant-reading
invariant-reading g l = record {
  comes : Comes l.initial.runner (g.S.Source.left l.initial.source)
      (outlets g.K.Sink.taken g.K.Sink.is_flushed g.K.Sink.faults l.initial.sink (slots_by g.W.Watcher.seen l.initial.watchers.items))
      l.taken l.runner (g.S.Source.left l.source)
      (outlets g.K.Sink.taken g.K.Sink.is_flushed g.K.Sink.faults l.sink (slots_by g.W.Watcher.seen l.watchers.items));
  works : l.runner.cutter.failed ≡ false;
  counted : l.runner.count ≤ l.runner.cutter.taken;
  fed : l.runner.cutter.taken ≤ l.taken;
  served : AreServed l.runner.session.state.watches (slots_by g.W.Watcher.seen l.watchers.items);
  tells : KeepsTelling (g.K.Sink.is_flushed l.initial.sink) (g.K.Sink.is_flushed l.sink);
  sources : g.S.Source.faults l.source ≡ g.S.Source.faults l.initial.source;
}

abbrev pub decreases-reading : goal.decreases-reading
decreases-reading g l = script_limit + 1 - l.taken
