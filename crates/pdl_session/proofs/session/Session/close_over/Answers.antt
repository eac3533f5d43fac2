use Rattle.std.proofs.Common.{ap}
use Rattle.pdl_watch.specs.Slots.{slots_by}
use Rattle.pdl_scope.specs.Scope.{machine}
use Rattle.pdl_session.specs.Session.{Session}
use Rattle.pdl_session.proofs.SlotsClosed.{closed, closed_short}
use Rattle.pdl_session.proofs.session.Session.close_over.Goals as goal

pub returns-clause-ok : goal.returns-clause-ok
returns-clause-ok g c =
    closed c.finish.result (machine c.self.inside.scope) c.args.self.now.state c.watches.result.now (slots_by g.W.Watcher.seen c.args.watchers.now.items) (slots_by g.W.Watcher.seen c.finish.new.watchers.items)
    c.watches.ensures (ap (λ (s : Session). s.state) c.self.view_is) c.finish.ensures.ok

pub returns-clause-short : goal.returns-clause-short
returns-clause-short g c =
    closed_short c.finish.result (machine c.self.inside.scope) c.args.self.now.state c.watches.result.now (slots_by g.W.Watcher.seen c.args.watchers.now.items) (slots_by g.W.Watcher.seen c.finish.new.watchers.items)
    c.watches.ensures (ap (λ (s : Session). s.state) c.self.view_is) c.finish.ensures.short
