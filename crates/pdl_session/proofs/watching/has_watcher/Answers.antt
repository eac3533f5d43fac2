use Rattle.std.proofs.Common.{◌∙◌, arith}
use Rattle.pdl_session.proofs.SlotsPresent.{present_at}
use Rattle.pdl_session.proofs.watching.has_watcher.Goals as goal

pub returns-then-at-len : goal.returns-then-at-len
returns-then-at-len g c =
    c.is_some.ensures ∙ present_at g.W.Watcher.seen c.args.watchers.now.items c.args.slot c.index.result.now (omega (arith, c.if-at-len.true, c.len.ensures)) c.index.ensures
