use Rattle.pdl_scope.proofs.ScopeFlows.{live_at}
use Rattle.pdl_scope.proofs.watching.has_view.Goals as goal

pub root-requires : goal.root-requires
root-requires c = live_at c.args.engine.now.world c.args.ids.now c.loop-id.id-index c.requires c.loop-id-test.true
