use Rattle.pdl_scope.proofs.ScopeFlows.{live_at}
use Rattle.pdl_scope.proofs.watching.count_all.Goals as goal

pub count_below-requires : goal.count_below-requires
count_below-requires c = live_at c.args.engine.now.world c.args.ids.now c.loop-id.id-index c.requires c.loop-id-test.true
