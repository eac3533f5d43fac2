use Rattle.pdl_scope.proofs.ScopeFlows.{live_at}
use Rattle.pdl_scope.proofs.flowing.reach.Goals as goal

pub reaches-requires : goal.reaches-requires
reaches-requires c = live_at c.args.engine.now.world c.args.ids.now c.loop-id.id-index c.requires c.loop-id-test.true
