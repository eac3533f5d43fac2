use Rattle.pdl_scope.proofs.ScopeWatches.{live_watch}
use Rattle.pdl_scope.proofs.watching.is_watched.Goals as goal

pub is_below-requires : goal.is_below-requires
is_below-requires c = live_watch c.args.engine.now.world c.args.watches.now c.loop-watch.watch-index c.requires
