use Rattle.pdl_scope.proofs.ScopeWatches.{live_watch}
use Rattle.pdl_scope.proofs.watching.watched_count.Goals as goal

pub count_watched-requires : goal.count_watched-requires
count_watched-requires c = live_watch c.args.engine.now.world c.args.watches.now c.loop-watch.watch-index c.requires
