use Rattle.pdl_scope.proofs.DumpingLemmas.{stem_seen}
use Rattle.pdl_scope.proofs.dumping.free_stem.Goals as goal

pub loop-index-preserved : goal.loop-index-preserved
loop-index-preserved c =
    stem_seen c.args.names.now.entries c.loop-index.index c.entry.result.0.now c.entry.result.1 c.loop-index.stems c.see.new.self
    c.entry.ensures c.loop-index.invariant c.in_ok-see.ensures.ok
