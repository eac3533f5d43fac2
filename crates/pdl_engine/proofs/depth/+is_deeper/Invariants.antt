use Rattle.pdl_engine.proofs.depth.+is_deeper.Given as goal

abbrev pub decreases-is_deeper : goal.decreases-is_deeper
decreases-is_deeper l = l.count
