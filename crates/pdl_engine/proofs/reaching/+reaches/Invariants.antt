use Rattle.pdl_engine.proofs.reaching.+reaches.Given as goal

abbrev pub decreases-reaches : goal.decreases-reaches
decreases-reaches l = l.below
