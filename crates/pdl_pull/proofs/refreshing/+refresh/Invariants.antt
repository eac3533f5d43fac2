use Rattle.pdl_pull.proofs.refreshing.+refresh.Given as goal

abbrev pub decreases-refresh : goal.decreases-refresh
decreases-refresh g l = l.id
