use Rattle.pdl_world.proofs.KeepingLawLemmas.{newest_keeps_all, newest_is_kept, more_keep_all, assigns_keep_all, cuts_keep_all, reshapes_keep_all, parents_are_live}
use Rattle.pdl_world.proofs.keeping_laws.Goals as goal

pub returns-clause-newest : goal.returns-clause-newest
returns-clause-newest c = newest_keeps_all

pub returns-clause-kept : goal.returns-clause-kept
returns-clause-kept c = newest_is_kept

pub returns-clause-more : goal.returns-clause-more
returns-clause-more c = more_keep_all

pub returns-clause-assigned : goal.returns-clause-assigned
returns-clause-assigned c = assigns_keep_all

pub returns-clause-cut : goal.returns-clause-cut
returns-clause-cut c = cuts_keep_all

pub returns-clause-reshaped : goal.returns-clause-reshaped
returns-clause-reshaped c = reshapes_keep_all

pub returns-clause-parents : goal.returns-clause-parents
returns-clause-parents c = parents_are_live
