use Rattle.pdl_world.proofs.BaseLawStays.{reached_keep_bases, sweeps_leave_looks}
use Rattle.pdl_world.proofs.SweptLemmas.{kept_were_reached, reached_are_kept, held_are_kept, reached_are_seen_as_before, sweeps_soundly, below_sweep, new_goes_unheld}
use Rattle.pdl_world.proofs.sweep_laws.Goals as goal

pub returns-clause-kept : goal.returns-clause-kept
returns-clause-kept c = kept_were_reached

pub returns-clause-reached : goal.returns-clause-reached
returns-clause-reached c = reached_are_kept

pub returns-clause-held : goal.returns-clause-held
returns-clause-held c = held_are_kept

pub returns-clause-seen : goal.returns-clause-seen
returns-clause-seen c = reached_are_seen_as_before

pub returns-clause-sound : goal.returns-clause-sound
returns-clause-sound c = sweeps_soundly

pub returns-clause-numbers : goal.returns-clause-numbers
returns-clause-numbers c = below_sweep

pub returns-clause-new : goal.returns-clause-new
returns-clause-new c = new_goes_unheld

pub returns-clause-bases : goal.returns-clause-bases
returns-clause-bases c = reached_keep_bases

pub returns-clause-assigned : goal.returns-clause-assigned
returns-clause-assigned c = sweeps_leave_looks
