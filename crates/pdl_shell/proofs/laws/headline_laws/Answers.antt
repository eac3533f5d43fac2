use Rattle.pdl_shell.proofs.HeadlineLemmas.{ends_quiet, memory_quiet, watcher_rises, source_leaves, refused_read, done_reads, fault_reads, ends_write, memory_writes, all_front, cut_off_front, usage_alone, generating_alone}
use Rattle.pdl_shell.proofs.AnswerGuards.{few_taken, no_part_behind, quiet_undisturbed, others_front}
use Rattle.pdl_shell.proofs.HeadlineSlotsLemmas.{slots_stay, watchers_stay, none_appears, counts_kept, one_alone, finishing_last}
use Rattle.pdl_shell.proofs.laws.headline_laws.Goals as goal

pub returns-clause-quiet : goal.returns-clause-quiet
returns-clause-quiet c = ends_quiet

pub returns-clause-memory : goal.returns-clause-memory
returns-clause-memory c = memory_quiet

pub returns-clause-source : goal.returns-clause-source
returns-clause-source c old new reason = (reason.0, reason.1.0)

pub returns-clause-sink : goal.returns-clause-sink
returns-clause-sink c old new reason = (reason.0, reason.1)

pub returns-clause-watcher : goal.returns-clause-watcher
returns-clause-watcher c = watcher_rises

pub returns-clause-leaves : goal.returns-clause-leaves
returns-clause-leaves c = source_leaves

pub returns-clause-met : goal.returns-clause-met
returns-clause-met c = refused_read c.run_laws.ensures.refused_in_a_run c.run_laws.ensures.rising c.run_laws.ensures.few

pub returns-clause-reads : goal.returns-clause-reads
returns-clause-reads c = done_reads

pub returns-clause-fault_reads : goal.returns-clause-fault_reads
returns-clause-fault_reads c = fault_reads

pub returns-clause-writes : goal.returns-clause-writes
returns-clause-writes c = ends_write

pub returns-clause-front : goal.returns-clause-front
returns-clause-front c = all_front

pub returns-clause-tells : goal.returns-clause-tells
returns-clause-tells c = cut_off_front

pub returns-clause-usage : goal.returns-clause-usage
returns-clause-usage c answers = answers

pub returns-clause-spelled : goal.returns-clause-spelled
returns-clause-spelled c = usage_alone

pub returns-clause-generates : goal.returns-clause-generates
returns-clause-generates c = generating_alone

pub returns-clause-tells_some : goal.returns-clause-tells_some
returns-clause-tells_some c = others_front c.telling_laws.ensures.each

pub returns-clause-soon : goal.returns-clause-soon
returns-clause-soon c = no_part_behind c.run_laws.ensures.ended c.so_far_laws.ensures.grows

pub returns-clause-few : goal.returns-clause-few
returns-clause-few c = few_taken

pub returns-clause-undisturbed : goal.returns-clause-undisturbed
returns-clause-undisturbed c = quiet_undisturbed

pub returns-clause-writes_some : goal.returns-clause-writes_some
returns-clause-writes_some c = memory_writes

pub returns-clause-slots : goal.returns-clause-slots
returns-clause-slots c = slots_stay c.slot_laws.ensures.told_long c.slot_laws.ensures.long

pub returns-clause-stays : goal.returns-clause-stays
returns-clause-stays c = watchers_stay

pub returns-clause-appears : goal.returns-clause-appears
returns-clause-appears c = none_appears

pub returns-clause-counts : goal.returns-clause-counts
returns-clause-counts c = counts_kept

pub returns-clause-alone : goal.returns-clause-alone
returns-clause-alone c = one_alone

pub returns-clause-last : goal.returns-clause-last
returns-clause-last c = finishing_last c.telling_laws.ensures.each
