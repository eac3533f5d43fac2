use Rattle.std.proofs.Common.{refl}
use Rattle.pdl_machine.proofs.RunPresence.{told_stays, none_comes, none_comes_in_a_run, stay_there, are_there_in_a_run}
use Rattle.pdl_machine.proofs.RunLawCounts.{each_is_counted, notices_are_numbered}
use Rattle.pdl_machine.proofs.RunLemmas.{ended_stays, printed_stays, fault_stays, goes_on, first_fault, ended_by_fault, refused_stay, refused_in_a_run, few_in_a_run, none_in_a_run, refusals_leave_all, too_long_ends, limit_ends}
use Rattle.pdl_machine.proofs.RunLawRising.{refused_rise}
use Rattle.pdl_machine.proofs.reading.run_laws.Goals as goal

pub returns-clause-ended : goal.returns-clause-ended
returns-clause-ended c = ended_stays

pub returns-clause-printed : goal.returns-clause-printed
returns-clause-printed c = printed_stays

pub returns-clause-told : goal.returns-clause-told
returns-clause-told c = told_stays

pub returns-clause-counted : goal.returns-clause-counted
returns-clause-counted c = each_is_counted

pub returns-clause-numbered : goal.returns-clause-numbered
returns-clause-numbered c = notices_are_numbered

pub returns-clause-none_comes : goal.returns-clause-none_comes
returns-clause-none_comes c = none_comes c.slot_laws.ensures.below c.slot_laws.ensures.below_twice

pub returns-clause-none_in_a_run : goal.returns-clause-none_in_a_run
returns-clause-none_in_a_run c = none_comes_in_a_run c.slot_laws.ensures.below c.slot_laws.ensures.below_twice

pub returns-clause-there : goal.returns-clause-there
returns-clause-there c = stay_there

pub returns-clause-there_in_a_run : goal.returns-clause-there_in_a_run
returns-clause-there_in_a_run c = are_there_in_a_run

pub returns-clause-faulted : goal.returns-clause-faulted
returns-clause-faulted c = fault_stays

pub returns-clause-goes_on : goal.returns-clause-goes_on
returns-clause-goes_on c = goes_on

pub returns-clause-first_fault : goal.returns-clause-first_fault
returns-clause-first_fault c = first_fault

pub returns-clause-by_fault : goal.returns-clause-by_fault
returns-clause-by_fault c = ended_by_fault

pub returns-clause-too_long : goal.returns-clause-too_long
returns-clause-too_long c = too_long_ends

pub returns-clause-limit : goal.returns-clause-limit
returns-clause-limit c = limit_ends

pub returns-clause-refused : goal.returns-clause-refused
returns-clause-refused c = refused_stay

pub returns-clause-refused_in_a_run : goal.returns-clause-refused_in_a_run
returns-clause-refused_in_a_run c = refused_in_a_run

pub returns-clause-rising : goal.returns-clause-rising
returns-clause-rising c = refused_rise

pub returns-clause-few : goal.returns-clause-few
returns-clause-few c = few_in_a_run

pub returns-clause-none_refused : goal.returns-clause-none_refused
returns-clause-none_refused c = none_in_a_run

pub returns-clause-most : goal.returns-clause-most
returns-clause-most c = refl

pub returns-clause-alone : goal.returns-clause-alone
returns-clause-alone c = refusals_leave_all
