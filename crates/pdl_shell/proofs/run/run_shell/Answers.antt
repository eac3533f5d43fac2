use Rattle.std.proofs.Common.{refl}
use Rattle.pdl_shell.proofs.AnswersWhole.{answered_by, same_reading, quiet_complete}
use Rattle.pdl_shell.proofs.run.run_shell.Goals as goal

pub returns-clause-model : goal.returns-clause-model
returns-clause-model g c = (answered_by _ _ c.read_words.ensures _ _ refl _ _ _ c.run_command.ensures.answered).model

pub returns-clause-answers : goal.returns-clause-answers
returns-clause-answers g c = (answered_by _ _ c.read_words.ensures _ _ refl _ _ _ c.run_command.ensures.answered).answers

pub returns-clause-unread : goal.returns-clause-unread
returns-clause-unread g c unread = c.run_command.ensures.unread (same_reading _ _ c.read_words.ensures unread)

pub returns-clause-unwatched : goal.returns-clause-unwatched
returns-clause-unwatched g c unread = c.run_command.ensures.unwatched (same_reading _ _ c.read_words.ensures unread)

pub returns-clause-unrefused : goal.returns-clause-unrefused
returns-clause-unrefused g c unread = c.run_command.ensures.unrefused (same_reading _ _ c.read_words.ensures unread)

pub returns-clause-reads : goal.returns-clause-reads
returns-clause-reads g c = (answered_by _ _ c.read_words.ensures _ _ refl _ _ _ c.run_command.ensures.answered).reads

pub returns-clause-rising : goal.returns-clause-rising
returns-clause-rising g c = c.run_command.ensures.answered.rising

pub returns-clause-at_most : goal.returns-clause-at_most
returns-clause-at_most g c = c.run_command.ensures.answered.at_most

pub returns-clause-reason : goal.returns-clause-reason
returns-clause-reason g c = c.run_command.ensures.answered.reason

pub returns-clause-complete : goal.returns-clause-complete
returns-clause-complete g c = quiet_complete c.run_command.result _ _ c.run_command.ensures.answered.reason

pub returns-clause-flushed : goal.returns-clause-flushed
returns-clause-flushed g c = c.run_command.ensures.answered.flushed

pub returns-clause-tells : goal.returns-clause-tells
returns-clause-tells g c = c.run_command.ensures.answered.tells
