use Rattle.pdl_shell.proofs.AnswersWhole.{summary_written, summary_unwritten}
use Rattle.pdl_shell.proofs.summary.summarize.Goals as goal

pub returns-in-Ok : goal.returns-in-Ok
returns-in-Ok g c left faults slots =
    let laws = c.slot_laws.ensures in
    summary_written c.telling_laws.ensures.each laws.none laws.quiet laws.nothing left faults slots _ _ _ _ _ _ c.in-Ok.ensures.tells
    c.args.keep_going c.args.rounds c.in-Ok.ensures.whole c.in-Ok.ensures.flushed c.in-Ok.ensures.cause

pub returns-in-Err : goal.returns-in-Err
returns-in-Err g c left faults slots =
    let laws = c.slot_laws.ensures in
    summary_unwritten c.telling_laws.ensures.each laws.none laws.quiet laws.nothing left faults slots _ _ _ _ _ _ c.in-Err.ensures.tells
    c.args.keep_going c.args.rounds c.in-Err.stop _ c.status_after.ensures c.in-Err.ensures.cause c.in-Err.ensures.prefix
