use Rattle.pdl_shell.proofs.AnswersWhole.{usage_written, usage_unwritten}
use Rattle.pdl_shell.proofs.run.usage.Goals as goal

pub returns-in-Ok : goal.returns-in-Ok
returns-in-Ok g c left faults slots =
    let laws = c.slot_laws.ensures in
    usage_written c.telling_laws.ensures.each laws.none laws.quiet laws.nothing left faults slots _ _ _ _ _ _ c.in-Ok.ensures.tells
    c.in-Ok.ensures.whole c.in-Ok.ensures.flushed c.in-Ok.ensures.cause.kept

pub returns-in-Err : goal.returns-in-Err
returns-in-Err g c left faults slots =
    let laws = c.slot_laws.ensures in
    usage_unwritten c.telling_laws.ensures.each laws.none laws.quiet laws.nothing left faults slots _ _ _ _ _ _ c.in-Err.ensures.tells
    c.in-Err.ensures.prefix c.in-Err.ensures.cause.rose
