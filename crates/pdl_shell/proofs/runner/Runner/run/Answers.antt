use Rattle.std.proofs.Common.{refl}
use Rattle.pdl_shell.proofs.CourseFollowed.{runs_unanswered, runs_result, run_written, run_unwritten}
use Rattle.pdl_shell.proofs.runner.Runner.run.Goals as goal

pub returns-in_err-reported-clause-short : goal.returns-in_err-reported-clause-short
returns-in_err-reported-clause-short g c =
    runs_result c.from_residual.result c.in_err-reported.field-0.0 c.from_residual.ensures.1 _ _ _ _ _
    (runs_unanswered c.course_laws.ensures c.args.self.now _ _ _ _ c.in_err-reported.field-0.0 c.requires.running c.in_err-reported.ensures.short refl refl)

pub returns-in-None-clause-ran : goal.returns-in-None-clause-ran
returns-in-None-clause-ran g c =
    run_written c.args.self.now c.answer.new.self _ _ _ _ _ c.write_text.result c.deref.ensures.value (rw c.in-None.is at c.in_ok-reported.ensures.ran)
    c.write_text.ensures.whole c.write_text.ensures.cause

pub returns-in-None-clause-short : goal.returns-in-None-clause-short
returns-in-None-clause-short g c =
    run_unwritten c.course_laws.ensures c.args.self.now c.answer.new.self _ _ _ _ _ c.write_text.result c.deref.ensures.value (rw c.in-None.is at c.in_ok-reported.ensures.ran)
    c.write_text.ensures.prefix c.write_text.ensures.cause

pub returns-in-Some-clause-ran : goal.returns-in-Some-clause-ran
returns-in-Some-clause-ran g c =
    run_written c.args.self.now c.answer.new.self _ _ _ _ _ c.write.result refl (rw c.in-Some.is at c.in_ok-reported.ensures.ran)
    c.write.ensures.whole c.write.ensures.cause

pub returns-in-Some-clause-short : goal.returns-in-Some-clause-short
returns-in-Some-clause-short g c =
    run_unwritten c.course_laws.ensures c.args.self.now c.answer.new.self _ _ _ _ _ c.write.result refl (rw c.in-Some.is at c.in_ok-reported.ensures.ran)
    c.write.ensures.prefix c.write.ensures.cause
