use Rattle.std.proofs.Common.{◌≡◌, refl, sym, subst}
use Rattle.pdl_session.specs.declared.fault.StepFault.TheVariants as refusing
use Rattle.pdl_watch.specs.Slots.{slots_by}
use Rattle.pdl_shell.specs.declared.runner.Runner.{Runner}
use Rattle.pdl_shell.specs.Marks.{mark_of}
use Rattle.pdl_shell.specs.Course.{Answers}
use Rattle.pdl_shell.proofs.RanLemmas.{script_refused, watcher_refused, memory_refused}
use Rattle.pdl_shell.proofs.CourseFollowed.{answers_done, answers_fault, answers_refused, answers_stopped}
use Rattle.pdl_shell.proofs.runner.Runner.answer.Goals as goal

pub returns-in-Ok-clause-ran : goal.returns-in-Ok-clause-ran
returns-in-Ok-clause-ran g c =
    answers_done c.course_laws.ensures c.args.self.now _ _ _ _ _ c.requires.counted c.requires.running c.count_one.ensures.after refl refl refl refl refl c.in-Ok.ensures.ran

pub returns-in-Err-Script-clause-ran : goal.returns-in-Err-Script-clause-ran
returns-in-Err-Script-clause-ran g c =
    let is : c.in-Err-Script.field-0 ≡ refusing.Script c.in-Err-Script.fault = rw c.in-Err-Script.is at c.in-Err-Script.field-0-is in
    let left = rw c.in-Err-Script.is at c.run_mark-ran.ensures.ran in
    let ran = script_refused _ _ is _ _ _ _ _ _ left.0 left.1 in
    subst (λ (r : Runner). Answers (mark_of c.args.mark.now) c.args.self.now (slots_by g.W.Watcher.seen c.args.watchers.now.items) r (slots_by g.W.Watcher.seen c.run_mark-ran.new.watchers.items) c.fault.result)
    (sym c.fault.ensures.rest)
    (answers_fault c.course_laws.ensures c.args.self.now _ _ _ _ _ c.in-Err-Script.fault _ c.requires.counted c.requires.running c.count_one.ensures.after refl refl refl
    refl refl ran.0 ran.1.state ran.1.slots c.fault.ensures.line)

pub returns-in-Err-NoMemory-clause-ran : goal.returns-in-Err-NoMemory-clause-ran
returns-in-Err-NoMemory-clause-ran g c =
    let is : c.in-Err-NoMemory.field-0 ≡ refusing.NoMemory = rw c.in-Err-NoMemory.is at c.in-Err-NoMemory.field-0-is in
    let left = rw c.in-Err-NoMemory.is at c.run_mark-ran.ensures.ran in
    let kept = memory_refused _ is _ _ _ _ _ left.1 in
    subst (λ (r : Runner). Answers (mark_of c.args.mark.now) c.args.self.now (slots_by g.W.Watcher.seen c.args.watchers.now.items) r (slots_by g.W.Watcher.seen c.run_mark-ran.new.watchers.items) c.refuse.result)
    (sym c.refuse.ensures.rest)
    (answers_refused c.course_laws.ensures c.args.self.now _ _ _ _ _ _ c.requires.counted c.requires.running c.count_one.ensures.after refl refl refl
    refl refl kept.state kept.slots c.refuse.ensures.line)

pub returns-in-Err-Watcher-clause-short : goal.returns-in-Err-Watcher-clause-short
returns-in-Err-Watcher-clause-short g c =
    let is : c.in-Err-Watcher.field-0 ≡ refusing.Watcher = rw c.in-Err-Watcher.is at c.in-Err-Watcher.field-0-is in
    let left = rw c.in-Err-Watcher.is at c.run_mark-ran.ensures.ran in
    let ran = watcher_refused _ is _ _ _ left.0 in
    answers_stopped c.course_laws.ensures c.args.self.now _ _ _ _ _ c.requires.counted c.requires.running c.count_one.ensures.after refl refl ran.0 ran.1
