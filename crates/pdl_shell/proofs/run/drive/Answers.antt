use Rattle.pdl_shell.proofs.CourseFollowed.{served_first}
use Rattle.pdl_shell.proofs.CourseParts.{is_taken, leaves_parts, fails_parts, reads_parts, runs_stopped, causes_of}
use Rattle.pdl_shell.proofs.run.drive.Goals as goal

pub read_parts-requires-clause-served : goal.read_parts-requires-clause-served
read_parts-requires-clause-served g c =
    served_first g.W.Watcher.seen c.args.watchers.now.items c.args.runner.now c.requires.fresh c.requires.unfinished c.requires.few

pub returns-in_err-is_cut : goal.returns-in_err-is_cut
returns-in_err-is_cut g c =
    let parts = c.in_err-is_cut.ensures in
    runs_stopped _ _ c.in_err-is_cut.field-0.0 c.from_residual.result c.from_residual.ensures.1 _ _ parts.stops parts.reads parts.at_most parts.causes parts.tells

pub returns : goal.returns
returns g c =
    let parts = c.in_ok-is_cut.ensures in
    let comes = parts.comes in
    let laws = c.run_laws.ensures in
    let taken = is_taken c.in_ok-is_cut.is_cut comes.0 c.read_parts.new.runner (g.S.Source.left c.read_parts.new.source) comes.2 parts.end in
    record {
      leaves = λ script is.
          leaves_parts c.course_laws.ensures _ _ _ _ _ _ _ c.requires.fresh comes.1 c.finish.new.self.refused (λ n le. c.finish.ensures.ends.stays n le)
          laws.ended c.in_ok-is_cut.is_cut taken c.finish.result _ c.finish.ensures.ends script is;
      reads =
          reads_parts c.course_laws.ensures _ _ _ _ _ _ _ c.requires.fresh comes.1 c.finish.new.self.refused (λ n le. c.finish.ensures.ends.stays n le)
          laws.ended laws.by_fault laws.too_long c.in_ok-is_cut.is_cut taken
          c.finish.result (g.S.Source.faults c.args.source.now) (g.S.Source.faults c.read_parts.new.source) _ c.finish.ensures.ends;
      at_most = parts.at_most;
      causes =
          causes_of c.finish.result _ _ _ _ _ _ parts.causes.0
          (fails_parts c.course_laws.ensures _ _ _ _ _ _ _ c.requires.fresh comes.1 c.finish.new.self.refused (λ n le. c.finish.ensures.ends.stays n le)
          c.in_ok-is_cut.is_cut c.finish.result _ c.finish.ensures.ends);
      flushed = c.finish.ensures.flushed;
      tells = λ told. c.finish.ensures.tells (parts.tells told);
    }
