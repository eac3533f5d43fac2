use Rattle.std.proofs.Common.{refl}
use Rattle.pdl_shell.specs.declared.stop.Stop.TheVariants.{Watcher}
use Rattle.pdl_shell.proofs.PaceCarried.{ends_stopped, ends_short, ends_unflushed, ends_unclosed, ends_whole}
use Rattle.pdl_shell.proofs.runner.Runner.finish.Goals as goal

pub returns-in_err-run_last-clause-ends : goal.returns-in_err-run_last-clause-ends
returns-in_err-run_last-clause-ends g c =
    ends_stopped c.args.is_cut c.args.self.now _ c.from_residual.result c.in_err-run_last.field-0.0 _ _ c.from_residual.ensures.1
    (ends_short c.args.is_cut c.args.self.now _ c.in_err-run_last.field-0.0 _ _ c.in_err-run_last.ensures.stops)

pub returns-in_err-flush-clause-ends : goal.returns-in_err-flush-clause-ends
returns-in_err-flush-clause-ends g c =
    ends_stopped c.args.is_cut c.args.self.now _ c.from_residual-in_err-flush.result c.in_err-flush.field-0.0 _ _ c.from_residual-in_err-flush.ensures.1
    (ends_unflushed c.course_laws.ensures c.args.is_cut c.args.self.now c.run_last.new.self _ _ c.in_err-flush.field-0.0 _ c.in_ok-run_last.ensures.finishes
    c.in_err-flush.ensures.same refl c.in_err-flush.ensures.cause)

pub returns-in_err-close_over-clause-ends : goal.returns-in_err-close_over-clause-ends
returns-in_err-close_over-clause-ends g c =
    ends_stopped c.args.is_cut c.args.self.now _ c.from_residual-in_err-close_over.result Watcher _ _ c.from_residual-in_err-close_over.ensures.1
    (ends_unclosed c.course_laws.ensures c.args.is_cut c.args.self.now c.run_last.new.self _ _ _ c.in_ok-run_last.ensures.finishes
    c.in_ok-flush.ensures.same c.in_ok-flush.ensures.flushed c.in_ok-flush.ensures.cause c.in_err-close_over.ensures.short)

pub returns-clause-ends : goal.returns-clause-ends
returns-clause-ends g c =
    ends_whole c.course_laws.ensures c.args.is_cut c.args.self.now c.run_last.new.self _ _ _ c.in_ok-run_last.ensures.finishes
    c.in_ok-flush.ensures.same c.in_ok-flush.ensures.flushed c.in_ok-flush.ensures.cause c.in_ok-close_over.ensures.ok
