use Rattle.std.proofs.Common.{sym, ◌∙◌}
use Rattle.pdl_shell.proofs.AnswersWhole.{runs_by}
use Rattle.pdl_shell.proofs.run.run_parts.Goals as goal

pub returns : goal.returns
returns g c = runs_by _ _ c.new-runner.ensures.keep _ _ (sym (c.take_over.ensures ∙ c.refused.ensures)) c.drive-ran.result _ _ c.drive-ran.ensures
