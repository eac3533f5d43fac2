use Rattle.pdl_shell.proofs.AnswersWhole.{answered_run}
use Rattle.pdl_shell.proofs.run.run_script.Goals as goal

pub returns : goal.returns
returns g c = answered_run c.run_laws.ensures.rising c.run_parts-ran.result c.args.keep_going c.run_parts-ran.new.refused _ c.status_after.ensures _ _ c.run_parts-ran.ensures
