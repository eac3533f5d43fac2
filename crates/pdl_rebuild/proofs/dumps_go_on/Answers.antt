use Rattle.pdl_rebuild.proofs.RunningLemmas.{dumps_go_on, runs_begin_so}
use Rattle.pdl_rebuild.proofs.dumps_go_on.Goals as goal

pub returns : goal.returns
returns c = record {
  on = dumps_go_on c.dumps_rebuild.ensures c.dumps_are_reread.ensures c.run_laws.ensures.goes_on;
  start = runs_begin_so;
}
