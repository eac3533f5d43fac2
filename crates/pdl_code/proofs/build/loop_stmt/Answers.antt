use Rattle.pdl_code.proofs.TreeRows.{step_of_loop}
use Rattle.pdl_code.proofs.build.loop_stmt.Goals as goal

pub returns : goal.returns
returns g c = step_of_loop c.args.dimension c.args.body
